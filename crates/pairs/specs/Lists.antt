-- Lists of pairs that lie flat in two columns, with n + 1 starts: list u is the pairs from start u to before start u + 1.
use Rattle.std.specs.Prelude.{ℕ, ◌+◌, ◌-◌, ◌<◌, ◌≤◌, Bool, ◌&&◌, ◌||◌, List, [], ◌∷◌, nat_lt, slice_index}
use Rattle.columns.specs.Columns.{NeverFalls}
use Rattle.columns.specs.Answers.{Refusal}
use Rattle.columns.specs.Counting.{first, some}
use Rattle.columns.specs.Due.{Test, due}
use Rattle.columns.specs.Sets.{Pair, pair_lt, Ascending}
use Rattle.columns.specs.Rows.{pairs_between}
use Rattle.pairs.specs.Pairs.{shorter, end_of, bad_pair, least_test}

abbrev pub start_at : List ℕ → ℕ → ℕ
start_at starts u = slice_index starts u

-- the pairs of list u, in order
unfoldable pub list_at : List ℕ → List ℕ → List ℕ → ℕ → List Pair
unfolding pairs_between
list_at starts labels blocks u = pairs_between labels blocks (start_at starts u) (start_at starts (u + 1))

-- start u lies below the one before, or past the end
unfoldable pub bad_start : List ℕ → ℕ → ℕ → Bool
bad_start starts end u = (nat_lt 0 u && nat_lt (start_at starts u) (start_at starts (u - 1))) || nat_lt end (start_at starts u)

-- pair j lies in some list and is not above the one before it there
unfoldable pub bad_in_lists : List ℕ → ℕ → List ℕ → List ℕ → ℕ → Bool
unfolding some bad_pair
bad_in_lists starts n labels blocks j =
    some n (λ u. nat_lt j (start_at starts (u + 1)) && bad_pair labels blocks (start_at starts u) j)

-- 15 at the first bad start, else at the first bad pair
abbrev pub lists_tests : List ℕ → ℕ → List ℕ → List ℕ → List Test
lists_tests starts n labels blocks =
    least_test (n + 1) (bad_start starts (end_of labels blocks)) ∷ least_test (end_of labels blocks) (bad_in_lists starts n labels blocks) ∷ []

unfoldable pub lists_refusal : List ℕ → ℕ → List ℕ → List ℕ → Refusal
unfolding due first shorter bad_start bad_in_lists
lists_refusal starts n labels blocks = due (lists_tests starts n labels blocks)

-- the starts never fall, and none is past the end
pub record Starts (starts : List ℕ) (n end : ℕ) : Type 0 where
  pub rising : NeverFalls starts (n + 1)
  pub inside : (u : ℕ) → u ≤ n → start_at starts u ≤ end

-- what a call may go by once the lists are checked
pub record Lists (starts : List ℕ) (n : ℕ) (labels blocks : List ℕ) : Type 0 where
  pub bounds : Starts starts n (end_of labels blocks)
  pub ascending : (u : ℕ) → u < n → Ascending pair_lt (list_at starts labels blocks u)
