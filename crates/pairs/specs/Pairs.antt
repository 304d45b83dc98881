-- Pairs (label, block) in two lent columns, and 15 for a list of pairs that does not ascend.
use Rattle.std.specs.Prelude.{ℕ, ◌-◌, Bool, cond, not, ◌&&◌, List, length, nat_le, nat_lt}
use Rattle.columns.specs.Limits.{wrong_list}
use Rattle.columns.specs.Counting.{first}
use Rattle.columns.specs.Due.{Test, test}
use Rattle.columns.specs.Rows.{pair_at, pairs_of}
use Rattle.columns.specs.Sets.{Pair, pair_lt}

-- the shorter of two lengths
unfoldable pub shorter : ℕ → ℕ → ℕ
shorter a b = cond (nat_lt a b) a b

-- where the list in two columns ends
abbrev pub end_of : List ℕ → List ℕ → ℕ
end_of labels blocks = shorter (length labels) (length blocks)

-- the pairs, in order
abbrev pub pairs : List ℕ → List ℕ → List Pair
pairs labels blocks = pairs_of (end_of labels blocks) labels blocks

-- pair j is not the first of the list that begins at x, and not above the one before
unfoldable pub bad_pair : List ℕ → List ℕ → ℕ → ℕ → Bool
unfolding pair_lt pair_at
bad_pair labels blocks x j = nat_lt x j && not (pair_lt (pair_at labels blocks (j - 1)) (pair_at labels blocks j))

-- 15 at the least index below n that is bad
abbrev pub least_test : ℕ → (ℕ → Bool) → Test
least_test n bad = test (nat_le n (first n bad)) wrong_list (first n bad)

-- 15 at the first pair that is not above the one before
abbrev pub list_test : List ℕ → List ℕ → Test
list_test labels blocks = least_test (end_of labels blocks) (bad_pair labels blocks 0)
