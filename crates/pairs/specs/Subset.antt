-- Whether every pair of one list, apart from the excluded one, is in another.
use Rattle.std.specs.Prelude.{ℕ, Bool, not, ◌&&◌, ◌||◌, List, [], ◌∷◌, nat_le}
use Rattle.columns.specs.Answers.{Refusal}
use Rattle.columns.specs.Answers.{Said, answering}
use Rattle.columns.specs.Counting.{bit, first, all}
use Rattle.columns.specs.Due.{due}
use Rattle.columns.specs.Sets.{Pair, pair_lt, pair_eq, among}
use Rattle.columns.specs.Rows.{pair_at, pairs_of}
use Rattle.pairs.specs.Pairs.{shorter, end_of, pairs, bad_pair, list_test}

-- a pair is in a list
unfoldable pub has_pair : List Pair → Pair → Bool
unfolding among pair_eq
has_pair l x = among pair_eq x l

-- every pair of other, apart from the excluded one, is in self
unfoldable pub subsetb : List ℕ → List ℕ → List ℕ → List ℕ → Pair → Bool
unfolding all shorter pair_eq pair_at pairs_of has_pair
subsetb self_labels self_blocks other_labels other_blocks x =
    all (end_of other_labels other_blocks)
    (λ j. let y = pair_at other_labels other_blocks j in pair_eq y x || has_pair (pairs self_labels self_blocks) y)

-- the first of the pairs from i to before n that is not below x, n if there is none
unfoldable pub not_below : List ℕ → List ℕ → ℕ → ℕ → Pair → ℕ
unfolding first pair_lt pair_at
not_below labels blocks n i x = first n (λ k. nat_le i k && not (pair_lt (pair_at labels blocks k) x))

-- 15, for self first
unfoldable pub subset_refusal : List ℕ → List ℕ → List ℕ → List ℕ → Refusal
unfolding due first shorter bad_pair
subset_refusal self_labels self_blocks other_labels other_blocks =
    due (list_test self_labels self_blocks ∷ list_test other_labels other_blocks ∷ [])

unfoldable pub is_subset_of : List ℕ → List ℕ → List ℕ → List ℕ → Pair → Said
unfolding answering subset_refusal subsetb
is_subset_of self_labels self_blocks other_labels other_blocks x =
    answering (subset_refusal self_labels self_blocks other_labels other_blocks)
    (bit (subsetb self_labels self_blocks other_labels other_blocks x) ∷ [])
