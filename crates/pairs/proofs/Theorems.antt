-- What `is_subset_of` has found where it says done, and when lists of pairs are refused, in document 01's words.
use Rattle.std.specs.Prelude.{◌≡◌, ℕ, ◌⊎◌, List, [], ◌∷◌}
use Rattle.columns.specs.Answers.{done}
use Rattle.columns.specs.Counting.{bit}
use Rattle.columns.specs.Sets.{Mem, Pair, pair_lt, Ascending}
use Rattle.columns.proofs.Doing.{answering_done, SaysWhether, says_whether}
use Rattle.pairs.specs.Pairs.{pairs}
use Rattle.pairs.specs.Subset.{subsetb, subset_refusal, is_subset_of}
use Rattle.pairs.proofs.Subsets.{checked_of, subset_law}
-- Two lists are not refused if both ascend. Given lists pass exactly if the starts never fall, none is past the end, and each list ascends.
pub use Rattle.pairs.proofs.Subsets.{of_checked}
pub use Rattle.pairs.proofs.Listing.{lists_of, of_lists}

-- a call that says these numbers: `self` and `other` each lie in two columns, and x is the excluded pair
pub record SubsetDone (self_labels self_blocks other_labels other_blocks : List ℕ) (x : Pair) (values : List ℕ) : Type 0 where
  -- both are signatures: strictly ascending
  pub self_ascends : Ascending pair_lt (pairs self_labels self_blocks)
  pub other_ascends : Ascending pair_lt (pairs other_labels other_blocks)
  -- it says yes exactly if every pair of other, apart from the excluded one, is in self
  pub whether :
      SaysWhether values ((y : Pair) → Mem y (pairs other_labels other_blocks) → (y ≡ x) ⊎ Mem y (pairs self_labels self_blocks))

pub subset_done :
    (self_labels self_blocks other_labels other_blocks : List ℕ) (x : Pair) (values : List ℕ)
    → done values ≡ is_subset_of self_labels self_blocks other_labels other_blocks x
    → SubsetDone self_labels self_blocks other_labels other_blocks x values
unfolding is_subset_of
subset_done self_labels self_blocks other_labels other_blocks x values e =
    let b = subsetb self_labels self_blocks other_labels other_blocks x in
    let k = answering_done (subset_refusal self_labels self_blocks other_labels other_blocks) values (bit b ∷ []) e in
    let c = checked_of self_labels self_blocks other_labels other_blocks k.0 in
    record {
      self_ascends = c.0;
      other_ascends = c.1;
      whether = says_whether b values k.1 (subset_law self_labels self_blocks other_labels other_blocks x);
    }
