-- Any two results that the contract of `is_subset_of` allows are equal.
use Rattle.std.specs.Prelude.{ℕ, List}
use Rattle.columns.specs.Answers.{said_flag}
use Rattle.columns.specs.Determined.{DeterminedAnswer}
use Rattle.columns.specs.Sets.{Pair}
use Rattle.columns.proofs.Determined.{determined_answer}
use Rattle.columns.proofs.Saying.{same_flag}
use Rattle.pairs.specs.Subset.{is_subset_of}

-- the labels and blocks of self and of other, and the excluded pair
pub is_subset_of_lem : (sl sb ol ob : List ℕ) (x : Pair) → DeterminedAnswer said_flag (is_subset_of sl sb ol ob x)
is_subset_of_lem sl sb ol ob x = determined_answer same_flag
