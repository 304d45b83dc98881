-- Any two results that the contract of the reduction allows are equal.
use Rattle.columns.specs.Determined.{Determined}
use Rattle.columns.proofs.Determined.{determined}
use Rattle.reduction.specs.Answers.{said_reduction}
use Rattle.reduction.specs.Reducing.{Slices, strong_reduction}
use Rattle.reduction.proofs.OneResult.{same_reduction}
use Rattle.table.specs.Lts.{Lts}

pub strong_reduction_lem : (t : Lts) (lent : Slices) → Determined said_reduction (strong_reduction t lent)
strong_reduction_lem t lent = determined same_reduction
