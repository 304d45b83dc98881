-- Any two results that the contract of `reduce_file` allows are equal.
use Rattle.std.specs.Prelude.{ℕ, List}
use Rattle.columns.specs.Determined.{Determined}
use Rattle.columns.proofs.Determined.{determined}
use Rattle.file_reduction.specs.Answers.{said_file}
use Rattle.file_reduction.specs.Reducing.{reduce_file}
use Rattle.file_reduction.proofs.OneResult.{same_file}

pub reduce_file_lem : (input output : List ℕ) → Determined said_file (reduce_file input output)
reduce_file_lem input output = determined same_file
