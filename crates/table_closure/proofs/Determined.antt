-- Any two results that the contract of `mark_backward_closure` allows are equal.
use Rattle.std.specs.Prelude.{ℕ, List}
use Rattle.columns.specs.Answers.{said}
use Rattle.columns.specs.Determined.{Determined}
use Rattle.columns.proofs.Determined.{determined}
use Rattle.columns.proofs.Saying.{same_answer}
use Rattle.partition.specs.Partition.{Partition}
use Rattle.table.specs.Lts.{Lts}
use Rattle.table_closure.specs.Closure.{mark_backward_closure}

pub mark_backward_closure_lem :
    (t : Lts) (p : Partition) (b : ℕ) (order spare : List ℕ) → Determined said (mark_backward_closure t p b order spare)
mark_backward_closure_lem t p b order spare = determined same_answer
