-- Any two results that the contract of `sort_topological` allows are equal.
use Rattle.std.specs.Prelude.{ℕ, Bool, List}
use Rattle.columns.specs.Answers.{said}
use Rattle.columns.specs.Determined.{Determined}
use Rattle.columns.proofs.Determined.{determined}
use Rattle.columns.proofs.Saying.{same_answer}
use Rattle.table.specs.Lts.{Lts}
use Rattle.table_order.specs.Call.{sort_topological}

pub sort_topological_lem :
    (t : Lts) (hidden reversed : Bool) (places marks stack : List ℕ) →
    Determined said (sort_topological t hidden reversed places marks stack)
sort_topological_lem t hidden reversed places marks stack = determined same_answer
