-- Any two results that the contract of `tau_scc_decomposition` allows are equal.
use Rattle.std.specs.Prelude.{ℕ, List}
use Rattle.columns.specs.Answers.{said_number}
use Rattle.columns.specs.Determined.{Determined}
use Rattle.columns.proofs.Determined.{determined}
use Rattle.columns.proofs.Saying.{same_number}
use Rattle.table.specs.Lts.{Lts}
use Rattle.quotient_components.specs.Call.{tau_scc_decomposition}

pub tau_scc_decomposition_lem :
    (t : Lts) (numbers : List ℕ) (work : List (List ℕ)) → Determined said_number (tau_scc_decomposition t numbers work)
tau_scc_decomposition_lem t numbers work = determined same_number
