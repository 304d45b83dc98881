-- Any two results that the contract of `remove_redundant_transitions` allows are equal.
use Rattle.std.specs.Prelude.{ℕ, List}
use Rattle.columns.specs.Determined.{Determined}
use Rattle.columns.proofs.Determined.{determined}
use Rattle.table.specs.Lts.{Lts}
use Rattle.table.specs.Tables.{Three, said_table}
use Rattle.table.proofs.Tables.{same_table}
use Rattle.quotient_redundant.specs.Call.{remove_redundant_transitions}

pub remove_redundant_transitions_lem :
    (t : Lts) (out : Three) (work : List (List ℕ)) → Determined said_table (remove_redundant_transitions t out work)
remove_redundant_transitions_lem t out work = determined same_table
