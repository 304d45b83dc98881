-- Any two results that the contract of `tau_cycle_elimination_and_reorder` allows are equal.
use Rattle.std.specs.Prelude.{ℕ, Bool, List}
use Rattle.columns.specs.Determined.{Determined}
use Rattle.columns.proofs.Determined.{determined}
use Rattle.table.specs.Lts.{Lts}
use Rattle.table.specs.Tables.{Three}
use Rattle.quotient_cycles.specs.Call.{said_reordered, tau_cycle_elimination_and_reorder}
use Rattle.quotient_cycles.proofs.Sayings.{same_reordered}

pub tau_cycle_elimination_and_reorder_lem :
    (t : Lts) (state : ℕ) (eliminate : Bool) (out : Three) (work : List (List ℕ))
    → Determined said_reordered (tau_cycle_elimination_and_reorder t state eliminate out work)
tau_cycle_elimination_and_reorder_lem t state eliminate out work = determined same_reordered
