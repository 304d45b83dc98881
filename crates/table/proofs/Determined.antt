-- Any two results that the contract of a call on a table allows are equal. t is the table that is lent.
use Rattle.std.specs.Prelude.{ℕ, Bool, List}
use Rattle.columns.specs.Answers.{said_number}
use Rattle.columns.specs.Determined.{DeterminedAnswer, Determined}
use Rattle.columns.proofs.Determined.{determined_answer, determined}
use Rattle.columns.proofs.Saying.{same_number}
use Rattle.table.specs.Incoming.{incoming_rows}
use Rattle.table.specs.Lts.{Lts}
use Rattle.table.specs.Reach as reach
use Rattle.table.specs.Transitions.{said_stretch, outgoing_transitions, next_incoming_row}
use Rattle.table.proofs.Sayings.{same-stretch}

pub incoming : (t : Lts) (result spare : List ℕ) → Determined said_number (incoming_rows t result spare)
incoming t result spare = determined same_number

pub reachable :
    (t : Lts) (hidden : Bool) (s : ℕ) (reached queue : List ℕ) → Determined said_number (reach.reachable t hidden s reached queue)
reachable t hidden s reached queue = determined same_number

pub outgoing_transitions_lem : (t : Lts) (s : ℕ) → DeterminedAnswer said_stretch (outgoing_transitions t s)
outgoing_transitions_lem t s = determined_answer same-stretch

pub next_incoming_lem : (t : Lts) (u from : ℕ) → DeterminedAnswer said_number (next_incoming_row t u from)
next_incoming_lem t u from = determined_answer same_number
