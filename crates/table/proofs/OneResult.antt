-- Any two results that the contract of a call on a table allows are equal.
use mathlib.Core.Path.{refl}
use Rattle.columns.specs.OneResult.{OneResult}
use Rattle.columns.proofs.OneResult.{skip, determined_answer, determined}
use Rattle.columns.proofs.Saying.{same_number}
use Rattle.table.proofs.Sayings.{same-stretch}
use Rattle.table.specs.contracts.Lts as lts_said
use Rattle.table.proofs.Lts as calls

-- the list, and the spare
pub incoming : OneResult lts_said.incoming.ended calls.incoming.Reads.Learnt
incoming κs a r q x y = determined same_number (λ c. skip 1 (c.0, (c.1, tt))) r q

-- the states reached, and the queue
pub reachable : OneResult lts_said.reachable.ended calls.reachable.Reads.Learnt
reachable κs a r q x y = determined same_number (λ c. skip 3 (c.0, (c.1, tt))) r q

pub outgoing_transitions_lem : OneResult lts_said.outgoing_transitions.ended calls.outgoing_transitions.Reads.Learnt
outgoing_transitions_lem κs a r q x y e f = (determined_answer same-stretch r q e f, refl)

pub next_incoming_lem : OneResult lts_said.next_incoming.ended calls.next_incoming.Reads.Learnt
next_incoming_lem κs a r q x y e f = (determined_answer same_number r q e f, refl)
