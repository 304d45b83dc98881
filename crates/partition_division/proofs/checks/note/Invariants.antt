-- The loop of `note`: the numbers noted are those of the states so far.
use Rattle.std.proofs.Common.{◌≡◌, ℕ, ◌<◌, eqb, get_or}
use Rattle.partition.specs.Marked.{marked_from}
use Rattle.partition_passes.specs.Invariants.{tallied}
use Rattle.partition_division.proofs.checks.note.Given as goal

abbrev pub invariant-loop-s : goal.invariant-loop-s
invariant-loop-s l =
    (k : ℕ) → k < l.n
    → eqb (get_or l.seen k 0) 0 ≡ eqb (tallied (marked_from l.element_offset l.element_to_block l.b l.m) (λ s. get_or l.numbers s 0) l.s k) 0
