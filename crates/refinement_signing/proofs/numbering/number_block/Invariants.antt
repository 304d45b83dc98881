-- The loop of `number_block`: the first j states have their numbers, the others theirs from before.
use Rattle.std.proofs.Common.{◌≡◌, ℕ, ◌+◌, ◌<◌, get_or}
use Rattle.refinement_signing.specs.Numbered.{alike_at, Numbered}
use Rattle.refinement_signing.specs.Stored.{store}
use Rattle.refinement_signing.proofs.numbering.number_block.Given as goal

abbrev pub invariant-loop-j : goal.invariant-loop-j
invariant-loop-j l = record {
  numbered : Numbered (alike_at l.elements (store l.n l.labels l.blocks l.d l.begins) l.x) l.elements l.x l.j l.numbers l.next;
  others : (s : ℕ) → ((i : ℕ) → i < l.j → get_or l.elements (l.x + i) 0 ≡ s → ⊥) → get_or l.numbers s 0 ≡ get_or l.initial.numbers s 0;
}
