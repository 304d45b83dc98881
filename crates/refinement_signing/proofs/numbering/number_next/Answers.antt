-- `number_next` meets its contract.
use Rattle.std.proofs.Common.{arith}
use Rattle.refinement_signing.proofs.Numberings.{alike_equivalence, number_few, number_old_at, number_new_at}
use Rattle.refinement_signing.proofs.numbering.number_next.Goals as goal

pub overflow_cast-numbers : goal.overflow_cast-numbers
overflow_cast-numbers c =
    record { fits = omega (arith, number_few _ (alike_equivalence _ _ _) _ c.args.n _ _ _ _ c.requires.numbered, c.requires.held.3) }

pub overflow_add-result : goal.overflow_add-result
overflow_add-result c =
    record { fits = omega (arith, number_few _ (alike_equivalence _ _ _) _ c.args.n _ _ _ _ c.requires.numbered, c.requires.held.3) }

pub returns-then-i-j-clause-numbered_2 : goal.returns-then-i-j-clause-numbered_2
returns-then-i-j-clause-numbered_2 c =
    let h = c.requires.held in
    number_old_at _ (alike_equivalence _ _ _) _ _ _ _ _ _ c.requires.numbered h.1 h.2 _ _ c.at-s.ensures.0 c.first_alike-i.ensures _
    c.at.ensures.0 c.if-i-j.true

pub returns-else-i-j-clause-numbered_2 : goal.returns-else-i-j-clause-numbered_2
returns-else-i-j-clause-numbered_2 c =
    let h = c.requires.held in
    number_new_at _ (alike_equivalence _ _ _) _ _ _ _ _ _ c.requires.numbered h.1 h.2 _ _ c.at-s.ensures.0 c.first_alike-i.ensures
    c.if-i-j.false
