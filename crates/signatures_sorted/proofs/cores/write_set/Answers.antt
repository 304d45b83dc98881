-- `write_set` meets its contract.
use Rattle.std.proofs.Common.{ℕ, [], ◌∷◌, sym, ap, ◌∙◌, arith}
use Rattle.columns.specs.Answers.{done, said_number}
use Rattle.signatures.specs.Pairs.{fits}
use Rattle.signatures.proofs.Outcomes.{wrote_all, wrote_none}
use Rattle.signatures.proofs.Works.{room_both}
use Rattle.signatures_sorted.proofs.cores.write_set.Goals as goal

pub returns-then-not-has_room : goal.returns-then-not-has_room
unfolding fits
returns-then-not-has_room c =
    let a = c.args in
    wrote_none a.taken.pushed _ (a.labels.now, a.blocks.now) _ (sym c.has_room.ensures ∙ c.if-not-has_room.true)
    (ap said_number c.refused.ensures)

pub join-k-requires-clause-fact_2 : goal.join-k-requires-clause-fact_2
join-k-requires-clause-fact_2 c =
    let r = room_both _ _ _ _ c.has_room.ensures c.if-not-has_room.false in
    (omega (arith, r, c.requires.lists_bound_2), omega (arith, r, c.requires.lists_bound_2))

pub returns : goal.returns
unfolding fits
returns c =
    let a = c.args in
    let j = c.join-k.ensures in
    wrote_all a.taken.pushed _ (a.labels.now, a.blocks.now) _ _ (sym c.has_room.ensures ∙ c.if-not-has_room.false)
    (ap said_number c.done.ensures ∙ ap (λ (k : ℕ). done (k ∷ [])) j.0) j.1
