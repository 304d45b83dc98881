-- `sign` meets its contract.
use Rattle.std.proofs.Common.{ℕ, [], ◌∷◌, sym, ap, ◌∙◌}
use Rattle.columns.specs.Answers.{done, said_number}
use Rattle.columns.specs.Columns.{zeros}
use Rattle.columns.specs.Rows.{pairs_of}
use Rattle.signatures.specs.Pairs.{signature, fits}
use Rattle.signatures.proofs.Outcomes.{wrote_none, wrote_all, finished}
use Rattle.signatures.proofs.Works.{zeroed_of, room_both}
use Rattle.signatures.proofs.flat.sign.Goals.{then-has_room, else-has_room}
use Rattle.signatures.proofs.flat.sign.Goals as goal

pub flatten-r-requires : goal.flatten-r-requires
flatten-r-requires c =
    let r = c.requires.d_in_bounds in
    let w = room_both c.args.d _ _ _ c.has_room.ensures c.if-has_room.true in
    record { d_in_bounds = (r.0, r.1, w.0, w.1); d_in_bounds_2 = c.requires.d_in_bounds_2 }

pub returns : goal.returns
unfolding fits
returns c =
    let g = c.args in
    let j = c.if-has_room in
    let pairs = signature (pairs_of g.d g.pushed_labels.now g.pushed_blocks.now) in
    let before = g.pushed_labels.now ∷ g.pushed_blocks.now ∷ g.order.now ∷ g.spare.now ∷ [] in
    finished g.d pairs _ _ _ before _
    (elim j.branch [
      | then-has_room w ↦
          wrote_all g.d pairs _ _ _ (sym c.has_room.ensures ∙ w.if-has_room.true)
          (ap said_number (w.answer-is ∙ w.done-answer.ensures) ∙ ap (λ (k : ℕ). done (k ∷ [])) w.flatten-r.ensures.value)
          ((λ i. (w.labels-is i, w.blocks-is i)) ∙ w.flatten-r.ensures.blocks_value)
      | else-has_room w ↦
          (λ i. (said_number j.answer, (w.labels-is i, w.blocks-is i)))
          ∙ wrote_none g.d pairs (g.labels.now, g.blocks.now) _ (sym c.has_room.ensures ∙ w.if-has_room.false)
          (ap said_number (w.answer-is ∙ w.refused-answer.ensures))
    ])
    (zeroed_of (c.clear.new.a ∷ c.clear-2.new.a ∷ c.clear-3.new.a ∷ c.clear-4.new.a ∷ []) before
    (c.clear.ensures, (c.clear-2.ensures, (c.clear-3.ensures ∙ ap zeros j.auto.order, (c.clear-4.ensures ∙ ap zeros j.auto.spare, tt)))))
