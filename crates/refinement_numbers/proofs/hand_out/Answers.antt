-- `hand_out` meets its contract.
use Rattle.std.proofs.Common.{arith, ap, ◌∙◌}
use Rattle.columns.specs.Columns.{zeros}
use Rattle.refinement_numbers.proofs.Hands.{give_none, give_new, give_old, give_done}
use Rattle.refinement_numbers.proofs.hand_out.Goals as goal
use Rattle.refinement_numbers.proofs.hand_out.Goals.{then-k-eq0, else-k-eq0}

pub loop-s-init : goal.loop-s-init
loop-s-init c = give_none c.requires.clear

pub loop-s-preserved : goal.loop-s-preserved
loop-s-preserved c =
    let h = c.loop-s.invariant in
    elim c.if-k-eq0.branch [
      | then-k-eq0 w ↦
          rw (w.block-is, w.notes-is, w.next-is)
          (give_new h (omega arith) (omega arith) c.at-b.ensures.0 c.at-k.ensures.0 w.if-k-eq0.true
          (omega (arith, c.requires.by_index c.loop-s.s (omega arith))))
      | else-k-eq0 w ↦
          rw (w.block-is, w.notes-is, w.next-is)
          (give_old h (omega arith) (omega arith) c.at-b.ensures.0 c.at-k.ensures.0 w.if-k-eq0.false)
    ]

pub returns : goal.returns
returns c =
    let done = give_done c.loop-s.invariant (omega arith) in
    (done.0, done.1, c.clear.ensures ∙ ap zeros c.loop-s.auto.notes)
