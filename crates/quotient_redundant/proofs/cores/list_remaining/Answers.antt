-- `list_remaining` meets its contract.
use Rattle.std.proofs.Common.{sym, ◌∙◌, arith}
use Rattle.quotient_redundant.proofs.Remaining.{remain_start, remain_go, remain_stay}
use Rattle.quotient_redundant.proofs.cores.list_remaining.Goals as goal
use Rattle.quotient_redundant.proofs.cores.list_remaining.Goals.{then-not-row_goes, else-not-row_goes}

pub loop-i-init : goal.loop-i-init
loop-i-init c = remain_start _ _ _

pub loop-i-preserved : goal.loop-i-preserved
loop-i-preserved c =
    let e = c.row_goes.ensures in
    let i = c.loop-i.invariant in
    elim c.if-not-row_goes.branch [
      | then-not-row_goes w ↦
          rw (w.order-is, w.k-is)
          (remain_stay _ _ _ _ _ _ i c.loop-i-test.true _ e.forward_value_2 (sym e.value ∙ w.if-not-row_goes.true) (omega arith))
      | else-not-row_goes w ↦
          rw (w.order-is, w.k-is) (remain_go _ _ _ _ _ _ i c.loop-i-test.true _ e.forward_value_2 (sym e.value ∙ w.if-not-row_goes.false))
    ]
