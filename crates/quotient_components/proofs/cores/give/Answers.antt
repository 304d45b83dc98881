-- `give` meets its contract.
use Rattle.std.proofs.Common.{◌∙◌, ap, arith}
use Rattle.columns.proofs.Lists.{painted_none, painted_more, painted_rest}
use Rattle.quotient_components.specs.Numbering.{if_both}
use Rattle.quotient_components.proofs.cores.give.Goals as goal

pub loop-i-init : goal.loop-i-init
loop-i-init c = painted_none _ _ _

pub loop-i-preserved : goal.loop-i-preserved
loop-i-preserved c =
    let k = c.loop-i.invariant in
    painted_more _ _ _ _ _ _ (omega arith) (omega arith) (c.if_both.ensures ∙ ap (if_both _ _ _) (painted_rest _ _ _ _ _ k)) k
