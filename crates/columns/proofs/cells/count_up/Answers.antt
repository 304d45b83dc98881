-- `count_up` meets its contract.
use Rattle.std.proofs.Common.{length, refl, ◌∙◌, arith}
use Rattle.columns.specs.Columns.{listed}
use Rattle.columns.proofs.Lists.{painted_none, painted_more, painted_done, length-listed, over-all}
use Rattle.columns.proofs.cells.count_up.Goals as goal

pub loop-i-init : goal.loop-i-init
loop-i-init c = painted_none _ _ _

pub loop-i-preserved : goal.loop-i-preserved
loop-i-preserved c = painted_more _ _ _ _ _ _ (omega arith) (omega arith) refl c.loop-i.invariant

pub returns : goal.returns
returns c =
    let l = c.args.a.now in
    painted_done _ _ _ _ _ (listed (length l) (λ k. k)) c.loop-i.invariant (omega arith) refl ∙ over-all _ l (length-listed (length l) _)
