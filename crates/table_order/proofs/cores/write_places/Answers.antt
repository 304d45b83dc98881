-- `write_places` meets its contract.
use Rattle.std.proofs.Common.{ap, ◌∙◌, arith}
use Rattle.columns.proofs.Lists.{painted_none, painted_more, front_written}
use Rattle.std.proofs.lemmas.Grind.{common_steps}
use Rattle.table_order.specs.Turn.{mark_place}
use Rattle.table_order.proofs.cores.write_places.Goals as goal

pub loop-s-init : goal.loop-s-init
loop-s-init c = painted_none _ _ _

pub loop-s-preserved : goal.loop-s-preserved
loop-s-preserved c =
    painted_more _ _ _ _ _ _ (omega arith) (omega arith)
    (c.mark_place.ensures.0 ∙ ap (mark_place c.args.n c.args.reversed) c.at.ensures.0) c.loop-s.invariant

pub returns : goal.returns
returns c = front_written c.args.n _ c.args.places.now _ (omega arith) (grind (arith, common_steps))
