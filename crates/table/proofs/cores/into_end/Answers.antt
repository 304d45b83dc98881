-- `into_end` meets its contract.
use Rattle.std.proofs.Common.{refl, ◌∙◌, arith, rules}
use Rattle.table.proofs.Finds.{found_from}
use Rattle.table.proofs.RowsInto.{into_end}
use Rattle.table.proofs.cores.into_end.Goals as goal

pub returns : goal.returns
returns c =
    c.unwrap_or.ensures
    ∙ into_end c.args.target.now c.args.order.now c.args.h c.requires.0 c.args.u c.args.from _ c.requires.1
    (found_from c.args.from c.args.h c.args.h (omega arith) _ _ _ refl c.find.ensures.ran (λ x b q k. search rules))
