-- `run_end` meets its contract.
use Rattle.std.proofs.Common.{refl, ◌∙◌, arith, rules}
use Rattle.table.proofs.Finds.{found_from}
use Rattle.table.proofs.RowsOf.{rows_end}
use Rattle.table.proofs.cores.run_end.Goals as goal

pub returns : goal.returns
returns c =
    c.unwrap_or.ensures
    ∙ rows_end c.args.source.now c.args.m c.requires.1 c.args.s c.args.from _ c.requires.2
    (found_from c.args.from c.args.m c.args.m (omega arith) _ _ _ refl c.find.ensures.ran (λ x b q k. search rules))
