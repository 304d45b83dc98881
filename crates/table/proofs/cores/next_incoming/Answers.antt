-- `next_incoming` meets its contract.
use Rattle.std.proofs.Common.{refl, ◌∙◌, arith, rules}
use Rattle.table.proofs.Finds.{found_from}
use Rattle.table.proofs.Stretches.{next_found}
use Rattle.table.proofs.cores.next_incoming.Goals as goal

pub returns : goal.returns
returns c =
    c.unwrap_or.ensures
    ∙ next_found c.args.target.now c.args.m c.args.u c.args.from c.requires.1 _
    (found_from c.args.from c.args.m c.args.m (omega arith) _ _ _ refl c.find.ensures.ran (λ x b q k. search rules))
