-- `lies_ok` meets its contract.
use Rattle.std.proofs.Common.{rules, refl}
use Rattle.columns.proofs.Ranges.{all_in_range}
use Rattle.partition.specs.Partition.{liesb}
use Rattle.partition.proofs.checks.lies_ok.Goals as goal

pub returns : goal.returns
unfolding liesb
returns c = all_in_range c.args.n _ refl c.all.ensures.ran (λ x b q k. search rules)
