-- `blocks_ok` meets its contract.
use Rattle.std.proofs.Common.{rules, refl}
use Rattle.columns.proofs.Ranges.{all_in_range}
use Rattle.partition.specs.Partition.{boundsb}
use Rattle.partition.proofs.checks.blocks_ok.Goals as goal

pub returns : goal.returns
unfolding boundsb
returns c = all_in_range c.args.count _ refl c.all.ensures.ran (λ x b q k. search rules)
