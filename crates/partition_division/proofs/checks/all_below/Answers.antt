-- `all_below` meets its contract.
use Rattle.std.proofs.Common.{rules, refl}
use Rattle.columns.proofs.Ranges.{all_in_range}
use Rattle.partition_division.proofs.checks.all_below.Goals as goal

pub returns : goal.returns
returns c = all_in_range c.args.n _ refl c.all.ensures.ran (λ x b q k. search rules)
