-- `inverse_ok` meets its contract.
use Rattle.std.proofs.Common.{rules, refl}
use Rattle.columns.proofs.Ranges.{all_in_range}
use Rattle.columns.specs.Inverse.{inverseb, inverse_at}
use Rattle.partition.proofs.checks.inverse_ok.Goals as goal

pub returns : goal.returns
unfolding inverseb inverse_at
returns c = all_in_range c.args.n _ refl c.all.ensures.ran (λ x b q k. search rules)
