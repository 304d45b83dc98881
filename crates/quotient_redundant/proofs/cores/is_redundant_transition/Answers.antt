-- `is_redundant_transition` meets its contract.
use Rattle.std.proofs.Common.{refl, rules}
use Rattle.columns.proofs.Ranges.{any_in_range}
use Rattle.quotient_redundant.specs.Redundant.{redundant}
use Rattle.quotient_redundant.proofs.cores.is_redundant_transition.Goals as goal

pub returns : goal.returns
unfolding redundant
returns c = any_in_range c.args.system.now.table.m _ refl c.any.ensures.ran (λ x b q k. search rules)
