-- `first_bad_start` meets its contract.
use Rattle.std.proofs.Common.{rules, refl, ◌∙◌}
use Rattle.columns.proofs.Ranges.{found_in_range}
use Rattle.pairs.proofs.lists.first_bad_start.Goals as goal

pub returns : goal.returns
returns c = c.unwrap_or.ensures ∙ found_in_range c.args.n _ _ _ refl c.find.ensures.ran (λ x b q k. search rules)
