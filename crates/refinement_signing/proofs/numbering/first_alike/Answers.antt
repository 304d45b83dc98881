-- `first_alike` meets its contract.
use Rattle.std.proofs.Common.{rules, refl, ◌∙◌}
use Rattle.columns.specs.Number.{least}
use Rattle.columns.proofs.Ranges.{found_in_range}
use Rattle.refinement_signing.specs.Numbered.{alike_at}
use Rattle.refinement_signing.proofs.numbering.first_alike.Goals as goal

pub returns : goal.returns
unfolding least alike_at
returns c = c.unwrap_or.ensures ∙ found_in_range c.args.j _ _ _ refl c.find.ensures.ran (λ x b q k. search rules)
