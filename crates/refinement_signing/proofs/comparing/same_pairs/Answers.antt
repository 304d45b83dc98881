-- `same_pairs` meets its contract.
use Rattle.std.proofs.Common.{rules, refl}
use Rattle.columns.proofs.Ranges.{all_in_range}
use Rattle.refinement_signing.proofs.comparing.same_pairs.Goals as goal

pub returns : goal.returns
returns c = all_in_range c.args.k _ refl c.all.ensures.ran (λ x b q k. search rules)
