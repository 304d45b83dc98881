-- `equal` meets its contract.
use Rattle.columns.specs.Sets.{pair_eq}
use Rattle.pairs.proofs.pairs.equal.Goals as goal

pub returns : goal.returns
unfolding pair_eq
returns c = c.eq.ensures
