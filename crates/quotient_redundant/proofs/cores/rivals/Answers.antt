-- `rivals` meets its contract.
use Rattle.std.proofs.Common.{refl}
use Rattle.quotient_redundant.specs.Redundant.{moves, rival}
use Rattle.quotient_redundant.proofs.cores.rivals.Goals as goal

pub returns : goal.returns
unfolding rival moves
returns c = rw (c.at-a.ensures.0, c.at.ensures.0, c.at-2.ensures.0, c.at-3.ensures.0) refl
