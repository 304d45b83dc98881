-- `inner_row` meets its contract.
use Rattle.std.proofs.Common.{refl}
use Rattle.quotient.specs.Naive.{inert_step}
use Rattle.quotient_block.proofs.cores.inner_row.Goals as goal

pub returns : goal.returns
unfolding inert_step
returns c = rw (c.at.ensures.0, c.at-2.ensures.0, c.at-u.ensures.0, c.requires.3) refl
