-- `row_stays` meets its contract.
use Rattle.std.proofs.Common.{refl}
use Rattle.columns.specs.Rows.{row_in}
use Rattle.quotient.specs.Naive.{inert_step, stays}
use Rattle.table.specs.Hidden.{tau_loop}
use Rattle.quotient.proofs.cores.row_stays.Goals as goal

pub returns : goal.returns
unfolding row_in stays inert_step tau_loop
returns c =
    rw (c.at.ensures.0, c.at-2.ensures.0, c.at-s.ensures.0, c.at-u.ensures.0, c.at-hidden.ensures.0) refl
