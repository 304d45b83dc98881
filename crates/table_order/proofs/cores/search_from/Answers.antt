-- `search_from` meets its contract.
use Rattle.std.proofs.Common.{arith}
use Rattle.table_order.proofs.Searches.{searched_skip, machine_start, searched_end}
use Rattle.table_order.proofs.cores.search_from.Goals as goal

pub returns-then-at-ne0 : goal.returns-then-at-ne0
returns-then-at-ne0 c = searched_skip _ _ _ _ c.requires.idle c.requires.n_in_bounds.2 c.at.ensures.0 c.if-at-ne0.true

pub loop-next-init : goal.loop-next-init
loop-next-init c = machine_start _ _ _ _ c.args.stack.now c.requires.idle c.requires.n_in_bounds.2 (omega arith)

pub returns-in_err-next : goal.returns-in_err-next
returns-in_err-next c = rw c.from_residual.ensures (c.in_err-next.ensures _ _ c.loop-next.invariant)

pub loop-next-smaller : goal.loop-next-smaller
loop-next-smaller c = (c.in_ok-next.ensures _ _ c.loop-next.invariant).less

pub loop-next-preserved : goal.loop-next-preserved
loop-next-preserved c = (c.in_ok-next.ensures _ _ c.loop-next.invariant).machine

pub returns : goal.returns
returns c = searched_end _ _ _ _ _ _ c.loop-next.invariant (omega arith)
