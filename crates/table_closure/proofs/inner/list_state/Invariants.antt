-- The loop of `list_state`: the rows seen that are hidden and stay in the block are listed.
use Rattle.std.proofs.Common.{◌-◌}
use Rattle.columns.proofs.Listing.{Listing}
use Rattle.table.specs.Lts.{lts_of}
use Rattle.table_closure.proofs.Listing.{own_inner}
use Rattle.table_closure.proofs.inner.list_state.Given as goal

abbrev pub invariant-loop-i : goal.invariant-loop-i
invariant-loop-i l =
    Listing (own_inner (lts_of l.system) l.element_to_block l.b l.s) l.rows.first l.rows.end l.h l.fn.order l.i l.k l.order

abbrev pub decreases-loop-i : goal.decreases-loop-i
decreases-loop-i l = l.rows.end - l.i
