-- The loop of `list_states`: the rows of the states before are listed.
use Rattle.std.proofs.Common.{◌+◌}
use Rattle.table.specs.Lts.{lts_of}
use Rattle.table_closure.proofs.Listing.{Gathered}
use Rattle.table_closure.proofs.inner.list_states.Given as goal

abbrev pub invariant-loop-s : goal.invariant-loop-s
invariant-loop-s l =
    Gathered (lts_of l.system) l.element_to_block l.b l.elements l.x l.z l.fn.order l.h (l.x + l.s-index) l.order
