-- The loop of `mark_into`: the sources of the rows before position j are marked.
use Rattle.partition.specs.Mark.{marks}
use Rattle.table_closure.specs.Listed.{row_list}
use Rattle.table_closure.proofs.Listed.{Into}
use Rattle.table_closure.proofs.cores.mark_into.Given as goal

abbrev pub invariant-loop-j : goal.invariant-loop-j
invariant-loop-j l =
    Into (row_list l.system.source.now l.system.target.now l.order) l.element_to_block l.h l.u (marks l.fn.elements l.fn.element_offset l.fn.marked_split)
    (marks l.elements l.element_offset l.marked_split) l.j
