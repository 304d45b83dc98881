-- The loop of `close_marks`: reading on from position `it` gives what is asked for.
use Rattle.std.proofs.Common.{get_or}
use Rattle.partition.specs.Mark.{marks}
use Rattle.table.specs.Lts.{lts_of}
use Rattle.table_closure.specs.Listed.{row_list}
use Rattle.table_closure.proofs.Listed.{Down}
use Rattle.table_closure.proofs.cores.close_marks.Given as goal

abbrev pub invariant-loop-it : goal.invariant-loop-it
invariant-loop-it l =
    let t = lts_of l.system in
    Down t.n (row_list t.source t.target l.order) l.element_to_block l.h l.b (get_or l.begin l.b 0) (get_or l.end l.b 0)
    (marks l.fn.elements l.fn.element_offset l.fn.marked_split) (marks l.elements l.element_offset l.marked_split) l.it

abbrev pub decreases-loop-it : goal.decreases-loop-it
decreases-loop-it l = l.it
