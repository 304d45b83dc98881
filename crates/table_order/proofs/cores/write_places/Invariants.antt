-- The loop of `write_places`: the places of the states before s are written.
use Rattle.std.proofs.Common.{length, get_or}
use Rattle.columns.proofs.Lists.{Painted}
use Rattle.table_order.specs.Turn.{mark_place}
use Rattle.table_order.proofs.cores.write_places.Given as goal

abbrev pub invariant-loop-s : goal.invariant-loop-s
invariant-loop-s l =
    Painted (λ k. mark_place l.n l.reversed (get_or l.marks k 0)) (length l.initial.place-items) l.initial.place-items l.s l.place-items
