-- The loop of `visit`: of the rows seen, those that stay in the block have their targets marked, and the pairs of the others are pushed, as
-- there is room for all of them.
use Rattle.std.proofs.Common.{◌+◌, ◌≤◌, length, get_or}
use Rattle.table.proofs.Searching.{Visit}
use Rattle.table.specs.Hidden.{hidden_in}
use Rattle.table.specs.Lts.{lts_of}
use Rattle.signatures_branching.specs.Branching.{outer_pairs}
use Rattle.signatures_branching.proofs.Outer.{Outward}
use Rattle.signatures_branching.proofs.cores.visit.Given as goal

abbrev pub invariant-loop-i : goal.invariant-loop-i
invariant-loop-i l =
    let t = lts_of l.system in
    record {
      found : Visit t.n t.m t.source t.target (hidden_in t.label t.target l.element_to_block l.b)
          (get_or l.initial.queue 0 0) l.x l.initial.queue l.tail l.marks l.queue l.head l.high l.i;
      outward : Outward t l.element_to_block l.b l.x l.initial.i l.i-end l.initial.pushed_labels l.initial.pushed_blocks l.fn.d l.i l.k
          l.pushed_labels l.pushed_blocks;
      room : l.fn.d + length (outer_pairs t l.element_to_block l.b l.x) ≤ t.m;
    }
