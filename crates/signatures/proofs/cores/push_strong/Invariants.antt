-- The loop of `push_strong`: the pairs of the rows seen are pushed.
use Rattle.std.proofs.Common.{eqb, [], get_or}
use Rattle.signatures.proofs.Pushing.{Pushing}
use Rattle.table.proofs.RowsOf.{RowsFrom}
use Rattle.table.specs.Lts.{lts_of}
use Rattle.signatures.proofs.cores.push_strong.Given as goal

abbrev pub invariant-loop-i : goal.invariant-loop-i
invariant-loop-i l = record {
  rows : RowsFrom (lts_of l.system) l.state l.initial.i l.i-end;
  pushed : Pushing [] (λ k. (get_or l.system.label.now k 0, get_or l.element_to_block (get_or l.system.target.now k 0) 0))
      (λ k. eqb (get_or l.system.source.now k 0) l.state) l.initial.i l.i-end l.initial.pushed_labels l.initial.pushed_blocks
      l.i l.d l.pushed_labels l.pushed_blocks;
}
