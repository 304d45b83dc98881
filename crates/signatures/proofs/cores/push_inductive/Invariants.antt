-- The loop of `push_inductive`: the pairs of the rows seen are pushed.
use Rattle.std.proofs.Common.{eqb, cond, ◌&&◌, [], get_or}
use Rattle.signatures.proofs.Pushing.{Pushing}
use Rattle.signatures.specs.Inductive.{marked_by}
use Rattle.table.proofs.RowsOf.{RowsFrom}
use Rattle.table.specs.Hidden.{hidden_in}
use Rattle.table.specs.Lts.{lts_of}
use Rattle.signatures.proofs.cores.push_inductive.Given as goal

abbrev pub invariant-loop-i : goal.invariant-loop-i
invariant-loop-i l =
    let t = lts_of l.system in
    let home = l.columns.element_to_block.now in
    record {
      rows : RowsFrom t l.state l.initial.i l.i-end;
      pushed : Pushing []
          (λ k. cond (hidden_in t.label t.target home l.b k && marked_by l.columns.element_offset.now home l.columns.marked_split.now (get_or t.target k 0))
          (l.tau_hat, get_or l.state_to_key (get_or t.target k 0) 0)
          (get_or t.label k 0, get_or home (get_or t.target k 0) 0))
          (λ k. eqb (get_or t.source k 0) l.state) l.initial.i l.i-end l.initial.pushed_labels l.initial.pushed_blocks l.i l.d
          l.pushed_labels l.pushed_blocks;
    }
