-- `reach` meets its contract.
use Rattle.std.proofs.Common.{ℕ, List, length, slice_set, get_or, sym, ap, subst, ◌∙◌, arith}
use lib.Seq.{get_or-set_other}
use Rattle.columns.specs.Columns.{zeros}
use Rattle.columns.proofs.Laid.{laid_none}
use Rattle.columns.proofs.Lists.{zeros_at}
use Rattle.columns.proofs.TwoColumns.{pairs-none}
use Rattle.table.specs.Lts.{lts_of}
use Rattle.table.specs.Search.{Search}
use Rattle.table.proofs.Searching.{search_start, search_few}
use Rattle.signatures_branching.specs.Branching.{inert_edge, outer_pairs}
use Rattle.signatures_branching.proofs.cores.reach.Goals as goal

pub loop-head-init : goal.loop-head-init
loop-head-init c =
    let a = c.args in
    let t = lts_of a.system.now in
    let home = a.element_to_block.now in
    let z = c.requires.marks_len in
    record {
      search =
          subst (λ (l : List ℕ). Search (inert_edge t home c.at-b.result) t.n a.state (slice_set l a.state 1) (slice_set a.queue.now 0 a.state) 0 1)
          (sym (z.2 ∙ ap zeros z.0)) (search_start (inert_edge t home c.at-b.result) t.n a.state a.queue.now c.requires.valid.1 z.1);
      rest = λ k w.
          get_or-set_other a.queue.now 0 k a.state 0 (λ e. omega (arith, w, e)) ∙ ap (λ (l : List ℕ). get_or l k 0) z.3
          ∙ zeros_at (length a.queue.now) k;
      pushed = pairs-none _ _ ∙ sym (laid_none (λ j. outer_pairs t home c.at-b.result (get_or (slice_set a.queue.now 0 a.state) j 0)));
    }

pub loop-head-smaller : goal.loop-head-smaller
loop-head-smaller c = omega (arith, search_few _ _ _ _ _ _ _ c.loop-head.invariant.search)
