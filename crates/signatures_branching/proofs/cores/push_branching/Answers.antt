-- `push_branching` meets its contract.
use Rattle.std.proofs.Common.{◌≡◌, length, get_or, sym, ap, ◌∙◌, arith}
use lib.Seq.{length-take-le}
use Rattle.columns.specs.Columns.{zeros}
use Rattle.columns.proofs.Lists.{front_zeros}
use Rattle.columns.proofs.TwoColumns.{length_pairs}
use Rattle.signatures.specs.Pairs.{signature}
use Rattle.table.specs.Lts.{lts_of}
use Rattle.table.proofs.Searching.{search_few}
use Rattle.signatures_branching.specs.Visiting.{outer_of}
use Rattle.signatures_branching.proofs.Endings.{search_lists, search_marks}
use Rattle.signatures_branching.proofs.Visited.{visited_count, visited_few, visited_signature}
use Rattle.signatures_branching.proofs.cores.push_branching.Goals as goal

pub unmark-requires : goal.unmark-requires
unmark-requires c =
    let s = c.reach-reached.ensures.search in
    record {
      tail_in_bounds = (omega (arith, search_few _ _ _ _ _ _ _ s), λ j w. omega (arith, s.state j w));
      by_index = search_marks (lts_of c.args.system.now) c.requires.valid.0 c.args.element_to_block.now c.args.state _ _ _ s;
    }

pub slice_bounds-clear-end : goal.slice_bounds-clear-end
slice_bounds-clear-end c = omega (arith, search_few _ _ _ _ _ _ _ c.reach-reached.ensures.search)

pub slice_bounds-clear-end-2 : goal.slice_bounds-clear-end-2
slice_bounds-clear-end-2 c = sym (length-take-le _ _ (omega (arith, search_few _ _ _ _ _ _ _ c.reach-reached.ensures.search)))

pub returns : goal.returns
returns c =
    let t = lts_of c.args.system.now in
    let v = c.requires.valid.0 in
    let home = c.args.element_to_block.now in
    let s = c.args.state in
    let q = c.reach-reached in
    let e = q.ensures in
    let l = search_lists t v home s _ _ _ e.search in
    let count : q.result.pairs ≡ length (outer_of t home (get_or home s 0) q.new.queue q.result.tail) =
    sym (length_pairs q.result.pairs q.new.pushed_labels q.new.pushed_blocks) ∙ ap length e.pushed in
    record {
      fact = (
        count ∙ visited_count t v home s _ _ l,
        ap signature e.pushed ∙ visited_signature t v home s _ _ l,
        omega (arith, count, visited_few t home (get_or home s 0) q.new.queue q.result.tail l.once),
      );
      cleared = (
        c.unmark.ensures ∙ ap zeros q.auto.marks,
        front_zeros _ q.new.queue _ (omega (arith, search_few _ _ _ _ _ _ _ e.search)) c.clear.ensures e.rest ∙ ap zeros q.auto.queue,
      );
    }
