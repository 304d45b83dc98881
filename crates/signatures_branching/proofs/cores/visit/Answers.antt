-- `visit` meets its contract.
use Rattle.std.proofs.Common.{sym, ◌∙◌, arith}
use borrow.Author.Tests.{eqb-true}
use Rattle.columns.proofs.Bools.{contra}
use Rattle.table.proofs.RowsOf.{rows_from}
use Rattle.table.proofs.Searching.{visit_start, visit_skip, visit_append, visit_room, visit_end, search_few}
use Rattle.table.proofs.Stretches.{rising}
use Rattle.table.specs.Lts.{lts_of}
use Rattle.signatures_branching.specs.Branching.{inert_edge}
use Rattle.signatures_branching.proofs.Outer.{outer_start, outer_pass, outer_room, outer_push, outer_done}
use Rattle.signatures_branching.proofs.Visited.{visits_room, visits_more}
use Rattle.signatures_branching.proofs.cores.visit.Goals as goal
use Rattle.signatures_branching.proofs.cores.visit.Goals.{then-stays, else-stays}

pub at-x-requires : goal.at-x-requires
at-x-requires c = omega (arith, search_few _ _ _ _ _ _ _ c.requires.fact.search)

pub rows_of-rows-requires : goal.rows_of-rows-requires
rows_of-rows-requires c =
    let v = c.requires.valid.0 in
    (v.long.source, rising (lts_of c.args.system.now) v, omega arith)

pub loop-i-init : goal.loop-i-init
unfolding inert_edge
loop-i-init c =
    let a = c.args in
    let t = lts_of a.system.now in
    let v = c.requires.valid.0 in
    let from = rows_from t v c.at-x.result _ _ c.rows_of-rows.ensures.0 c.rows_of-rows.ensures.1 in
    record {
      found =
          visit_start t.n t.m t.source t.target _ (λ i l. (v.fields i l).target) _ _ a.queue.now a.tail a.head
          a.marks.now _ _ from.stretch c.requires.fact.search (omega arith) (sym c.at-x.ensures.0);
      outward = outer_start _ _ _ _ _ _ _ _ a.d from;
      room =
          rw c.at-x.ensures.0
          (visits_room _ _ _ _ _ _ _ _ _ _ _ c.requires.fact (omega arith));
    }

pub append-high-requires : goal.append-high-requires
append-high-requires c =
    let a = c.args in
    let t = lts_of a.system.now in
    let i = c.loop-i.invariant in
    let v = c.requires.valid.0 in
    let f = v.fields c.loop-i.i (omega arith) in
    let few = search_few _ _ _ _ _ _ _ i.found.search in (
      omega arith,
      omega arith,
      omega arith,
      λ z.
          omega (
            arith,
            visit_room t.n t.m t.source t.target _ (λ i l. (v.fields i l).target) _ _ a.queue.now a.tail a.head
                c.loop-i.marks c.loop-i.queue c.loop-i.high c.loop-i.i i.found (omega arith)
                (eqb-true _ _ (i.outward.rows.own c.loop-i.i (omega arith) (omega arith)))
                (sym c.hidden_in-stays.ensures ∙ c.if-stays.true) (cc z),
          ),
    )

pub offset_bounds-pushed_labels-k : goal.offset_bounds-pushed_labels-k
offset_bounds-pushed_labels-k c =
    omega (arith, outer_room c.loop-i.invariant.outward (omega arith) c.hidden_in-stays.ensures c.if-stays.false)

pub bounds-pushed_labels-k : goal.bounds-pushed_labels-k
bounds-pushed_labels-k c = omega (arith, outer_room c.loop-i.invariant.outward (omega arith) c.hidden_in-stays.ensures c.if-stays.false)

pub offset_bounds-pushed_blocks-k : goal.offset_bounds-pushed_blocks-k
offset_bounds-pushed_blocks-k c =
    omega (arith, outer_room c.loop-i.invariant.outward (omega arith) c.hidden_in-stays.ensures c.if-stays.false)

pub bounds-pushed_blocks-k : goal.bounds-pushed_blocks-k
bounds-pushed_blocks-k c = omega (arith, outer_room c.loop-i.invariant.outward (omega arith) c.hidden_in-stays.ensures c.if-stays.false)

pub overflow_add-k : goal.overflow_add-k
overflow_add-k c = omega (arith, outer_room c.loop-i.invariant.outward (omega arith) c.hidden_in-stays.ensures c.if-stays.false)

pub loop-i-preserved : goal.loop-i-preserved
loop-i-preserved c =
    let a = c.args in
    let t = lts_of a.system.now in
    let l = c.loop-i in
    let i = l.invariant in
    let v = c.requires.valid.0 in
    let e = c.hidden_in-stays.ensures in
    elim c.if-stays.branch [
      | then-stays w ↦ record {
        found =
            visit_append t.n t.m t.source t.target _ (λ i l. (v.fields i l).target) _ _ a.queue.now a.tail a.head
            l.marks l.queue l.high l.i i.found (omega arith) (eqb-true _ _ (i.outward.rows.own l.i (omega arith) (omega arith)))
            (sym e ∙ w.if-stays.true) _ _ _ cc;
        outward = outer_pass i.outward (omega arith) e w.if-stays.true w.pushed_labels-is w.pushed_blocks-is w.k-is;
        room = i.room;
      }
      | else-stays w ↦
          let r = outer_room i.outward (omega arith) e w.if-stays.false in
          record {
            found =
                rw (w.marks-is, w.queue-is, w.high-is)
                (visit_skip t.n t.m t.source t.target _ (λ i l. (v.fields i l).target) _ _ a.queue.now a.tail a.head
                l.marks l.queue l.high l.i i.found (λ t. absurd (contra t (sym e ∙ w.if-stays.false))));
            outward =
                outer_push i.outward (omega arith) e w.if-stays.false c.at-u.ensures.0 (omega arith) (omega arith) w.pushed_labels-is
                w.pushed_blocks-is w.k-is;
            room = i.room;
          }
    ]

pub returns : goal.returns
unfolding inert_edge
returns c =
    let a = c.args in
    let t = lts_of a.system.now in
    let l = c.loop-i in
    let i = l.invariant in
    let v = c.requires.valid.0 in
    record {
      search =
          visit_end t.n t.m t.source t.target _ (λ i l. (v.fields i l).target) _ _ a.queue.now a.tail a.head
          l.marks l.queue l.high l.i i.found _ _ i.outward.rows.stretch (omega arith);
      rest = λ k w. i.found.behind k w ∙ c.requires.fact.rest k (omega arith);
      pushed =
          visits_more _ _ _ _ _ _ _ _ _ _ _ c.requires.fact l.queue l.pushed_labels l.pushed_blocks l.k i.found.kept (omega arith)
          (rw c.at-x.ensures.0 at (outer_done i.outward (omega arith)));
    }
