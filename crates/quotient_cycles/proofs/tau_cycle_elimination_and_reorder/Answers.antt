-- `tau_cycle_elimination_and_reorder` meets its contract.
use Rattle.std.proofs.Common.{[], ◌∷◌, map, length, refl, ap, ◌∙◌, arith}
use Rattle.columns.specs.Answers.{none, done}
use Rattle.columns.proofs.Saying.{left_refused, left_done, numbered}
use Rattle.table.specs.Lts.{lts_of}
use Rattle.table.specs.Tables.{Three, lengths_of}
use Rattle.quotient_cycles.specs.Call.{said_reordered, reorder_refusal, tau_cycle_elimination_and_reorder}
use Rattle.quotient_cycles.proofs.Calls.{asked, ready_reorder}
use Rattle.quotient_cycles.proofs.tau_cycle_elimination_and_reorder.Goals as goal

pub returns-in-Err : goal.returns-in-Err
unfolding tau_cycle_elimination_and_reorder
returns-in-Err c =
    let a = c.args in
    let t = lts_of a.system.now in
    let out : Three = (a.result_source.now, (a.result_label.now, a.result_target.now)) in
    let work = a.numbers.now ∷ a.mid_source.now ∷ a.mid_label.now ∷ a.mid_target.now
    ∷ a.a.now ∷ a.b.now ∷ a.c.now ∷ a.order.now ∷ a.spare.now ∷ [] in
    let e = asked t a.state out work _ c.room_for-room.ensures _ c.in-Err.ensures in
    left_refused (reorder_refusal t a.state out work) _ e (out, work) _ _ _ (numbered _) (ap said_reordered c.refused.ensures)

pub tau_cycle_elimination_and_reorder-reordered-requires : goal.tau_cycle_elimination_and_reorder-reordered-requires
unfolding reorder_refusal
tau_cycle_elimination_and_reorder-reordered-requires c =
    let a = c.args in
    let t = lts_of a.system.now in
    let out : Three = (a.result_source.now, (a.result_label.now, a.result_target.now)) in
    let work = a.numbers.now ∷ a.mid_source.now ∷ a.mid_label.now ∷ a.mid_target.now
    ∷ a.a.now ∷ a.b.now ∷ a.c.now ∷ a.order.now ∷ a.spare.now ∷ [] in
    let e = asked t a.state out work _ c.room_for-room.ensures none c.in_default.ensures in
    let r = ready_reorder t a.state (lengths_of out) (map length work) none e refl in
    let x = r.0.result_room in
    let w = r.0.work_room in record {
      valid = (r.0.valid, r.1, omega (arith, w.0));
      m_in_bounds = (x.0, x.1.0, x.1.1.0);
      m_in_bounds_2 = (omega (arith, w.1.0), omega (arith, w.1.1.0));
      m_in_bounds_3 = (omega (arith, w.1.1.1.0), omega (arith, w.1.1.1.1.0));
      m_in_bounds_4 = (omega (arith, w.1.1.1.1.1.0), omega (arith, w.1.1.1.1.1.1.0));
      m_in_bounds_5 = (omega (arith, w.1.1.1.1.1.1.1.0), omega (arith, w.1.1.1.1.1.1.1.1.0));
    }

pub returns : goal.returns
unfolding tau_cycle_elimination_and_reorder
returns c =
    let a = c.args in
    let t = lts_of a.system.now in
    let out : Three = (a.result_source.now, (a.result_label.now, a.result_target.now)) in
    let work = a.numbers.now ∷ a.mid_source.now ∷ a.mid_label.now ∷ a.mid_target.now
    ∷ a.a.now ∷ a.b.now ∷ a.c.now ∷ a.order.now ∷ a.spare.now ∷ [] in
    let q = asked t a.state out work _ c.room_for-room.ensures none c.in_default.ensures in
    let e = c.tau_cycle_elimination_and_reorder-reordered.ensures in
    let u = e.cleared in
    let w = e.cleared_2 in
    left_done (reorder_refusal t a.state out work) none q _ _ _ _ _ refl
    (ap said_reordered c.done.ensures ∙ (λ i. done (e.fact.0 i ∷ e.fact.1 i ∷ e.fact.2 i ∷ e.fact_2.0 i ∷ e.fact_2.1 i ∷ [])))
    (λ i. (e.out_left_value i, u.0 i ∷ u.1 i ∷ u.2 i ∷ u.3 i ∷ w.0 i ∷ w.1 i ∷ w.2 i ∷ w.3 i ∷ w.4 i ∷ []))
