-- `tau_scc_decomposition` meets its contract.
use Rattle.std.proofs.Common.{ℕ, [], ◌∷◌, map, length, refl, ap, ◌∙◌, arith}
use Rattle.columns.specs.Answers.{none, done, said_number}
use Rattle.columns.proofs.Saying.{left_refused, left_done, numbered}
use Rattle.table.specs.Lts.{lts_of}
use Rattle.table.proofs.Rooms.{ready_call}
use Rattle.quotient_components.specs.Call.{decomposition_refusal, tau_scc_decomposition}
use Rattle.quotient_components.proofs.Calls.{asked}
use Rattle.quotient_components.proofs.tau_scc_decomposition.Goals as goal

pub returns-in-Err : goal.returns-in-Err
unfolding tau_scc_decomposition
returns-in-Err c =
    let a = c.args in
    let t = lts_of a.system.now in
    let work = a.order.now ∷ a.back_source.now ∷ a.back_label.now ∷ a.back_target.now ∷ a.forward.now ∷ a.backward.now ∷ a.queue.now ∷ [] in
    let e = asked t a.numbers.now work _ c.room_for-room.ensures _ c.in-Err.ensures in
    left_refused _ _ e (a.numbers.now, work) _ _ _ (numbered _) (ap said_number c.refused.ensures)

pub tau_scc_decomposition-count-requires : goal.tau_scc_decomposition-count-requires
unfolding decomposition_refusal
tau_scc_decomposition-count-requires c =
    let a = c.args in
    let t = lts_of a.system.now in
    let work = a.order.now ∷ a.back_source.now ∷ a.back_label.now ∷ a.back_target.now ∷ a.forward.now ∷ a.backward.now ∷ a.queue.now ∷ [] in
    let e = asked t a.numbers.now work _ c.room_for-room.ensures none c.in_default.ensures in
    let r = ready_call t t.n (length a.numbers.now ∷ []) (map length work) none e refl in
    let w = r.work_room in record {
      valid = (r.valid, r.result_room.0, omega (arith, w.0));
      m_in_bounds = (omega (arith, w.1.0), omega (arith, w.1.1.0));
      m_in_bounds_2 = (omega (arith, w.1.1.1.0), omega (arith, w.1.1.1.1.0), omega (arith, w.1.1.1.1.1.0));
      n_in_bounds = (omega (arith, w.1.1.1.1.1.1.0), omega (arith, w.1.1.1.1.1.1.0));
    }

pub returns : goal.returns
unfolding tau_scc_decomposition
returns c =
    let a = c.args in
    let t = lts_of a.system.now in
    let work = a.order.now ∷ a.back_source.now ∷ a.back_label.now ∷ a.back_target.now ∷ a.forward.now ∷ a.backward.now ∷ a.queue.now ∷ [] in
    let e = c.tau_scc_decomposition-count.ensures in
    let w = e.cleared in
    let x = e.cleared_2 in
    left_done _ none (asked t a.numbers.now work _ c.room_for-room.ensures _ c.in_default.ensures) _ _ _ _ _ refl
    (ap said_number c.done.ensures ∙ ap (λ (k : ℕ). done (k ∷ [])) e.value)
    (λ i. (e.numbers_value i, w.0 i ∷ w.1 i ∷ w.2 i ∷ w.3 i ∷ x.0 i ∷ x.1 i ∷ x.2 i ∷ []))
