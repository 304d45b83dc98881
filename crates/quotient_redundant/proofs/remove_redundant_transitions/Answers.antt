-- `remove_redundant_transitions` meets its contract.
use Rattle.std.proofs.Common.{◌≡◌, ℕ, List, [], ◌∷◌, map, length, refl, ap, ◌∙◌, arith}
use Rattle.std.specs.Prelude.{Bool}
use Rattle.columns.specs.Answers.{Refusal, none, done}
use Rattle.columns.specs.Due.{due}
use Rattle.columns.proofs.Counting.{many-le}
use Rattle.columns.proofs.Saying.{left_refused, left_done, numbered}
use Rattle.table.specs.Checks.{call_room, table_tests}
use Rattle.table.specs.Lts.{Lts, lts_of}
use Rattle.table.specs.Tables.{Three, lengths_of, said_table}
use Rattle.table.proofs.Rooms.{ready_call}
use Rattle.quotient_redundant.specs.Call.{remove_refusal, remove_redundant_transitions}
use Rattle.quotient_redundant.specs.Redundant.{remains}
use Rattle.quotient_redundant.proofs.Redundancy.{remaining_count}
use Rattle.quotient_redundant.proofs.remove_redundant_transitions.Goals as goal

-- what the check has answered, with the room that was found
asked : (t : Lts) (out : Three) (work : List (List ℕ)) (room : Bool) → room ≡ call_room t t.m (lengths_of out) (map length work)
    → (r : Refusal) → r ≡ due (table_tests t room) → r ≡ remove_refusal t out work
unfolding remove_refusal
asked t out work room e r f = f ∙ ap (λ (b : Bool). due (table_tests t b)) e

pub returns-in-Err : goal.returns-in-Err
unfolding remove_redundant_transitions
returns-in-Err c =
    let a = c.args in
    let out : Three = (a.result_source.now, (a.result_label.now, a.result_target.now)) in
    let work = a.order.now ∷ a.back_source.now ∷ a.back_label.now ∷ a.back_target.now ∷ a.forward.now ∷ a.backward.now ∷ a.queue.now ∷ [] in
    let e = asked (lts_of a.system.now) out work _ c.room_for-room.ensures _ c.in-Err.ensures in
    left_refused _ _ e (out, work) _ _ _ (numbered _) (ap said_table c.refused.ensures)

pub remove_redundant_transitions-m-requires : goal.remove_redundant_transitions-m-requires
unfolding remove_refusal
remove_redundant_transitions-m-requires c =
    let a = c.args in
    let t = lts_of a.system.now in
    let out : Three = (a.result_source.now, (a.result_label.now, a.result_target.now)) in
    let work = a.order.now ∷ a.back_source.now ∷ a.back_label.now ∷ a.back_target.now ∷ a.forward.now ∷ a.backward.now ∷ a.queue.now ∷ [] in
    let e = asked t out work _ c.room_for-room.ensures none c.in_default.ensures in
    let r = ready_call t t.m (lengths_of out) (map length work) none e refl in
    let x = r.result_room in
    let w = r.work_room in record {
      valid = r.valid;
      m_in_bounds = (x.0, x.1.0, x.1.1.0);
      m_in_bounds_2 = (omega (arith, w.0), omega (arith, w.1.0));
      m_in_bounds_3 = (omega (arith, w.1.1.0), omega (arith, w.1.1.1.0));
      n_in_bounds = (omega (arith, w.1.1.1.1.0), omega (arith, w.1.1.1.1.1.0));
      n_in_bounds_2 = (omega (arith, w.1.1.1.1.1.1.0), omega (arith, w.1.1.1.1.1.1.0));
    }

pub overflow_cast-m : goal.overflow_cast-m
overflow_cast-m c =
    let t = lts_of c.args.system.now in
    omega (arith, c.remove_redundant_transitions-m.ensures.value, remaining_count t, many-le t.m (remains t))

pub returns : goal.returns
unfolding remove_redundant_transitions
returns c =
    let a = c.args in
    let out : Three = (a.result_source.now, (a.result_label.now, a.result_target.now)) in
    let work = a.order.now ∷ a.back_source.now ∷ a.back_label.now ∷ a.back_target.now ∷ a.forward.now ∷ a.backward.now ∷ a.queue.now ∷ [] in
    let e = c.remove_redundant_transitions-m.ensures in
    let w = e.cleared in
    let x = e.cleared_2 in
    left_done _ none (asked (lts_of a.system.now) out work _ c.room_for-room.ensures _ c.in_default.ensures) (out, work) _ _ _ _ refl
    (ap said_table c.done.ensures
    ∙ ap (λ (k : ℕ). done (a.system.now.table.n ∷ a.system.now.table.labels ∷ k ∷ a.system.now.table.initial ∷ [])) e.value)
    (λ i. (e.out_left_value i, w.0 i ∷ w.1 i ∷ w.2 i ∷ w.3 i ∷ x.0 i ∷ x.1 i ∷ x.2 i ∷ []))
