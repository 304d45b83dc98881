-- `quotient_lts_naive` meets its contract.
use Rattle.std.proofs.Common.{ℕ, [], ◌∷◌, refl, ap, ◌∙◌, arith}
use Rattle.columns.specs.Answers.{none, done}
use Rattle.columns.specs.Blocks.{block_of}
use Rattle.columns.proofs.Saying.{numbered}
use Rattle.partition.specs.Partition.{parts_of}
use Rattle.quotient.specs.Call.{rows_between}
use Rattle.quotient.proofs.Answering.{asked, quotient_ready, naive_refused, naive_answered}
use Rattle.quotient.proofs.Theorems.{naive_few}
use Rattle.table.specs.Lts.{lts_of, rows}
use Rattle.table.specs.Tables.{Three, said_table}
use Rattle.table.proofs.Tables.{rows-length}
use Rattle.quotient.proofs.quotient_lts_naive.Goals as goal

pub returns-in-Err : goal.returns-in-Err
returns-in-Err c =
    let a = c.args in
    let t = lts_of a.system.now in
    let p = parts_of a.columns.now t.n a.count in
    let out : Three = (a.result_source.now, (a.result_label.now, a.result_target.now)) in
    let work = a.a.now ∷ a.b.now ∷ a.c.now ∷ a.order.now ∷ a.spare.now ∷ [] in
    let e = asked t p out work _ c.room_for-room.ensures _ c.in-Err.ensures in
    naive_refused t p out work _ e a.eliminate_inert_taus a.eliminate_tau_loops _ (numbered _) (ap said_table c.refused.ensures)

pub quotient_rows-m-requires : goal.quotient_rows-m-requires
quotient_rows-m-requires c =
    let a = c.args in
    let t = lts_of a.system.now in
    let p = parts_of a.columns.now t.n a.count in
    let out : Three = (a.result_source.now, (a.result_label.now, a.result_target.now)) in
    let work = a.a.now ∷ a.b.now ∷ a.c.now ∷ a.order.now ∷ a.spare.now ∷ [] in
    let r = quotient_ready t p out work none (asked t p out work _ c.room_for-room.ensures _ c.in_default.ensures) refl refl in
    let x = r.results in
    let w = r.works in record {
      valid = (r.valid, r.sound.long.element_to_block);
      m_in_bounds = (x.0, x.1.0, x.1.1.0);
      m_in_bounds_2 = (omega (arith, w.0), omega (arith, w.1.0), omega (arith, w.1.1.0));
      m_in_bounds_3 = (omega (arith, w.1.1.1.0), omega (arith, w.1.1.1.1.0));
    }

pub overflow_cast-m : goal.overflow_cast-m
overflow_cast-m c =
    let a = c.args in
    let t = lts_of a.system.now in
    let p = parts_of a.columns.now t.n a.count in
    let out : Three = (a.result_source.now, (a.result_label.now, a.result_target.now)) in
    let work = a.a.now ∷ a.b.now ∷ a.c.now ∷ a.order.now ∷ a.spare.now ∷ [] in
    let r = quotient_ready t p out work none (asked t p out work _ c.room_for-room.ensures _ c.in_default.ensures) refl refl in
    let few = naive_few a.eliminate_inert_taus a.eliminate_tau_loops (block_of a.columns.now.element_to_block.now) (rows t) in
    omega (arith, c.quotient_rows-m.ensures.fact.0, few, rows-length t, r.valid.few_rows)

pub bounds-columns-table : goal.bounds-columns-table
bounds-columns-table c =
    let a = c.args in
    let t = lts_of a.system.now in
    let p = parts_of a.columns.now t.n a.count in
    let out : Three = (a.result_source.now, (a.result_label.now, a.result_target.now)) in
    let work = a.a.now ∷ a.b.now ∷ a.c.now ∷ a.order.now ∷ a.spare.now ∷ [] in
    let r = quotient_ready t p out work none (asked t p out work _ c.room_for-room.ensures _ c.in_default.ensures) refl refl in
    omega (arith, r.valid.initial, r.sound.long.element_to_block)

pub returns : goal.returns
unfolding rows_between
returns c =
    let a = c.args in
    let t = lts_of a.system.now in
    let p = parts_of a.columns.now t.n a.count in
    let out : Three = (a.result_source.now, (a.result_label.now, a.result_target.now)) in
    let work = a.a.now ∷ a.b.now ∷ a.c.now ∷ a.order.now ∷ a.spare.now ∷ [] in
    let r = c.quotient_rows-m.ensures in
    let w = r.cleared in
    naive_answered t p out work none (asked t p out work _ c.room_for-room.ensures _ c.in_default.ensures) a.eliminate_inert_taus
    a.eliminate_tau_loops _ refl
    (ap said_table c.done.ensures
    ∙ ap (λ (m : ℕ). done (a.count ∷ t.labels ∷ m ∷ block_of a.columns.now.element_to_block.now t.initial ∷ [])) r.fact.0)
    _ r.fact.1 _ (λ i. w.0 i ∷ w.1 i ∷ w.2 i ∷ w.3 i ∷ w.4 i ∷ [])
