-- `quotient_lts_block` meets its contract.
use Rattle.std.proofs.Common.{[], ◌∷◌, refl, ap, arith}
use Rattle.columns.specs.Answers.{none}
use Rattle.columns.proofs.Saying.{numbered}
use Rattle.partition.specs.Partition.{parts_of}
use Rattle.quotient.proofs.Answering.{asked, quotient_ready}
use Rattle.quotient_block.proofs.Calls.{block_refused, block_call_answered}
use Rattle.quotient_block.proofs.Chosen.{choosable_of}
use Rattle.table.specs.Lts.{lts_of}
use Rattle.table.specs.Tables.{Three, said_table}
use Rattle.quotient_block.proofs.quotient_lts_block.Goals as goal

pub returns-in-Err : goal.returns-in-Err
returns-in-Err c =
    let a = c.args in
    let t = lts_of a.system.now in
    let p = parts_of a.columns.now t.n a.count in
    let out : Three = (a.result_source.now, (a.result_label.now, a.result_target.now)) in
    let work = a.a.now ∷ a.b.now ∷ a.c.now ∷ a.order.now ∷ a.spare.now ∷ a.chosen.now ∷ [] in
    let e = asked t p out work _ c.room_for-room.ensures _ c.in-Err.ensures in
    block_refused a.branching a.eliminate_tau_loops t p out work _ e _ (numbered _) (ap said_table c.refused.ensures)

pub quotient_block-requires : goal.quotient_block-requires
quotient_block-requires c =
    let a = c.args in
    let t = lts_of a.system.now in
    let p = parts_of a.columns.now t.n a.count in
    let out : Three = (a.result_source.now, (a.result_label.now, a.result_target.now)) in
    let work = a.a.now ∷ a.b.now ∷ a.c.now ∷ a.order.now ∷ a.spare.now ∷ a.chosen.now ∷ [] in
    let r = quotient_ready t p out work none (asked t p out work _ c.room_for-room.ensures _ c.in_default.ensures) refl refl in
    let x = r.results in
    let w = r.works in record {
      valid = r.valid;
      choosable = (choosable_of p r.sound, omega (arith, r.sound.consistent.most, w.1.1.1.1.1.0));
      m_in_bounds = (x.0, x.1.0, x.1.1.0);
      m_in_bounds_2 = (omega (arith, w.0), omega (arith, w.1.0), omega (arith, w.1.1.0));
      m_in_bounds_3 = (omega (arith, w.1.1.1.0), omega (arith, w.1.1.1.1.0));
    }

pub returns : goal.returns
returns c =
    let a = c.args in
    let t = lts_of a.system.now in
    let p = parts_of a.columns.now t.n a.count in
    let out : Three = (a.result_source.now, (a.result_label.now, a.result_target.now)) in
    let work = a.a.now ∷ a.b.now ∷ a.c.now ∷ a.order.now ∷ a.spare.now ∷ a.chosen.now ∷ [] in
    let e = asked t p out work _ c.room_for-room.ensures none c.in_default.ensures in
    let r = c.quotient_block.ensures in
    let w = r.cleared in
    block_call_answered a.branching a.eliminate_tau_loops t p out work none e _ refl _ r.out_left_value _
    (λ i. w.0 i ∷ w.1 i ∷ w.2 i ∷ w.3 i ∷ w.4 i ∷ w.5 i ∷ [])
