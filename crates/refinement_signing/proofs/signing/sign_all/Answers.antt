-- `sign_all` meets its contract.
use Rattle.std.proofs.Common.{arith, ap, sym, ◌∙◌}
use Rattle.columns.specs.Columns.{zeros}
use Rattle.refinement_signing.proofs.Turns.{turn_start, turn_rows, turn_more, turn_done}
use Rattle.table.specs.Lts.{lts_of}
use Rattle.table.proofs.Stretches.{rising}
use Rattle.refinement_signing.proofs.signing.sign_all.Goals as goal

pub loop-s-init : goal.loop-s-init
loop-s-init c =
    let a = c.args in
    record {
      signed = turn_start (lts_of a.system.now) c.requires.valid.0 _ _ _ _;
      spared = c.requires.m_in_bounds_2.2;
    }

pub row_end-end-requires : goal.row_end-end-requires
row_end-end-requires c =
    let a = c.args in
    let v = c.requires.valid.0 in
    (v.long.source, rising (lts_of a.system.now) v, c.loop-s.invariant.signed.row)

pub sign_rows-d-requires : goal.sign_rows-d-requires
sign_rows-d-requires c =
    let a = c.args in
    let v = c.requires.valid.0 in
    let i = c.loop-s.invariant in
    let rows = turn_rows (lts_of a.system.now) v _ i.signed c.row_end-end.ensures in
    record {
      first_le_end = (omega arith, omega arith, omega arith, omega arith);
      by_index = λ k l. omega (arith, v.fields k (omega arith));
      end_in_bounds = (omega arith, omega arith, omega arith, omega arith);
      d_le_first = (omega arith, omega arith, omega arith, i.spared ∙ ap zeros (sym c.loop-s.auto.spare));
    }

pub loop-s-preserved : goal.loop-s-preserved
loop-s-preserved c =
    let a = c.args in
    let v = c.requires.valid.0 in
    let q = c.sign_rows-d.ensures in
    record {
      signed =
          turn_more (lts_of a.system.now) v _ c.loop-s.invariant.signed c.row_end-end.ensures (omega arith)
          q.0 q.1;
      spared = q.2 ∙ ap zeros c.loop-s.auto.spare;
    }

pub returns : goal.returns
returns c =
    let a = c.args in
    let i = c.loop-s.invariant in
    let r =
    turn_done (lts_of a.system.now) c.requires.valid.0 _ i.signed (omega arith) (omega arith) (omega arith)
    (omega arith) in
    (r.0, r.1, i.spared, r.2, r.3)
