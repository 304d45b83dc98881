-- `select_rows` meets its contract.
use Rattle.std.proofs.Common.{sym, ◌∙◌, arith}
use Rattle.bisimulation.specs.Quotient.{between}
use Rattle.columns.specs.Rows.{row_in}
use Rattle.quotient.specs.Naive.{naive_rows}
use Rattle.quotient.proofs.Picks.{pick_start, pick_more, pick_pass, pick_done}
use Rattle.quotient.proofs.cores.select_rows.Goals as goal
use Rattle.quotient.proofs.cores.select_rows.Goals.{then-row_stays, else-row_stays}

pub loop-i-init : goal.loop-i-init
loop-i-init c = pick_start _ _ _ _ _ _ _ _

pub loop-i-preserved : goal.loop-i-preserved
unfolding between row_in
loop-i-preserved c =
    let k = c.loop-i.invariant in
    elim c.if-row_stays.branch [
      | then-row_stays w ↦
          let e = w.push_row.ensures in
          rw w.d-is
          (pick_more _ _ _ _ _ _ _ _ _ _ k (sym w.if-row_stays.true ∙ c.row_stays.ensures) (omega arith) (omega arith) (omega arith) _ _ _
          (w.a-is ∙ e.a_value) (w.b-is ∙ e.b_value) (w.c-is ∙ e.c_value))
      | else-row_stays w ↦
          rw (w.a-is, w.b-is, w.c-is, w.d-is) (pick_pass _ _ _ _ _ _ _ _ _ _ k (sym w.if-row_stays.false ∙ c.row_stays.ensures))
    ]

pub returns : goal.returns
unfolding naive_rows
returns c = (pick_done _ _ _ _ _ _ _ _ _ _ c.loop-i.invariant _ (omega arith), omega arith)
