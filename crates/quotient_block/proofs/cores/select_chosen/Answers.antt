-- `select_chosen` meets its contract.
use Rattle.std.proofs.Common.{sym, ◌∙◌, arith}
use Rattle.bisimulation.specs.Quotient.{between}
use Rattle.columns.specs.Rows.{row_in}
use Rattle.quotient.proofs.Picks.{pick_start, pick_more, pick_pass, pick_done}
use Rattle.quotient_block.specs.Chosen.{chosen_rows}
use Rattle.quotient_block.proofs.cores.select_chosen.Goals as goal
use Rattle.quotient_block.proofs.cores.select_chosen.Goals.{then-row_chosen, else-row_chosen}

pub loop-i-init : goal.loop-i-init
loop-i-init c = pick_start _ _ _ _ _ _ _ _

pub loop-i-preserved : goal.loop-i-preserved
unfolding between row_in
loop-i-preserved c =
    let k = c.loop-i.invariant in
    elim c.if-row_chosen.branch [
      | then-row_chosen w ↦
          let e = w.push_row.ensures in
          rw w.d-is
          (pick_more _ _ _ _ _ _ _ _ _ _ k (sym w.if-row_chosen.true ∙ c.row_chosen.ensures) (omega arith) (omega arith) (omega arith) _ _ _
          (w.a-is ∙ e.a_value) (w.b-is ∙ e.b_value) (w.c-is ∙ e.c_value))
      | else-row_chosen w ↦
          rw (w.a-is, w.b-is, w.c-is, w.d-is) (pick_pass _ _ _ _ _ _ _ _ _ _ k (sym w.if-row_chosen.false ∙ c.row_chosen.ensures))
    ]

pub returns : goal.returns
unfolding chosen_rows
returns c = (pick_done _ _ _ _ _ _ _ _ _ _ c.loop-i.invariant _ (omega arith), omega arith)
