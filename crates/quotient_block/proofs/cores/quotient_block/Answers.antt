-- `quotient_block` meets its contract.
use Rattle.std.proofs.Common.{ℕ, [], ◌∷◌, ap, ◌∙◌, get_or, arith}
use Rattle.bisimulation.proofs.Kept.{kept_few}
use Rattle.columns.specs.Answers.{done}
use Rattle.columns.specs.Blocks.{block_of}
use Rattle.quotient_block.specs.Chosen.{of_chosen, chosen_rows}
use Rattle.quotient_block.proofs.Chosen.{block_lacks, block_done, block_rows_lem}
use Rattle.table.specs.Lts.{lts_of, rows}
use Rattle.table.specs.Tables.{Three, said_table}
use Rattle.table.proofs.Tables.{rows-length}
use Rattle.quotient_block.proofs.cores.quotient_block.Goals as goal

pub returns-in-Err-clause-out_left_value : goal.returns-in-Err-clause-out_left_value
returns-in-Err-clause-out_left_value c =
    let a = c.args in
    block_lacks a.branching a.loops (lts_of a.system.now) a.home.now a.elements.now a.begin.now a.count _ _ c.in-Err.ensures.value _
    (ap said_table c.refused.ensures)

pub overflow_cast-m : goal.overflow_cast-m
unfolding chosen_rows
overflow_cast-m c =
    let a = c.args in
    let t = lts_of a.system.now in
    let few = kept_few (of_chosen a.loops (λ b. get_or c.choose_all.new.chosen b 0) (block_of a.home.now)) (block_of a.home.now) (rows t) in
    omega (arith, c.chosen_rows-m.ensures.fact.0, few, rows-length t, c.requires.valid.few_rows)

pub returns-clause-out_left_value : goal.returns-clause-out_left_value
returns-clause-out_left_value c =
    let a = c.args in
    let t = lts_of a.system.now in
    let e = c.in_default.ensures in
    let r = c.chosen_rows-m.ensures.fact in
    let out : Three = (a.result_source.now, (a.result_label.now, a.result_target.now)) in
    block_done a.branching a.loops t a.home.now a.elements.now a.begin.now a.count out e.value _ _ _
    (block_rows_lem a.branching a.loops t a.home.now a.elements.now a.begin.now a.count out e.value c.requires.valid
    c.requires.choosable.0 _ _ e.chosen_value)
    (ap said_table c.done.ensures ∙ ap (λ (m : ℕ). done (a.count ∷ t.labels ∷ m ∷ block_of a.home.now t.initial ∷ [])) r.0) r.1
