-- `tau_cycle_elimination_and_reorder` meets its contract.
use Rattle.std.proofs.Common.{List, length, refl, ap, ◌∙◌, arith}
use Rattle.columns.specs.Blocks.{block_of}
use Rattle.columns.specs.Sets.{Row}
use Rattle.quotient.proofs.Theorems.{naive_few}
use Rattle.quotient_components.proofs.Components.{components_few}
use Rattle.table.specs.Lts.{lts_of, rows}
use Rattle.table.specs.Tables.{rows_over}
use Rattle.table.proofs.Tables.{rows-length}
use Rattle.quotient_cycles.proofs.Reordering.{written_numbers, written_rows}
use Rattle.quotient_cycles.proofs.cores.tau_cycle_elimination_and_reorder.Goals as goal

pub overflow_cast-reordered : goal.overflow_cast-reordered
overflow_cast-reordered c =
    let v = c.requires.valid.0 in
    omega (arith, c.find_numbers-n.ensures.value, components_few (lts_of c.args.system.now) v, v.few_states)

pub overflow_cast-reordered-2 : goal.overflow_cast-reordered-2
overflow_cast-reordered-2 c =
    let t = lts_of c.args.system.now in
    let on = c.args.eliminate_tau_selfloops in
    let few = naive_few on on (block_of c.find_numbers-n.new.numbers) (rows t) in
    omega (arith, c.quotient_rows-m.ensures.fact.0, few, rows-length t, c.requires.valid.0.few_rows)

pub returns-clause-fact : goal.returns-clause-fact
returns-clause-fact c =
    let t = lts_of c.args.system.now in
    let e = written_rows t c.requires.valid.0 c.args.eliminate_tau_selfloops _ _ c.find_numbers-n.ensures.numbers_value in
    (c.find_numbers-n.ensures.value, refl, c.quotient_rows-m.ensures.fact.0 ∙ ap (λ (l : List Row). length l) e)

pub returns-clause-fact_2 : goal.returns-clause-fact_2
returns-clause-fact_2 c =
    let t = lts_of c.args.system.now in
    let homes = written_numbers t c.args.eliminate_tau_selfloops _ _ c.find_numbers-n.ensures.numbers_value in
    (homes t.initial c.requires.valid.0.initial, homes c.args.state c.requires.valid.1)

pub returns-clause-out_left_value : goal.returns-clause-out_left_value
returns-clause-out_left_value c =
    let a = c.args in
    let t = lts_of a.system.now in
    let e = written_rows t c.requires.valid.0 a.eliminate_tau_selfloops _ _ c.find_numbers-n.ensures.numbers_value in
    c.quotient_rows-m.ensures.fact.1
    ∙ ap (λ (l : List Row). rows_over l (a.result_source.now, (a.result_label.now, a.result_target.now))) e
