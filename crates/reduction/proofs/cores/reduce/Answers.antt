-- `reduce` meets its contract.
use Rattle.std.proofs.Common.{List, length, ap, ◌∙◌}
use Rattle.columns.specs.Sets.{Row}
use Rattle.table.specs.Lts.{lts_of}
use Rattle.table.specs.Tables.{rows_over}
use Rattle.reduction.proofs.Entries.{same_rows}
use Rattle.reduction.proofs.cores.reduce.Goals as goal

pub returns-clause-fact_2 : goal.returns-clause-fact_2
returns-clause-fact_2 c =
    let t = lts_of c.args.system.now in
    let b = c.strong_blocks-r.ensures in
    let q = c.quotient_rows-rows.ensures in
    (b.1, q.fact.0 ∙ ap (λ (l : List Row). length l) (same_rows t _ b.2), b.0)

pub returns-clause-fact_3 : goal.returns-clause-fact_3
returns-clause-fact_3 c =
    let g = c.args in
    let t = lts_of g.system.now in
    let b = c.strong_blocks-r.ensures in
    let q = c.quotient_rows-rows.ensures in
    (b.2, q.fact.1 ∙ ap (λ (l : List Row). rows_over l (g.result_source.now, (g.result_label.now, g.result_target.now))) (same_rows t _ b.2))
