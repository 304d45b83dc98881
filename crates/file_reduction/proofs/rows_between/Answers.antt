-- `rows_between` meets its contract.
use Rattle.std.proofs.Common.{List, length, ap, ◌∙◌, arith}
use Rattle.columns.specs.Sets.{Row}
use Rattle.reduction.proofs.Entries.{length-blocks, same_rows}
use Rattle.table.specs.Lts.{lts_of}
use Rattle.table.specs.Tables.{rows_over}
use Rattle.file_reduction.proofs.rows_between.Goals as goal

pub quotient_rows-requires-clause-valid : goal.quotient_rows-requires-clause-valid
quotient_rows-requires-clause-valid c =
    let r = c.requires.fact in
    (r.0, omega (arith, ap length r.1, length-blocks (lts_of c.args.system.now)))

pub returns : goal.returns
returns c =
    let g = c.args in
    let q = c.quotient_rows.ensures.fact in
    let same = same_rows (lts_of g.system.now) g.block.now c.requires.fact.1 in (
      q.0 ∙ ap (λ (l : List Row). length l) same,
      q.1 ∙ ap (λ (l : List Row). rows_over l (g.result_source.now, (g.result_label.now, g.result_target.now))) same,
    )
