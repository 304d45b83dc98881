-- `check_table` meets its contract.
use Rattle.std.proofs.Common.{sym, ap, ◌∙◌}
use Rattle.columns.specs.Due.{due}
use Rattle.table.specs.Lts.{Lts}
use Rattle.table.specs.Checks.{table_tests}
use Rattle.file.specs.Input.{with_rows}
use Rattle.file.proofs.Inputs.{many-counted, rows_front}
use Rattle.file.proofs.checks.check_table.Goals as goal

pub returns-then-m-gt-MAX_ROWS : goal.returns-then-m-gt-MAX_ROWS
unfolding with_rows
returns-then-m-gt-MAX_ROWS c = c.check_counts.ensures ∙ sym (many-counted c.args.table _ _ _ c.args.room c.if-m-gt-MAX_ROWS.true)

pub returns : goal.returns
returns c =
    c.check.ensures
    ∙ ap (λ (t : Lts). due (table_tests t c.args.room)) (rows_front c.args.table c.args.bytes.now _ _ _ _ c.read_rows.ensures)
