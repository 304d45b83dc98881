-- `read_file` meets its contract.
use Rattle.std.proofs.Common.{ap, refl, ◌∙◌, arith}
use Rattle.columns.specs.Answers.{none, done}
use Rattle.columns.proofs.Saying.{left_refused, left_done, numbered}
use Rattle.table.specs.declared.Table.{Table}
use Rattle.table.specs.Tables.{Three, lengths_of, header_values, columns_in, columns_over, said_table}
use Rattle.file.specs.Input.{with_rows, table_in, file_refusal, read_file}
use Rattle.file.proofs.Inputs.{accepted_of, readable}
use Rattle.file.proofs.reading.read_file.Goals as goal

pub returns-in-Err : goal.returns-in-Err
unfolding read_file
returns-in-Err c =
    let given : Three = (c.args.source.now, (c.args.label.now, c.args.target.now)) in
    left_refused (file_refusal c.args.bytes.now (lengths_of given)) _ c.in-Err.ensures given _ _ _ (numbered _)
    (ap said_table c.refused.ensures)

pub header-table-requires : goal.header-table-requires
header-table-requires c = omega (arith, (accepted_of _ _ none c.in_default.ensures refl).contents.size)

pub read_rows-requires : goal.read_rows-requires
read_rows-requires c =
    let r = readable _ _ _ c.header-table.ensures (accepted_of _ _ none c.in_default.ensures refl) in
    (omega (arith, r.size), r.room.0, r.room.1.0, r.room.1.1.0)

pub returns : goal.returns
unfolding read_file table_in
returns c =
    let s = c.args.bytes.now in
    let given : Three = (c.args.source.now, (c.args.label.now, c.args.target.now)) in
    let e = c.header-table.ensures in
    left_done (file_refusal s (lengths_of given)) none c.in_default.ensures given _ _ _ _ refl
    (ap said_table c.done.ensures ∙ ap (λ (t : Table). done (header_values t)) e)
    (c.read_rows.ensures ∙ ap (λ (t : Table). columns_over (columns_in (with_rows t s)) given) e)
