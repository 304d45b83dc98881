-- `check_file` meets its contract.
use Rattle.std.proofs.Common.{◌≡◌, ℕ, List, ap, refl, ◌∙◌, arith}
use Rattle.columns.specs.Answers.{none}
use Rattle.columns.specs.Due.{due, all_long}
use Rattle.columns.proofs.Chains.{passed, refused_first, refused_second}
use Rattle.table.specs.declared.Table.{Table}
use Rattle.table.specs.Checks.{table_tests}
use Rattle.file.specs.Input.{header_in, with_rows, table_in, contents_tests, file_refusal}
use Rattle.file.proofs.Inputs.{RightContents, contents_of}
use Rattle.file.proofs.checks.check_file.Goals as goal

contents : (s : List ℕ) → none ≡ due (contents_tests s) → RightContents s
contents s e = contents_of s (passed (contents_tests s) refl none e refl)

pub returns-in_err-check_contents : goal.returns-in_err-check_contents
unfolding file_refusal
returns-in_err-check_contents c =
    let s = c.args.bytes.now in
    refused_first (contents_tests s) (table_tests (table_in s) (all_long (header_in s).m c.args.columns.now)) refl _ _
    c.in_err-check_contents.ensures c.from_residual.ensures.1

pub header-table-requires : goal.header-table-requires
header-table-requires c = omega (arith, (contents c.args.bytes.now c.in_ok-check_contents.ensures).size)

pub check_table-requires : goal.check_table-requires
check_table-requires c =
    omega (arith, (contents c.args.bytes.now c.in_ok-check_contents.ensures).size, ap (λ (t : Table). t.m) c.header-table.ensures)

pub returns : goal.returns
unfolding file_refusal table_in
returns c =
    let s = c.args.bytes.now in
    let e = c.header-table.ensures in
    let room = c.long.ensures ∙ ap (λ (t : Table). all_long t.m c.args.columns.now) e in
    refused_second (contents_tests s) (table_tests (table_in s) (all_long (header_in s).m c.args.columns.now)) refl _
    c.in_ok-check_contents.ensures
    (c.check_table.ensures ∙ (λ i. due (table_tests (with_rows (e i) s) (room i))))
