-- `check` meets its contract.
use Rattle.std.proofs.Common.{refl}
use Rattle.columns.specs.Answers.{none}
use Rattle.columns.proofs.Bools.{and_left}
use Rattle.columns.proofs.Chains.{passed, refused_first, refused_second}
use Rattle.table.specs.Checks.{rows_long, header_tests, row_tests}
use Rattle.table.specs.Lts.{lts_of}
use Rattle.table.proofs.Refusals.{long_of}
use Rattle.table.proofs.Lts.check.Goals as goal

pub returns-in_err-check_header : goal.returns-in_err-check_header
returns-in_err-check_header c =
    let t = lts_of c.args.self.now in
    refused_first (header_tests t c.args.room) (row_tests t) refl _ _ c.in_err-check_header.ensures c.from_residual.ensures.1

pub check_rows-requires : goal.check_rows-requires
check_rows-requires c =
    let t = lts_of c.args.self.now in
    let h = passed (header_tests t c.args.room) refl none c.in_ok-check_header.ensures refl in
    let l = long_of t (and_left (rows_long t) c.args.room h.1.1.1.1.0) in
    (l.source, l.label, l.target)

pub returns : goal.returns
returns c =
    let t = lts_of c.args.self.now in
    refused_second (header_tests t c.args.room) (row_tests t) refl _ c.in_ok-check_header.ensures c.check_rows.ensures
