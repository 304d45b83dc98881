-- `check_long` meets its contract.
use Rattle.std.proofs.Common.{ap, refl, ◌∙◌}
use Rattle.columns.specs.Due.{due}
use Rattle.columns.proofs.Chains.{refused_first, refused_second}
use Rattle.table.specs.declared.Table.{Table}
use Rattle.file.specs.Input.{header_in, sized_tests, count_tests, long_refusal}
use Rattle.file.proofs.checks.check_long.Goals as goal

pub returns-in_err-check_contents : goal.returns-in_err-check_contents
unfolding long_refusal
returns-in_err-check_contents c =
    let s = c.args.front.now in
    refused_first (sized_tests s c.args.size) (count_tests (header_in s)) refl _ _ c.in_err-check_contents.ensures c.from_residual.ensures.1

pub returns : goal.returns
unfolding long_refusal
returns c =
    let s = c.args.front.now in
    refused_second (sized_tests s c.args.size) (count_tests (header_in s)) refl _ c.in_ok-check_contents.ensures
    (c.check_counts.ensures ∙ ap (λ (t : Table). due (count_tests t)) c.header.ensures)
