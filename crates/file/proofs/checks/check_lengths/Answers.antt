-- `check_lengths` meets its contract.
use Rattle.std.proofs.Common.{◌≡◌, ◌≤◌, ℕ, leb, refl, [], ◌∷◌, ◌∙◌, arith}
use borrow.Author.Tests.{leb-true}
use Rattle.columns.specs.Answers.{none}
use Rattle.columns.specs.Due.{test, due}
use Rattle.columns.specs.Limits.{wrong_contents}
use Rattle.columns.proofs.Chains.{passed, refused_first, refused_second}
use Rattle.file.specs.Layout.{input_rows}
use Rattle.file.proofs.Inputs.{sized_lengths_read}
use Rattle.file.proofs.checks.check_lengths.Goals as goal

-- there is room for a header
header : (size : ℕ) → none ≡ due (test (leb input_rows size) wrong_contents size ∷ []) → input_rows ≤ size
header size e = leb-true input_rows size (passed (test (leb input_rows size) wrong_contents size ∷ []) refl none e refl).0

pub returns-in_err-check_at : goal.returns-in_err-check_at
returns-in_err-check_at c = refused_first _ _ refl _ _ c.in_err-check_at.ensures c.from_residual.ensures.1

pub number_at-rows-requires : goal.number_at-rows-requires
number_at-rows-requires c = omega (arith, c.requires (header c.args.size c.in_ok-check_at.ensures))

pub number_at-requires : goal.number_at-requires
number_at-requires c = omega (arith, c.requires (header c.args.size c.in_ok-check_at.ensures))

pub returns-in_err-check_at-2 : goal.returns-in_err-check_at-2
returns-in_err-check_at-2 c =
    refused_first _ _ refl _ _ c.in_err-check_at-2.ensures c.from_residual-in_err-check_at-2.ensures.1
    ∙ sized_lengths_read c.args.bytes.now c.args.size (header c.args.size c.in_ok-check_at.ensures) _ _
    c.number_at-rows.ensures.0 c.number_at.ensures.0

pub returns-in_err-check_at-3 : goal.returns-in_err-check_at-3
returns-in_err-check_at-3 c =
    refused_second _ _ refl _ c.in_ok-check_at-2.ensures
    (refused_first _ _ refl _ _ c.in_err-check_at-3.ensures c.from_residual-in_err-check_at-3.ensures.1)
    ∙ sized_lengths_read c.args.bytes.now c.args.size (header c.args.size c.in_ok-check_at.ensures) _ _
    c.number_at-rows.ensures.0 c.number_at.ensures.0

pub returns : goal.returns
returns c =
    refused_second _ _ refl _ c.in_ok-check_at-2.ensures (refused_second _ _ refl _ c.in_ok-check_at-3.ensures c.check_at-4.ensures)
    ∙ sized_lengths_read c.args.bytes.now c.args.size (header c.args.size c.in_ok-check_at.ensures) _ _
    c.number_at-rows.ensures.0 c.number_at.ensures.0
