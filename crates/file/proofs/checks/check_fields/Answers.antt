-- `check_fields` meets its contract.
use Rattle.std.proofs.Common.{refl}
use Rattle.columns.proofs.Chains.{refused_first, refused_second}
use Rattle.file.proofs.checks.check_fields.Goals as goal

pub returns-in_err-check_field : goal.returns-in_err-check_field
returns-in_err-check_field c = refused_first _ _ refl _ _ c.in_err-check_field.ensures c.from_residual.ensures.1

pub returns-in_err-check_field-2 : goal.returns-in_err-check_field-2
returns-in_err-check_field-2 c =
    refused_second _ _ refl _ c.in_ok-check_field.ensures
    (refused_first _ _ refl _ _ c.in_err-check_field-2.ensures c.from_residual-in_err-check_field-2.ensures.1)

pub returns-in_err-check_field-3 : goal.returns-in_err-check_field-3
returns-in_err-check_field-3 c =
    refused_second _ _ refl _ c.in_ok-check_field.ensures
    (refused_second _ _ refl _ c.in_ok-check_field-2.ensures
    (refused_first _ _ refl _ _ c.in_err-check_field-3.ensures c.from_residual-in_err-check_field-3.ensures.1))

pub returns-in_err-check_field-4 : goal.returns-in_err-check_field-4
returns-in_err-check_field-4 c =
    refused_second _ _ refl _ c.in_ok-check_field.ensures
    (refused_second _ _ refl _ c.in_ok-check_field-2.ensures
    (refused_second _ _ refl _ c.in_ok-check_field-3.ensures
    (refused_first _ _ refl _ _ c.in_err-check_field-4.ensures c.from_residual-in_err-check_field-4.ensures.1)))

pub returns-in_err-check_field-5 : goal.returns-in_err-check_field-5
returns-in_err-check_field-5 c =
    refused_second _ _ refl _ c.in_ok-check_field.ensures
    (refused_second _ _ refl _ c.in_ok-check_field-2.ensures
    (refused_second _ _ refl _ c.in_ok-check_field-3.ensures
    (refused_second _ _ refl _ c.in_ok-check_field-4.ensures
    (refused_first _ _ refl _ _ c.in_err-check_field-5.ensures c.from_residual-in_err-check_field-5.ensures.1))))

pub returns : goal.returns
returns c =
    refused_second _ _ refl _ c.in_ok-check_field.ensures
    (refused_second _ _ refl _ c.in_ok-check_field-2.ensures
    (refused_second _ _ refl _ c.in_ok-check_field-3.ensures
    (refused_second _ _ refl _ c.in_ok-check_field-4.ensures
    (refused_second _ _ refl _ c.in_ok-check_field-5.ensures c.check_field-6.ensures))))
