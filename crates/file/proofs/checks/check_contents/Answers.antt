-- `check_contents` meets its contract.
use Rattle.std.proofs.Common.{refl}
use Rattle.columns.proofs.Chains.{refused_first, refused_second}
use Rattle.file.proofs.checks.check_contents.Goals as goal

pub returns-in_err-check_fields : goal.returns-in_err-check_fields
returns-in_err-check_fields c = refused_first _ _ refl _ _ c.in_err-check_fields.ensures c.from_residual.ensures.1

pub returns : goal.returns
returns c = refused_second _ _ refl _ c.in_ok-check_fields.ensures c.check_lengths.ensures
