-- `check_counts` meets its contract.
use Rattle.std.proofs.Common.{refl}
use Rattle.columns.proofs.Chains.{refused_first, refused_second}
use Rattle.file.proofs.checks.check_counts.Goals as goal

pub returns-in_err-check_states : goal.returns-in_err-check_states
returns-in_err-check_states c = refused_first _ _ refl _ _ c.in_err-check_states.ensures c.from_residual.ensures.1

pub returns-in_err-check_labels : goal.returns-in_err-check_labels
returns-in_err-check_labels c =
    refused_second _ _ refl _ c.in_ok-check_states.ensures
    (refused_first _ _ refl _ _ c.in_err-check_labels.ensures c.from_residual-in_err-check_labels.ensures.1)

pub returns : goal.returns
returns c =
    refused_second _ _ refl _ c.in_ok-check_states.ensures (refused_second _ _ refl _ c.in_ok-check_labels.ensures c.refuse_unless.ensures)
