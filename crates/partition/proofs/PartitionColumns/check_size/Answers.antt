-- `check_size` meets its contract.
use Rattle.std.proofs.Common.{refl, ap, ◌∙◌, [], ◌∷◌, ◌&&◌, Bool}
use Rattle.columns.specs.Due.{test, due, states_test}
use Rattle.columns.specs.Limits.{too_short}
use Rattle.columns.proofs.Chains.{refused_first, refused_second}
use Rattle.partition.proofs.PartitionColumns.check_size.Goals as goal

pub returns-in_err-check_states : goal.returns-in_err-check_states
returns-in_err-check_states c = refused_first (states_test c.args.n ∷ []) _ refl _ _ c.in_err-check_states.ensures c.from_residual.ensures.1

pub returns : goal.returns
returns c =
    refused_second (states_test c.args.n ∷ []) _ refl _ c.in_ok-check_states.ensures
    (c.refuse_unless.ensures ∙ ap (λ (b : Bool). due (test (b && c.args.room) too_short 0 ∷ [])) c.all_long.ensures)
