-- `check_next` meets its contract.
use Rattle.std.proofs.Common.{◌+◌, true, refl, [], ◌∷◌, ◌++◌}
use Rattle.columns.specs.Due.{index_test}
use Rattle.columns.proofs.Chains.{refused_first, refused_second}
use Rattle.table.specs.Checks.{table_tests, table_argument_refusal}
use Rattle.table.specs.Lts.{lts_of}
use Rattle.table.specs.Transitions.{next_refusal}
use Rattle.table.proofs.Lts.check_next.Goals as goal

pub returns-in_err-check_argument : goal.returns-in_err-check_argument
unfolding table_argument_refusal next_refusal
returns-in_err-check_argument c =
    let t = lts_of c.args.self.now in
    refused_first (table_tests t true ++ (index_test c.args.state t.n ∷ [])) (index_test c.args.from (t.m + 1) ∷ []) refl _ _
    c.in_err-check_argument.ensures c.from_residual.ensures.1

pub returns : goal.returns
unfolding table_argument_refusal next_refusal
returns c =
    let t = lts_of c.args.self.now in
    refused_second (table_tests t true ++ (index_test c.args.state t.n ∷ [])) (index_test c.args.from (t.m + 1) ∷ []) refl _
    c.in_ok-check_argument.ensures c.check_index.ensures
