-- `check_argument` meets its contract.
use Rattle.std.proofs.Common.{refl, [], ◌∷◌}
use Rattle.columns.specs.Due.{index_test}
use Rattle.columns.proofs.Chains.{refused_first, refused_second}
use Rattle.table.specs.Checks.{table_tests, table_argument_refusal}
use Rattle.table.specs.Lts.{lts_of}
use Rattle.table.proofs.Lts.check_argument.Goals as goal

pub returns-in_err-check : goal.returns-in_err-check
unfolding table_argument_refusal
returns-in_err-check c =
    let k = index_test c.args.i c.args.bound ∷ [] in
    refused_first (table_tests (lts_of c.args.self.now) c.args.room) k refl _ _ c.in_err-check.ensures c.from_residual.ensures.1

pub returns : goal.returns
unfolding table_argument_refusal
returns c =
    let k = index_test c.args.i c.args.bound ∷ [] in
    refused_second (table_tests (lts_of c.args.self.now) c.args.room) k refl _ c.in_ok-check.ensures c.check_index.ensures
