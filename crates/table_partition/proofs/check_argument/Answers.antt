-- `check_argument` meets its contract.
use Rattle.std.proofs.Common.{refl, [], ◌∷◌}
use Rattle.columns.specs.Due.{index_test}
use Rattle.columns.proofs.Chains.{refused_first, refused_second}
use Rattle.partition.specs.Partition.{parts_of}
use Rattle.table.specs.Lts.{lts_of}
use Rattle.table_partition.specs.Checks.{both_tests, both_argument_refusal}
use Rattle.table_partition.proofs.check_argument.Goals as goal

pub returns-in_err-check : goal.returns-in_err-check
unfolding both_argument_refusal
returns-in_err-check c =
    let t = lts_of c.args.system.now in
    let p = parts_of c.args.columns.now t.n c.args.count in
    refused_first (both_tests t p c.args.room) (index_test c.args.i c.args.bound ∷ []) refl _ _ c.in_err-check.ensures c.from_residual.ensures.1

pub returns : goal.returns
unfolding both_argument_refusal
returns c =
    let t = lts_of c.args.system.now in
    let p = parts_of c.args.columns.now t.n c.args.count in
    refused_second (both_tests t p c.args.room) (index_test c.args.i c.args.bound ∷ []) refl _ c.in_ok-check.ensures c.check_index.ensures
