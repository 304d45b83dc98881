-- `check_argument` meets its contract.
use Rattle.std.proofs.Common.{refl, ap, ◌∙◌, [], ◌∷◌}
use Rattle.columns.specs.Answers.{checked}
use Rattle.columns.specs.Due.{index_test}
use Rattle.columns.proofs.Chains.{both_checked}
use Rattle.partition.specs.Checks.{partition_tests, argument_refusal}
use Rattle.partition.specs.Partition.{parts_of}
use Rattle.partition.proofs.PartitionColumns.check_argument.Goals as goal

pub returns : goal.returns
unfolding argument_refusal
returns c =
    let p = parts_of c.args.self.now c.args.n c.args.count in
    ap checked c.and.ensures
    ∙ both_checked (partition_tests p c.args.room) (index_test c.args.i c.args.bound ∷ []) refl _ _ c.check.ensures c.check_index.ensures
