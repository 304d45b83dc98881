-- `check_blocks` meets its contract.
use Rattle.std.proofs.Common.{refl, ap, ◌∙◌, true, [], ◌∷◌, ◌++◌}
use Rattle.columns.specs.Answers.{checked}
use Rattle.columns.specs.Due.{index_test}
use Rattle.columns.proofs.Chains.{both_checked}
use Rattle.partition.specs.Checks.{partition_tests, blocks_refusal}
use Rattle.partition.specs.Partition.{parts_of}
use Rattle.partition.proofs.PartitionColumns.check_blocks.Goals as goal

pub returns : goal.returns
unfolding blocks_refusal
returns c =
    let p = parts_of c.args.self.now c.args.n c.args.count in
    let l = index_test c.args.l c.args.count ∷ [] in
    let r = index_test c.args.r c.args.count ∷ [] in
    ap checked c.and-2.ensures
    ∙ both_checked (partition_tests p true ++ l) r refl _ _
    (ap checked c.and.ensures ∙ both_checked (partition_tests p true) l refl _ _ c.check.ensures c.check_index.ensures)
    c.check_index-2.ensures
