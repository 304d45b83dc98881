-- `check_sorted` meets its contract.
use Rattle.std.proofs.Common.{refl, [], ◌∷◌, ◌++◌}
use Rattle.columns.specs.Answers.{none}
use Rattle.columns.specs.Due.{index_test}
use Rattle.columns.proofs.Chains.{refused_first, refused_second}
use Rattle.pairs.specs.Lists.{lists_refusal}
use Rattle.partition.specs.Partition.{parts_of}
use Rattle.table.specs.Lts.{lts_of}
use Rattle.table_partition.specs.Checks.{both_tests, both_argument_refusal}
use Rattle.table_partition.proofs.Refusals.{both_ready}
use Rattle.signatures_sorted.specs.Sorted.{flat, sorted_refusal}
use Rattle.signatures_sorted.proofs.Refused.{tested}
use Rattle.signatures_sorted.proofs.checks.check_sorted.Goals as goal

pub returns-in_err-check_argument : goal.returns-in_err-check_argument
unfolding sorted_refusal both_argument_refusal
returns-in_err-check_argument c =
    let a = c.args in
    let t = lts_of a.system.now in
    let front = both_tests t (parts_of a.columns.now t.n a.count) a.room ++ (index_test a.state t.n ∷ []) in
    let lists = tested t (flat a.starts.now a.given_labels.now a.given_blocks.now) in
    refused_first front lists refl _ _ c.in_err-check_argument.ensures c.from_residual.ensures.1

pub check_lists-requires : goal.check_lists-requires
check_lists-requires c =
    let a = c.args in
    let t = lts_of a.system.now in
    let r = both_ready t (parts_of a.columns.now t.n a.count) refl a.state t.n a.room none c.in_ok-check_argument.ensures refl in
    (c.requires r.enough, r.valid.few_states)

pub returns : goal.returns
unfolding sorted_refusal both_argument_refusal lists_refusal
returns c =
    let a = c.args in
    let t = lts_of a.system.now in
    let front = both_tests t (parts_of a.columns.now t.n a.count) a.room ++ (index_test a.state t.n ∷ []) in
    let lists = tested t (flat a.starts.now a.given_labels.now a.given_blocks.now) in
    refused_second front lists refl _ c.in_ok-check_argument.ensures c.check_lists.ensures
