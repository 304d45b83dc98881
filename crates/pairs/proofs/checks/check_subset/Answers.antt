-- `check_subset` meets its contract.
use Rattle.std.proofs.Common.{refl, [], ◌∷◌}
use Rattle.columns.proofs.Chains.{refused_first, refused_second}
use Rattle.pairs.specs.Pairs.{list_test}
use Rattle.pairs.specs.Subset.{subset_refusal}
use Rattle.pairs.proofs.checks.check_subset.Goals as goal

pub returns-in_err-check_list : goal.returns-in_err-check_list
unfolding subset_refusal
returns-in_err-check_list c =
    let a = c.args in
    refused_first (list_test a.self_labels.now a.self_blocks.now ∷ []) (list_test a.other_labels.now a.other_blocks.now ∷ []) refl _ _
    c.in_err-check_list.ensures c.from_residual.ensures.1

pub returns : goal.returns
unfolding subset_refusal
returns c =
    let a = c.args in
    refused_second (list_test a.self_labels.now a.self_blocks.now ∷ []) (list_test a.other_labels.now a.other_blocks.now ∷ []) refl _
    c.in_ok-check_list.ensures c.check_list-2.ensures
