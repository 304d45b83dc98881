-- `is_subset_of` meets its contract.
use Rattle.std.proofs.Common.{Bool, [], ◌∷◌, refl, sym, ap, ◌∙◌}
use Rattle.columns.specs.Answers.{Refusal, done, none, said_flag}
use Rattle.columns.specs.Counting.{bit}
use Rattle.columns.proofs.Saying.{asked_refused, asked_done, numbered}
use Rattle.pairs.specs.Subset.{subset_refusal, is_subset_of}
use Rattle.pairs.proofs.Subsets.{checked_of}
use Rattle.pairs.proofs.is_subset_of.Goals as goal

pub returns-in-Err : goal.returns-in-Err
unfolding is_subset_of
returns-in-Err c =
    let a = c.args in
    ap said_flag c.refused.ensures
    ∙ asked_refused (subset_refusal a.self_labels.now a.self_blocks.now a.other_labels.now a.other_blocks.now) _ c.in-Err.ensures _
    (numbered _)

pub subset-found-requires : goal.subset-found-requires
subset-found-requires c =
    let a = c.args in
    checked_of a.self_labels.now a.self_blocks.now a.other_labels.now a.other_blocks.now
    (ap (λ (r : Refusal). r.number) (sym c.in_default.ensures))

pub returns : goal.returns
unfolding is_subset_of
returns c =
    let a = c.args in
    ap said_flag c.done.ensures
    ∙ ap (λ (b : Bool). done (bit b ∷ [])) c.subset-found.ensures
    ∙ asked_done (subset_refusal a.self_labels.now a.self_blocks.now a.other_labels.now a.other_blocks.now) none c.in_default.ensures _ refl
