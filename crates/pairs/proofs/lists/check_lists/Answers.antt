-- `check_lists` meets its contract.
use Rattle.std.proofs.Common.{refl, [], ◌∷◌, ◌∙◌}
use Rattle.columns.proofs.Chains.{refused_first, refused_second}
use Rattle.pairs.specs.Lists.{lists_refusal}
use Rattle.pairs.proofs.Listing.{starts_test, pairs_test, starts_asked, starts_found, pairs_asked}
use Rattle.pairs.proofs.lists.check_lists.Goals as goal

pub returns-in_err-refuse_unless : goal.returns-in_err-refuse_unless
unfolding lists_refusal
returns-in_err-refuse_unless c =
    let a = c.args in
    let f = starts_test a.starts.now a.n a.labels.now a.blocks.now ∷ [] in
    let g = pairs_test a.starts.now a.n a.labels.now a.blocks.now ∷ [] in
    let e = starts_asked a.starts.now a.n a.labels.now a.blocks.now _ _ c.shorter-end.ensures c.first_bad_start-bad.ensures in
    refused_first f g refl _ _ (c.in_err-refuse_unless.ensures ∙ e) c.from_residual.ensures.1

pub first_bad_in-bad-requires-clause-starts : goal.first_bad_in-bad-requires-clause-starts
first_bad_in-bad-requires-clause-starts c =
    let a = c.args in
    starts_found a.starts.now a.n a.labels.now a.blocks.now _ _ c.shorter-end.ensures c.first_bad_start-bad.ensures
    c.in_ok-refuse_unless.ensures

pub returns : goal.returns
unfolding lists_refusal
returns c =
    let a = c.args in
    let f = starts_test a.starts.now a.n a.labels.now a.blocks.now ∷ [] in
    let g = pairs_test a.starts.now a.n a.labels.now a.blocks.now ∷ [] in
    let e = starts_asked a.starts.now a.n a.labels.now a.blocks.now _ _ c.shorter-end.ensures c.first_bad_start-bad.ensures in
    let d = pairs_asked a.starts.now a.n a.labels.now a.blocks.now _ _ c.shorter-end.ensures c.first_bad_start-bad.ensures _
    c.first_bad_in-bad.ensures in
    refused_second f g refl _ (c.in_ok-refuse_unless.ensures ∙ e) (c.refuse_unless-2.ensures ∙ d)
