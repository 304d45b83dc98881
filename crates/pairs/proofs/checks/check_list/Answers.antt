-- `check_list` meets its contract.
use Rattle.std.proofs.Common.{ℕ, leb, [], ◌∷◌, length, ap, ◌∙◌, arith}
use Rattle.columns.specs.Due.{test, due}
use Rattle.columns.specs.Limits.{wrong_list}
use Rattle.pairs.specs.Pairs.{bad_pair, least_test}
use Rattle.pairs.proofs.Refusals.{shorter-left, shorter_right}
use Rattle.pairs.proofs.checks.check_list.Goals as goal

pub first_bad-bad-requires : goal.first_bad-bad-requires
first_bad-bad-requires c =
    let l = shorter-left (length c.args.labels.now) (length c.args.blocks.now) in
    let r = shorter_right (length c.args.labels.now) (length c.args.blocks.now) in
    (omega arith, omega (arith, l), omega (arith, r))

pub returns : goal.returns
returns c =
    let a = c.args in
    c.refuse_unless.ensures
    ∙ ap (λ (i : ℕ). due (test (leb c.shorter-end.result i) wrong_list i ∷ [])) c.first_bad-bad.ensures
    ∙ ap (λ (n : ℕ). due (least_test n (bad_pair a.labels.now a.blocks.now 0) ∷ [])) c.shorter-end.ensures
