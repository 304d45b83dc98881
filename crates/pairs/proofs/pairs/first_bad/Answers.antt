-- `first_bad` meets its contract.
use Rattle.std.proofs.Common.{rules, ◌∙◌, arith}
use Rattle.pairs.specs.Pairs.{bad_pair}
use Rattle.pairs.proofs.Found.{found_from}
use Rattle.pairs.proofs.Refusals.{pair_before}
use Rattle.pairs.proofs.pairs.first_bad.Goals as goal

pub returns : goal.returns
returns c =
    let a = c.args in
    c.unwrap_or.ensures
    ∙ found_from a.from a.to (bad_pair a.labels.now a.blocks.now a.from) (omega arith) (λ k h. pair_before _ _ _ k (omega arith)) _ _
    c.find.ensures.ran (λ x b q k. search rules)
