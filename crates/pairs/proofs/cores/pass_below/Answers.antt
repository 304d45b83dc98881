-- `pass_below` meets its contract.
use Rattle.std.proofs.Common.{rules, ◌∙◌, arith}
use Rattle.columns.specs.Rows.{pair_at}
use Rattle.pairs.specs.Subset.{not_below}
use Rattle.pairs.proofs.Found.{found_from}
use Rattle.pairs.proofs.Walking.{stays, stays-before, stays_here}
use Rattle.pairs.proofs.cores.pass_below.Goals as goal

pub returns : goal.returns
unfolding not_below pair_at
returns c =
    let a = c.args in
    c.unwrap_or.ensures
    ∙ found_from a.i a.n (stays (pair_at a.labels.now a.blocks.now) a.i (a.label, a.block)) (omega arith)
    (λ k l. stays-before (pair_at a.labels.now a.blocks.now) a.i (a.label, a.block) k l) _ _ c.find.ensures.ran
    (λ x b q k. search (rules, stays_here))
