-- `find_bottom` meets its contract.
use Rattle.std.proofs.Common.{refl, arith}
use Rattle.quotient_block.proofs.Walks.{walk_start, walk_more, walk_found, walk_lost}
use Rattle.quotient_block.proofs.cores.find_bottom.Goals as goal

pub loop-init : goal.loop-init
loop-init c = walk_start _ _ _ c.requires.2

pub returns-in_default : goal.returns-in_default
returns-in_default c =
    let w = c.loop.invariant in
    record { value = walk_found _ _ _ _ _ w _ c.in_default.ensures.value (omega arith) refl; state = w.state }

pub at-u-requires : goal.at-u-requires
at-u-requires c = omega (arith, c.in-Some.ensures.row, c.requires.0.long.target)

pub loop-preserved : goal.loop-preserved
loop-preserved c =
    walk_more _ _ _ _ _ c.loop.invariant _ c.in-Some.ensures.value c.requires.0 (omega arith) c.in-Some.ensures.row _ c.at-u.ensures.0

pub returns-in-Some-clause-value : goal.returns-in-Some-clause-value
returns-in-Some-clause-value c =
    let v = c.requires.0 in
    let e = c.in-Some.ensures in
    walk_lost _ _ _ _ _ (walk_more _ _ _ _ _ c.loop.invariant _ e.value v (omega arith) e.row _ c.at-u.ensures.0) (omega arith)
