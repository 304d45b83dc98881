-- `close_marks` meets its contract.
use Rattle.std.proofs.Common.{sym, ◌∙◌, arith}
use Rattle.table_closure.proofs.Closing.{goes_before}
use Rattle.table_closure.proofs.Listed.{down_more, down_end}
use Rattle.table_closure.proofs.cores.close_marks.Goals as goal

pub overflow_sub-it : goal.overflow_sub-it
overflow_sub-it c = omega (arith, goes_before _ _ _ (sym c.going_on.ensures ∙ c.loop-it-test.true))

pub loop-it-smaller : goal.loop-it-smaller
loop-it-smaller c = omega (arith, goes_before _ _ _ (sym c.going_on.ensures ∙ c.loop-it-test.true))

pub loop-it-preserved : goal.loop-it-preserved
loop-it-preserved c =
    let t = sym c.going_on.ensures ∙ c.loop-it-test.true in
    down_more _ _ _ _ c.requires.listed _ _ _ _ _ _ c.loop-it.invariant _ _ c.at-x.ensures.0 c.at.ensures.0
    (omega (arith, goes_before _ _ _ t)) t _ c.at-u.ensures.0 _ c.mark_into.ensures

pub returns : goal.returns
returns c =
    down_end _ _ _ _ c.requires.listed _ _ _ _ _ _ c.loop-it.invariant _ _ c.at-x.ensures.0 c.at.ensures.0
    (sym c.going_on.ensures ∙ c.loop-it-test.false)
