-- No cell, one cell, equal cells and ascending ones.
use Rattle.std.proofs.Common.{[]}
use Rattle.replay_lines.proofs.Putting.{puts_as, puts_then, puts_none}
use Rattle.replay_lines.proofs.Showing.{text_none, text_one, text_equal, text_ascending}
use Rattle.replay_lines.proofs.slices.show_run.Goals as goal

pub returns-then-run-eq0 : goal.returns-then-run-eq0
returns-then-run-eq0 c = puts_as [] _ _ puts_none (text_none _ c.if-run-eq0.true)

pub returns-then-run-eq1 : goal.returns-then-run-eq1
returns-then-run-eq1 c = puts_as _ _ _ c.number-at.ensures (text_one _ c.if-run-eq1.true)

pub returns-then-run-eq0-2 : goal.returns-then-run-eq0-2
returns-then-run-eq0-2 c = puts_as _ _ _ (puts_then _ _ _ c.number-at.ensures c.marked.ensures)
    (text_equal _ c.if-run-eq0.false c.if-run-eq1.false c.if-run-eq0-2.true)

pub returns : goal.returns
returns c = puts_as _ _ _ (puts_then _ _ _ c.number-at.ensures c.marked-2.ensures)
    (text_ascending _ c.if-run-eq0.false c.if-run-eq1.false c.if-run-eq0-2.false)
