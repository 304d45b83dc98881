-- `above_ok` meets its contract.
use Rattle.std.proofs.Common.{◌∙◌}
use Rattle.table.proofs.Refusals.{above_first, above_next}
use Rattle.table.proofs.Lts.above_ok.Goals as goal

pub returns-then-i-eq0 : goal.returns-then-i-eq0
returns-then-i-eq0 c = above_first _ _ _ c.args.i c.if-i-eq0.true

pub returns : goal.returns
returns c = c.comes_before.ensures ∙ above_next _ _ _ c.args.i c.if-i-eq0.false c.requires.0 c.requires.1 c.requires.2
