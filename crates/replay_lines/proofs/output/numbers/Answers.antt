use Rattle.std.proofs.Common.{arith}
use Rattle.replay_lines.proofs.Putting.{listed-none, listed_turn, listed_end}
use Rattle.replay_lines.proofs.output.numbers.Goals as goal

pub loop-value-init : goal.loop-value-init
loop-value-init c = listed-none

pub loop-value-preserved : goal.loop-value-preserved
loop-value-preserved c =
    listed_turn c.args.numbers.now c.loop-value.value-index (c.args.used, c.args.out.now.bytes) c.loop-value.invariant c.number-at.ensures (omega arith)

pub returns : goal.returns
returns c = listed_end c.args.numbers.now c.loop-value.value-index (c.args.used, c.args.out.now.bytes) c.loop-value.invariant (omega arith)
