use Rattle.std.proofs.Common.{arith}
use Rattle.replay_lines.proofs.Putting.{puts_none, word_turn, word_end}
use Rattle.replay_lines.proofs.output.word.Goals as goal

pub loop-letter-init : goal.loop-letter-init
loop-letter-init c = puts_none

pub loop-letter-preserved : goal.loop-letter-preserved
loop-letter-preserved c =
    word_turn c.args.word.now c.loop-letter.letter-index (c.args.used, c.args.out.now.bytes) c.loop-letter.invariant c.byte-at.ensures (omega arith)

pub returns : goal.returns
returns c = word_end c.args.word.now c.loop-letter.letter-index (c.args.used, c.args.out.now.bytes) c.loop-letter.invariant (omega arith)
