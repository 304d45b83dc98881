-- Three texts, one after the other.
use Rattle.std.proofs.Common.{[]}
use Rattle.spelling.specs.Texts.{text}
use Rattle.replay_lines.specs.Spelling.{bad_text}
use Rattle.replay_lines.proofs.Putting.{put_then, puts_none, puts_then}
use Rattle.replay_lines.proofs.lines.bad_case.Goals as goal

pub returns : goal.returns
unfolding text bad_text
returns c = puts_then _ _ _ (puts_then (text "bad") _ _ c.word-said.ensures c.number-at.ensures) (put_then 10 [] _ c.byte.ensures puts_none)
