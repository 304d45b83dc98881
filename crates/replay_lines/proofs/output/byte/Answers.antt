-- Each arm is one of the two ways of `put_byte`.
use Rattle.std.proofs.Common.{ℕ, List, ap, set, ◌∙◌, arith}
use Rattle.replay_lines.proofs.Putting.{put_room, put_full}
use Rattle.replay_lines.proofs.output.byte.Goals as goal

pub returns-then-used-lt65536 : goal.returns-then-used-lt65536
returns-then-used-lt65536 c = put_room _ _ _ (omega arith)

pub returns : goal.returns
returns c = ap (λ (l : List ℕ). (1, set l 0 c.args.byte)) c.flush.ensures ∙ put_full _ _ _ (omega arith)
