use Rattle.std.proofs.Common.{refl}
use Rattle.replay_lines.specs.Told.{told_by}
use Rattle.replay_lines.proofs.answers.done_or.Goals as goal

pub returns : goal.returns
unfolding told_by
returns g c = refl
