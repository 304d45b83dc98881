-- One text behind the other.
use Rattle.spelling.proofs.Putting.{put_then}
use Rattle.reduce.specs.Line.{line_text}
use Rattle.reduce.proofs.line.reduced.Goals as goal

pub returns : goal.returns
unfolding line_text
returns c = put_then c.source-at.ensures.put c.result.ensures
