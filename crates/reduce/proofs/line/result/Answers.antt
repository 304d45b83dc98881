-- One text behind the other.
use Rattle.spelling.proofs.Putting.{put_then}
use Rattle.reduce.specs.Line.{result_text}
use Rattle.reduce.proofs.line.result.Goals as goal

pub returns : goal.returns
unfolding result_text
returns c = put_then (put_then c.put_count-a.ensures.put c.put_count-b.ensures.put) c.put_count.ensures.put
