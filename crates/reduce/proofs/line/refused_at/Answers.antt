-- One text behind the other.
use Rattle.spelling.proofs.Putting.{put_then}
use Rattle.reduce.specs.Line.{place_text}
use Rattle.reduce.proofs.line.refused_at.Goals as goal

pub returns-clause-put : goal.returns-clause-put
unfolding place_text
returns-clause-put c = put_then (put_then c.put-a.ensures c.put_count-b.ensures.put) c.put_count.ensures.put
