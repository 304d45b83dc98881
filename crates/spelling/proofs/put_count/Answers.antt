use Rattle.spelling.proofs.Putting.{put_then}
use Rattle.spelling.proofs.put_count.Goals as goal

pub returns-clause-put : goal.returns-clause-put
returns-clause-put c = put_then c.put_number-behind.ensures.put c.put.ensures
