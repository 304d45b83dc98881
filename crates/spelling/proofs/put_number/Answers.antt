use Rattle.spelling.proofs.Putting.{put_as}
use Rattle.spelling.proofs.put_number.Goals as goal

pub returns-clause-put : goal.returns-clause-put
returns-clause-put c = put_as c.put.ensures c.decimal-count.ensures.text_value
