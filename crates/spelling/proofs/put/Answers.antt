use Rattle.spelling.proofs.Putting.{put_part}
use Rattle.spelling.proofs.put.Goals as goal

pub returns : goal.returns
returns c = put_part _ _ _ _ c.requires c.copy_from_slice.ensures.after
