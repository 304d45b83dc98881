-- One text behind the other.
use Rattle.std.proofs.Common.{ap}
use Rattle.spelling.proofs.Putting.{put_then, put_as}
use Rattle.reduce.specs.Line.{meaning, place_text, refused_text}
use Rattle.reduce.proofs.line.refused.Goals as goal

pub returns : goal.returns
unfolding refused_text
returns g c =
    let at = put_as c.refused_at-at.ensures.put (λ i. place_text (c.number.ensures i) (c.place.ensures i)) in
    let end = put_as c.meaning-end.ensures.put (ap meaning c.number-2.ensures) in
    put_then (put_then at end) c.put.ensures
