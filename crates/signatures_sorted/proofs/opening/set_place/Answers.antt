-- `set_place` meets its contract.
use Rattle.std.proofs.Common.{◌≡◌, ℕ, ◌/◌, ◌%◌, ◌<◌, List, length, slice_set, arith}
use native.Mathlib.Nat.{div-add-mod'}
use lib.Seq.{get_or-set_same}
use Rattle.pairs_merge.specs.Merged.{wide}
use Rattle.pairs_merge.proofs.Places.{other_high}
use Rattle.signatures_sorted.proofs.opening.set_place.Goals as goal

place-stored :
    (high low : List ℕ) (j place : ℕ) → j < length high → j < length low →
    wide (slice_set high j (place / 65536)) (slice_set low j (place % 65536)) j ≡ place
unfolding wide
place-stored high low j place h l =
    omega (arith, get_or-set_same high j (place / 65536) 0 h, get_or-set_same low j (place % 65536) 0 l, div-add-mod' place 65536)

pub returns : goal.returns
returns c =
    let a = c.args in (
      place-stored a.high.now a.low.now a.j a.place c.requires.0 c.requires.1,
      λ i n. other_high a.high.now a.low.now a.j c.requires.1 c.requires.0 _ _ i n,
    )
