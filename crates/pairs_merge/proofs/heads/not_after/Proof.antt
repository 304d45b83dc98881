-- `heads.not_after` meets its contract.
use borrow.Author.Rules.{rules}
use native.Mathlib.Omega.{arith}
use Rattle.std.specs.Prelude.{ℕ, not}
use mathlib.Core.Path.{sym, ap, ap₂, ◌∙◌}
use Rattle.columns.specs.Sets.{pair_lt}
use Rattle.columns.specs.Rows.{pair_at}
use Rattle.pairs_merge.specs.Merged.{Heads, heads, head_place, end_at, head_of}
use Rattle.pairs_merge.proofs.Ranks.{way_end, way_none, way_last}
use Rattle.pairs_merge.proofs.heads.not_after.Statement.{statement}
use Rattle.pairs_merge.proofs.heads.not_after.Tie as tie

-- the heads that are lent
abbrev D : tie.Start → Heads
D a = heads a.args.labels.now a.args.blocks.now a.args.high.now a.args.low.now a.args.end_high.now
    a.args.end_low.now

place-y-requires : tie.Need-place-y-requires
place-y-requires c κs = search rules

place-requires : tie.Need-place-requires
place-requires c κs = search rules

returns-then-place-y : tie.Need-returns-then-place-y
unfolding head_place end_at
returns-then-place-y c = sym (way_end (D c.before.before.before.before.before.before.before.before.before)
    c.args.a
    c.args.b
    (omega (arith, c.place-y.ensures.0, c.place.ensures.0)))

place-x-requires : tie.Need-place-x-requires
place-x-requires c κs = search rules

place-requires-2 : tie.Need-place-requires-2
place-requires-2 c κs = search rules

returns-then-place-x : tie.Need-returns-then-place-x
unfolding head_place end_at
returns-then-place-x c = way_none (D c.before.before.before.before.before.before.before.before.before.before.before.before)
    c.args.a
    c.args.b
    (omega (arith, c.place-y.ensures.0, c.place.ensures.0))
    (omega (arith, c.place-x.ensures.0, c.place-2.ensures.0))

offset_bounds-labels-y : tie.Need-offset_bounds-labels-y
offset_bounds-labels-y c = search rules

bounds-labels-y : tie.Need-bounds-labels-y
unfolding end_at
bounds-labels-y c = omega (
  arith,
  c.place.ensures.0,
  c.requires.1.labels,
)

offset_bounds-blocks-y : tie.Need-offset_bounds-blocks-y
offset_bounds-blocks-y c = search rules

bounds-blocks-y : tie.Need-bounds-blocks-y
unfolding end_at
bounds-blocks-y c = omega (
  arith,
  c.place.ensures.0,
  c.requires.1.blocks,
)

offset_bounds-labels-x : tie.Need-offset_bounds-labels-x
offset_bounds-labels-x c = search rules

bounds-labels-x : tie.Need-bounds-labels-x
unfolding end_at
bounds-labels-x c = omega (
  arith,
  c.place-2.ensures.0,
  c.requires.0.labels,
)

offset_bounds-blocks-x : tie.Need-offset_bounds-blocks-x
offset_bounds-blocks-x c = search rules

bounds-blocks-x : tie.Need-bounds-blocks-x
unfolding end_at
bounds-blocks-x c = omega (
  arith,
  c.place-2.ensures.0,
  c.requires.0.blocks,
)

below-requires : tie.Need-below-requires
below-requires c κs = search rules

returns : tie.Need-returns
unfolding head_place end_at head_of pair_at
returns c = ap not c.below.ensures
    ∙ (ap₂ (λ (y x : ℕ). not
    (pair_lt (pair_at
    c.args.labels.now
    c.args.blocks.now y)
    (pair_at c.args.labels.now
    c.args.blocks.now x)))
    c.place-y.ensures.0
    c.place-x.ensures.0
    ∙ way_last
    (D c.before.before.before.before.before.before.before.before.before.before.before.before.before.before.before.before.before)
    c.args.a
    c.args.b
    (omega (
      arith,
      c.place-y.ensures.0,
      c.place.ensures.0,
    ))
    (omega (
      arith,
      c.place-x.ensures.0,
      c.place-2.ensures.0,
    )))

pub not_after_spec : {M : Type 1} → statement M
not_after_spec =
    tie.close
    (tie.spec
    place-y-requires
    place-requires
    returns-then-place-y
    place-x-requires
    place-requires-2
    returns-then-place-x
    offset_bounds-labels-y
    bounds-labels-y
    offset_bounds-blocks-y
    bounds-blocks-y
    offset_bounds-labels-x
    bounds-labels-x
    offset_bounds-blocks-x
    bounds-blocks-x
    below-requires
    returns)
