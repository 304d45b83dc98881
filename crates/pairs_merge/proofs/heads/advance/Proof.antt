-- `heads.advance` meets its contract.
use borrow.Author.Rules.{rules}
use native.Mathlib.Omega.{arith}
use Rattle.std.specs.Prelude.{ℕ, ◌+◌}
use mathlib.Core.Path.{sym, ap, ◌∙◌}
use Rattle.pairs_merge.specs.Merged.{wide}
use Rattle.pairs_merge.proofs.Places.{next_low, other_low, next_high, other_high}
use Rattle.pairs_merge.proofs.heads.advance.Statement.{statement}
use Rattle.pairs_merge.proofs.heads.advance.Tie as tie

at-y-requires : tie.Need-at-y-requires
at-y-requires c κs = search rules

at-x-requires : tie.Need-at-x-requires
at-x-requires c κs = search rules

overflow_add-high : tie.Need-overflow_add-high
overflow_add-high c = search rules

overflow_cast-high : tie.Need-overflow_cast-high
unfolding wide
overflow_cast-high c = omega (
  arith,
  c.at-x.ensures.0,
  c.at-y.ensures.0,
  c.requires.2,
)

offset_bounds-high-j : tie.Need-offset_bounds-high-j
offset_bounds-high-j c = search rules

bounds-high-j : tie.Need-bounds-high-j
bounds-high-j c = search rules

offset_bounds-low-j : tie.Need-offset_bounds-low-j
offset_bounds-low-j c = search rules

bounds-low-j : tie.Need-bounds-low-j
bounds-low-j c = search rules

shape_of-high-then-y-eq65535 : tie.Need-shape_of-high-then-y-eq65535
shape_of-high-then-y-eq65535 c = search rules

shape_of-low-then-y-eq65535 : tie.Need-shape_of-low-then-y-eq65535
shape_of-low-then-y-eq65535 c = search rules

returns-then-y-eq65535 : tie.Need-returns-then-y-eq65535
returns-then-y-eq65535 c = (
  next_high c.args.high.now
      c.args.low.now
      c.args.j
      c.requires.1
      c.requires.0 _
      (sym c.at-y.ensures.0 ∙ c.if-y-eq65535.true) (ap (λ (z : ℕ). z + 1) c.at-x.ensures.0),
  λ i n. other_high c.args.high.now
      c.args.low.now
      c.args.j
      c.requires.1
      c.requires.0 _ _ i n,
)

overflow_add-low : tie.Need-overflow_add-low
overflow_add-low c = search rules

overflow_cast-low : tie.Need-overflow_cast-low
overflow_cast-low c = search rules

offset_bounds-low-j-2 : tie.Need-offset_bounds-low-j-2
offset_bounds-low-j-2 c = search rules

bounds-low-j-2 : tie.Need-bounds-low-j-2
bounds-low-j-2 c = search rules

shape_of-low : tie.Need-shape_of-low
shape_of-low c = search rules

returns : tie.Need-returns
returns c = (
  next_low c.args.high.now
      c.args.low.now c.args.j
      c.requires.1 _ (ap (λ (z : ℕ). z + 1) c.at-y.ensures.0),
  λ i n. other_low c.args.high.now
      c.args.low.now c.args.j
      c.requires.1 _ i n,
)

pub advance_spec : {M : Type 1} → statement M
advance_spec =
    tie.close
    (tie.spec
    at-y-requires
    at-x-requires
    overflow_add-high
    overflow_cast-high
    offset_bounds-high-j
    bounds-high-j
    offset_bounds-low-j
    bounds-low-j
    shape_of-high-then-y-eq65535
    shape_of-low-then-y-eq65535
    returns-then-y-eq65535
    overflow_add-low
    overflow_cast-low
    offset_bounds-low-j-2
    bounds-low-j-2
    shape_of-low
    returns)
