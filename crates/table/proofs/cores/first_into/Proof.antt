-- `cores.first_into` meets its contract.
use native.Mathlib.Omega.{arith}
use Rattle.std.specs.Prelude.{ℕ, ◌+◌, ◌-◌, ◌/◌, ◌<◌, ◌≤◌, get_or}
use mathlib.Core.Path.{ap}
use Rattle.table.specs.Stretch.{listed_target}
use Rattle.table.proofs.RowsInto.{first_into_is}
use Rattle.table.proofs.cores.first_into.Statement.{statement}
use Rattle.table.proofs.cores.first_into.Tie as tie

abbrev invariant-loop-low : tie.invariant-loop-low
invariant-loop-low target order h u low₀ high₀ low high =
    ((low ≤ high) × (high ≤ h)) × (((j : ℕ) → j < low → listed_target target order j < u) ×
    ((j : ℕ) → high ≤ j → j < h → u ≤ listed_target target order j))

abbrev decreases-loop-low : tie.decreases-loop-low
decreases-loop-low target order h u low₀ high₀ low high = high - low

-- the position in the middle
abbrev middle : ℕ → ℕ → ℕ
middle low high = low + (high - low) / 2

loop-low-init : tie.Need-loop-low-init invariant-loop-low decreases-loop-low
loop-low-init c = ((omega arith, omega arith), ((λ i h. absurd (omega (arith, h))), (λ i h l. absurd (omega (arith, h, l)))))

overflow_sub-mid : tie.Need-overflow_sub-mid invariant-loop-low decreases-loop-low
overflow_sub-mid c = omega arith

overflow_add-mid : tie.Need-overflow_add-mid invariant-loop-low decreases-loop-low
overflow_add-mid c = omega arith

at-i-requires : tie.Need-at-i-requires invariant-loop-low decreases-loop-low
at-i-requires c κs = omega (arith, c.requires.room)

at-requires : tie.Need-at-requires invariant-loop-low decreases-loop-low
at-requires c κs = omega (
  arith,
  c.at-i.ensures.0,
  c.requires.row (middle c.loop-low.low c.loop-low.high)
      (omega arith),
)

overflow_add-low : tie.Need-overflow_add-low invariant-loop-low decreases-loop-low
overflow_add-low c = omega arith

loop-low-smaller-then-at-u : tie.Need-loop-low-smaller-then-at-u invariant-loop-low decreases-loop-low
loop-low-smaller-then-at-u c = omega arith

loop-low-preserved-then-at-u : tie.Need-loop-low-preserved-then-at-u invariant-loop-low decreases-loop-low
loop-low-preserved-then-at-u c = let a = c in (
  (omega arith, omega arith),
  (
    (λ i h. omega (
      arith,
      h,
      c.at.ensures.0,
      ap (λ (x : ℕ). get_or a.args.target.now x 0) c.at-i.ensures.0,
      c.if-at-u.true,
      a.requires.rising i (middle c.loop-low.low c.loop-low.high) (omega arith)
          (omega arith),
    )),
    c.loop-low.invariant.1.1,
  ),
)

loop-low-smaller : tie.Need-loop-low-smaller invariant-loop-low decreases-loop-low
loop-low-smaller c = omega arith

loop-low-preserved : tie.Need-loop-low-preserved invariant-loop-low decreases-loop-low
loop-low-preserved c = let a = c in (
  (omega arith, omega arith),
  (
    c.loop-low.invariant.1.0,
    (λ i h l. omega (
      arith,
      h,
      c.at.ensures.0,
      ap (λ (x : ℕ). get_or a.args.target.now x 0) c.at-i.ensures.0,
      c.if-at-u.false,
      a.requires.rising (middle c.loop-low.low c.loop-low.high) i h l,
    )),
  ),
)

returns : tie.Need-returns invariant-loop-low decreases-loop-low
returns c = let a = c in
    first_into_is a.args.target.now a.args.order.now a.args.h a.args.u c.loop-low.low (omega arith)
    c.loop-low.invariant.1.0 (λ i h l. c.loop-low.invariant.1.1 i (omega arith) l)

pub first_into_spec : {M : Type 1} → statement M
first_into_spec =
    tie.close
    (tie.spec
    invariant-loop-low
    decreases-loop-low
    loop-low-init
    overflow_sub-mid
    overflow_add-mid
    at-i-requires
    at-requires
    overflow_add-low
    loop-low-smaller-then-at-u
    loop-low-preserved-then-at-u
    loop-low-smaller
    loop-low-preserved
    returns)
