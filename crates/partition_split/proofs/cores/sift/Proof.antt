-- `cores.sift` meets its contract. The loop: what is left, sifted, gives what the whole gives.
use mathlib.Core.Path.{refl, sym, ap, ◌∙◌}
use native.Mathlib.Omega.{arith}
use Rattle.std.specs.Prelude.{◌-◌}
use Rattle.partition_split.specs.Split.{chosen, sifted}
use Rattle.partition_split.proofs.Sifting.{Sifting, sifting-start, sifting_pass, sifting-take, sifting_end, is-chosen, not_chosen}
use Rattle.partition_split.proofs.cores.sift.Statement.{statement}
use Rattle.partition_split.proofs.cores.sift.Tie as tie

abbrev invariant-loop-i : tie.invariant-loop-i
invariant-loop-i elements₀ element-offset₀ choice from to i₀ e₀ elements element_offset i e =
    Sifting choice to (sifted (to - from) choice elements₀ element-offset₀ from) elements₀ element-offset₀ elements element_offset i e

abbrev decreases-loop-i : tie.decreases-loop-i
decreases-loop-i elements₀ element-offset₀ choice from to i₀ e₀ elements element_offset i e = e - i

loop-i-init : tie.Need-loop-i-init invariant-loop-i decreases-loop-i
loop-i-init c = let a = c in sifting-start _ _ _ _ _ a.requires.0.0 a.requires.1

at-s-requires : tie.Need-at-s-requires invariant-loop-i decreases-loop-i
at-s-requires c κs = omega arith

bounds-choice-s : tie.Need-bounds-choice-s invariant-loop-i decreases-loop-i
bounds-choice-s c = omega (
  arith,
  c.at-s.ensures.0,
  c.loop-i.invariant.known c.loop-i.i (omega arith),
)

overflow_sub-e : tie.Need-overflow_sub-e invariant-loop-i decreases-loop-i
overflow_sub-e c = omega arith

swap_elements-requires : tie.Need-swap_elements-requires invariant-loop-i decreases-loop-i
swap_elements-requires c κs = let i = c.loop-i.invariant in
    let x = i.known c.loop-i.i (omega arith) in
    let y = i.known (c.loop-i.e - 1) (omega arith) in
    omega arith

loop-i-smaller-then-choice-s-ne0 : tie.Need-loop-i-smaller-then-choice-s-ne0 invariant-loop-i decreases-loop-i
loop-i-smaller-then-choice-s-ne0 c = omega arith

loop-i-preserved-then-choice-s-ne0 : tie.Need-loop-i-preserved-then-choice-s-ne0 invariant-loop-i decreases-loop-i
loop-i-preserved-then-choice-s-ne0 c = let a = c in
    sifting-take _ _ _ _ _ _ _ _ _
    c.loop-i.invariant _ _
    c.swap_elements.ensures.0 c.swap_elements.ensures.1
    c.loop-i-test.true a.requires.0.1
    (ap (chosen a.args.choice.now) (sym c.at-s.ensures.0) ∙
    is-chosen _ _ _ refl c.if-choice-s-ne0.true)

overflow_add-i : tie.Need-overflow_add-i invariant-loop-i decreases-loop-i
overflow_add-i c = omega arith

loop-i-smaller : tie.Need-loop-i-smaller invariant-loop-i decreases-loop-i
loop-i-smaller c = omega arith

loop-i-preserved : tie.Need-loop-i-preserved invariant-loop-i decreases-loop-i
loop-i-preserved c = let a = c in
    sifting_pass _ _ _ _ _ _ _ _ _ c.loop-i.invariant
    c.loop-i-test.true
    (ap (chosen a.args.choice.now) (sym c.at-s.ensures.0) ∙ not_chosen _ _ _ refl c.if-choice-s-ne0.false)

shape_of-elements : tie.Need-shape_of-elements invariant-loop-i decreases-loop-i
shape_of-elements c = c.loop-i.invariant.long

shape_of-element_offset : tie.Need-shape_of-element_offset invariant-loop-i decreases-loop-i
shape_of-element_offset c = c.loop-i.invariant.long_offset

returns : tie.Need-returns invariant-loop-i decreases-loop-i
returns c = sifting_end _ _ _ _ _ _ _ _ _ c.loop-i.invariant c.loop-i-test.false

pub sift_spec : {M : Type 1} → statement M
sift_spec =
    tie.close
    (tie.spec
    invariant-loop-i
    decreases-loop-i
    loop-i-init
    at-s-requires
    bounds-choice-s
    overflow_sub-e
    swap_elements-requires
    loop-i-smaller-then-choice-s-ne0
    loop-i-preserved-then-choice-s-ne0
    overflow_add-i
    loop-i-smaller
    loop-i-preserved
    shape_of-elements
    shape_of-element_offset
    returns)
