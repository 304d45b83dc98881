-- `cores.mark_element` meets its contract.
use borrow.Author.Rules.{rules}
use native.Mathlib.Omega.{arith}
use Rattle.partition.proofs.Marks.{mark-reads, mark-moves, mark_keeps}
use Rattle.partition.specs.Mark.{Marks, marks}
use Rattle.partition.proofs.cores.mark_element.Statement.{statement}
use Rattle.partition.proofs.cores.mark_element.Tie as tie

-- the columns that are lent
abbrev C : tie.Start → Marks
C a = marks a.args.elements.now a.args.element_offset.now a.args.marked_split.now

at-b-requires : tie.Need-at-b-requires
at-b-requires c κs = search rules

at-o-requires : tie.Need-at-o-requires
at-o-requires c κs = search rules

at-m-requires : tie.Need-at-m-requires
at-m-requires c κs = let a = c in
    omega (arith, a.requires.block, c.at-b.ensures.0)

overflow_sub-m : tie.Need-overflow_sub-m
overflow_sub-m c = search rules

swap_elements-requires : tie.Need-swap_elements-requires
swap_elements-requires c κs = let a = c.before.before.before.before.before.before.before.before.before.before in
    mark-reads _ (C a) _ _ _ _ c.at-b.ensures.0
    c.at-o.ensures.0 c.at-m.ensures.0 a.requires
    c.if-o-m.true
    c.at-o.ensures.1 c.at-m.ensures.1

overflow_sub-marked_split : tie.Need-overflow_sub-marked_split
overflow_sub-marked_split c = search rules

overflow_cast-marked_split : tie.Need-overflow_cast-marked_split
overflow_cast-marked_split c = search rules

offset_bounds-marked_split-b : tie.Need-offset_bounds-marked_split-b
offset_bounds-marked_split-b c = search rules

bounds-marked_split-b : tie.Need-bounds-marked_split-b
bounds-marked_split-b c = let a = c in
    omega (
      arith,
      a.requires.block,
      c.at-b.ensures.0,
    )

shape_of-elements : tie.Need-shape_of-elements
shape_of-elements c = search rules

shape_of-element_offset-then-o-m : tie.Need-shape_of-element_offset-then-o-m
shape_of-element_offset-then-o-m c = search rules

shape_of-marked_split-then-o-m : tie.Need-shape_of-marked_split-then-o-m
shape_of-marked_split-then-o-m c = search rules

returns-then-o-m : tie.Need-returns-then-o-m
returns-then-o-m c =
    mark-moves _
    (C c.before.before.before.before.before.before.before.before.before.before.before.before.before.before.before) _ _ _ _
    c.at-b.ensures.0
    c.at-o.ensures.0
    c.at-m.ensures.0 _ _
    c.if-o-m.true
    c.swap_elements.ensures.0 c.swap_elements.ensures.1

shape_of-element_offset-else-o-m : tie.Need-shape_of-element_offset-else-o-m
shape_of-element_offset-else-o-m c = search rules

shape_of-marked_split-else-o-m : tie.Need-shape_of-marked_split-else-o-m
shape_of-marked_split-else-o-m c = search rules

returns-else-o-m : tie.Need-returns-else-o-m
returns-else-o-m c =
    mark_keeps _ (C c.before.before.before.before.before.before.before.before) _ _ _ _
    c.at-b.ensures.0 c.at-o.ensures.0
    c.at-m.ensures.0
    c.if-o-m.false

pub mark_element_spec : {M : Type 1} → statement M
mark_element_spec =
    tie.close
    (tie.spec
    at-b-requires
    at-o-requires
    at-m-requires
    overflow_sub-m
    swap_elements-requires
    overflow_sub-marked_split
    overflow_cast-marked_split
    offset_bounds-marked_split-b
    bounds-marked_split-b
    shape_of-elements
    shape_of-element_offset-then-o-m
    shape_of-marked_split-then-o-m
    returns-then-o-m
    shape_of-element_offset-else-o-m
    shape_of-marked_split-else-o-m
    returns-else-o-m)
