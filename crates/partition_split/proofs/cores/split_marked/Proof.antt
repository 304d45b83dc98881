-- `cores.split_marked` meets its contract.
use borrow.Author.Tests.{eq-eqb, ne_eqb}
use borrow.Author.Rules.{rules}
use native.Mathlib.Omega.{arith}
use Rattle.partition.specs.Partition.{Partition, parts}
use mathlib.Core.Path.{◌∙◌}
use lib.ListN.{length-set}
use lib.Seq.{lt-length-set}
use Rattle.partition_split.proofs.Steps.{sift_ready, nothing_chosen, place_small, all-chosen, cut_ready, split_done}
use Rattle.partition_split.proofs.cores.split_marked.Statement.{statement}
use Rattle.partition_split.proofs.cores.split_marked.Tie as tie

-- the partition that is lent
abbrev P : tie.Start → Partition
P a =
    parts a.args.elements.now a.args.element_offset.now a.args.element_to_block.now a.args.begin.now
    a.args.marked_split.now a.args.end.now a.args.n a.args.count

at-x-requires : tie.Need-at-x-requires
at-x-requires c κs = search rules

at-m-requires : tie.Need-at-m-requires
at-m-requires c κs = search rules

at-z-requires : tie.Need-at-z-requires
at-z-requires c κs = search rules

sift-e-requires : tie.Need-sift-e-requires
sift-e-requires c κs = let a = c.before.before.before.before.before.before.before.before.before.before.before.before in
    sift_ready (P a) a.requires.0 _ a.requires.1.0 a.args.choice.now a.requires.1.1 _ _ _
    c.at-x.ensures.0 c.at-m.ensures.0
    c.at-z.ensures.0

shape_of-elements-then-e-z : tie.Need-shape_of-elements-then-e-z
shape_of-elements-then-e-z c = search rules

shape_of-element_offset-then-e-z : tie.Need-shape_of-element_offset-then-e-z
shape_of-element_offset-then-e-z c = search rules

shape_of-begin-then-e-z : tie.Need-shape_of-begin-then-e-z
shape_of-begin-then-e-z c = search rules

shape_of-marked_split-then-e-z : tie.Need-shape_of-marked_split-then-e-z
shape_of-marked_split-then-e-z c = search rules

shape_of-end-then-e-z : tie.Need-shape_of-end-then-e-z
shape_of-end-then-e-z c = search rules

returns-then-e-z : tie.Need-returns-then-e-z
returns-then-e-z c = let a = c.before.before.before.before.before.before.before.before.before.before.before.before.before.before.before.before.before.before in nothing_chosen (P a) a.requires.0 _ a.requires.1.0 a.args.choice.now a.requires.1.1 _ _ _
    c.at-x.ensures.0
    c.at-m.ensures.0
    c.at-z.ensures.0 _ _ _
    c.sift-e.ensures c.if-e-z.true

marks_then-requires : tie.Need-marks_then-requires
marks_then-requires c κs = let a = c.before.before.before.before.before.before.before.before.before.before.before.before.before.before.before.before.before.before in (
  omega arith,
  place_small (P a) a.requires.0 _ a.requires.1.0 a.args.choice.now
      a.requires.1.1 _ _ _
      c.at-x.ensures.0
      c.at-m.ensures.0
      c.at-z.ensures.0 _ _ _
      c.sift-e.ensures,
)

overflow_cast-marked_split : tie.Need-overflow_cast-marked_split
overflow_cast-marked_split c = search rules

offset_bounds-marked_split-b : tie.Need-offset_bounds-marked_split-b
offset_bounds-marked_split-b c = search rules

bounds-marked_split-b : tie.Need-bounds-marked_split-b
bounds-marked_split-b c = search rules

shape_of-elements-then-all : tie.Need-shape_of-elements-then-all
shape_of-elements-then-all c = search rules

shape_of-element_offset-then-all : tie.Need-shape_of-element_offset-then-all
shape_of-element_offset-then-all c = search rules

shape_of-begin-then-all : tie.Need-shape_of-begin-then-all
shape_of-begin-then-all c = search rules

shape_of-marked_split-then-all : tie.Need-shape_of-marked_split-then-all
shape_of-marked_split-then-all c = search rules

shape_of-end-then-all : tie.Need-shape_of-end-then-all
shape_of-end-then-all c = search rules

returns-then-all : tie.Need-returns-then-all
returns-then-all c = let a = c.before.before.before.before.before.before.before.before.before.before.before.before.before.before.before.before.before.before.before.before in all-chosen (P a) a.requires.0 _ a.requires.1.0 a.args.choice.now
    a.requires.1.1 _ _ _
    c.at-x.ensures.0
    c.at-m.ensures.0
    c.at-z.ensures.0 _ _ _
    c.sift-e.ensures _ c.marks_then.ensures.0 (eq-eqb _ _ c.if-all.true)

cut-requires : tie.Need-cut-requires
cut-requires c κs = let a = c.before.before.before.before.before.before.before.before.before.before.before.before.before.before.before.before.before.before.before.before.before.before.before in
    let q = cut_ready (P a) a.requires.0 _ a.requires.1.0 a.args.choice.now a.requires.1.1 _ _ _
    c.at-x.ensures.0
    c.at-m.ensures.0
    c.at-z.ensures.0 _ _ _
    c.sift-e.ensures
    c.if-e-z.false (ne_eqb _ _ c.if-all.false) in (
      (omega arith, omega arith, omega arith),
      (
        omega arith,
        lt-length-set a.args.marked_split.now a.args.b _ (omega arith),
        omega arith,
      ),
    )

renumber-requires : tie.Need-renumber-requires
renumber-requires c κs = let a = c.before.before.before.before.before.before.before.before.before.before.before.before.before.before.before.before.before.before.before.before.before.before.before.before.before.before.before.before.before.before.before in
    let q = cut_ready (P a) a.requires.0 _ a.requires.1.0 a.args.choice.now a.requires.1.1 _ _ _
    c.at-x.ensures.0
    c.at-m.ensures.0
    c.at-z.ensures.0 _ _ _
    c.sift-e.ensures
    c.if-e-z.false
    (ne_eqb _ _ c.if-all.false) in
    ((omega arith, q.long, omega arith), q.known)

overflow_add-result : tie.Need-overflow_add-result
overflow_add-result c = let a = c in omega (arith, a.requires.0.consistent.most, a.requires.0.small)

shape_of-elements : tie.Need-shape_of-elements
shape_of-elements c = search rules

shape_of-element_offset : tie.Need-shape_of-element_offset
shape_of-element_offset c = search rules

shape_of-element_to_block : tie.Need-shape_of-element_to_block
shape_of-element_to_block c = search rules

shape_of-begin : tie.Need-shape_of-begin
shape_of-begin c = search rules

shape_of-marked_split : tie.Need-shape_of-marked_split
shape_of-marked_split c = c.cut.auto.marked_split ∙
    simp length-set

shape_of-end : tie.Need-shape_of-end
shape_of-end c = search rules

returns : tie.Need-returns
returns c = let a = c.before.before.before.before.before.before.before.before.before.before.before.before.before.before.before.before.before.before.before.before.before.before.before.before.before.before.before.before.before.before.before.before.before.before in
    split_done (P a) a.requires.0 _ a.requires.1.0 a.args.choice.now a.requires.1.1 _ _ _
    c.at-x.ensures.0
    c.at-m.ensures.0
    c.at-z.ensures.0 _ _ _
    c.sift-e.ensures
    c.if-e-z.false
    (ne_eqb _ _ c.if-all.false) _ _ _ _ _
    c.marks_then.ensures.0
    c.cut.ensures.0
    c.cut.ensures.1
    c.cut.ensures.2
    c.renumber.ensures

pub split_marked_spec : {M : Type 1} → statement M
split_marked_spec =
    tie.close
    (tie.spec
    at-x-requires
    at-m-requires
    at-z-requires
    sift-e-requires
    shape_of-elements-then-e-z
    shape_of-element_offset-then-e-z
    shape_of-begin-then-e-z
    shape_of-marked_split-then-e-z
    shape_of-end-then-e-z
    returns-then-e-z
    marks_then-requires
    overflow_cast-marked_split
    offset_bounds-marked_split-b
    bounds-marked_split-b
    shape_of-elements-then-all
    shape_of-element_offset-then-all
    shape_of-begin-then-all
    shape_of-marked_split-then-all
    shape_of-end-then-all
    returns-then-all
    cut-requires
    renumber-requires
    overflow_add-result
    shape_of-elements
    shape_of-element_offset
    shape_of-element_to_block
    shape_of-begin
    shape_of-marked_split
    shape_of-end
    returns)
