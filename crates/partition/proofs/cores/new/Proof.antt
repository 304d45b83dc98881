-- `cores.new` meets its contract.
use borrow.Author.Rules.{rules}
use mathlib.Core.Path.{sym}
use native.Mathlib.Omega.{arith}
use lib.Seq.{length-take-le}
use Rattle.partition.specs.Partition.{Partition, parts}
use Rattle.partition.proofs.Freshness.{fresh_done}
use Rattle.partition.proofs.cores.new.Statement.{statement}
use Rattle.partition.proofs.cores.new.Tie as tie

-- the partition that is lent
abbrev P : tie.Start → Partition
P a =
    parts a.args.elements.now a.args.element_offset.now a.args.element_to_block.now a.args.begin.now
    a.args.marked_split.now a.args.end.now a.args.n 1

slice_bounds-count_up-end : tie.Need-slice_bounds-count_up-end
slice_bounds-count_up-end c = search rules

slice_bounds-count_up-end-2 : tie.Need-slice_bounds-count_up-end-2
slice_bounds-count_up-end-2 c = let a = c in
    sym (length-take-le a.args.n a.args.elements.now a.requires.0.elements)

count_up-requires : tie.Need-count_up-requires
count_up-requires c κs = let a = c in
    omega (arith, length-take-le a.args.n a.args.elements.now a.requires.0.elements)

slice_bounds-count_up-end-3 : tie.Need-slice_bounds-count_up-end-3
slice_bounds-count_up-end-3 c = search rules

slice_bounds-count_up-end-4 : tie.Need-slice_bounds-count_up-end-4
slice_bounds-count_up-end-4 c = let a = c in
    sym (length-take-le a.args.n a.args.element_offset.now a.requires.0.element_offset)

count_up-requires-2 : tie.Need-count_up-requires-2
count_up-requires-2 c κs = let a = c in
    omega (arith, length-take-le a.args.n a.args.element_offset.now a.requires.0.element_offset)

slice_bounds-clear-end : tie.Need-slice_bounds-clear-end
slice_bounds-clear-end c = search rules

slice_bounds-clear-end-2 : tie.Need-slice_bounds-clear-end-2
slice_bounds-clear-end-2 c = let a = c in
    sym (length-take-le a.args.n a.args.element_to_block.now a.requires.0.element_to_block)

clear-requires : tie.Need-clear-requires
clear-requires c κs = search rules

bounds-begin-0 : tie.Need-bounds-begin-0
bounds-begin-0 c = search rules

bounds-marked_split-0 : tie.Need-bounds-marked_split-0
bounds-marked_split-0 c = search rules

overflow_cast-end : tie.Need-overflow_cast-end
overflow_cast-end c = search rules

bounds-end-0 : tie.Need-bounds-end-0
bounds-end-0 c = search rules

shape_of-elements : tie.Need-shape_of-elements
shape_of-elements c = search rules

shape_of-element_offset : tie.Need-shape_of-element_offset
shape_of-element_offset c = search rules

shape_of-element_to_block : tie.Need-shape_of-element_to_block
shape_of-element_to_block c = search rules

shape_of-begin : tie.Need-shape_of-begin
shape_of-begin c = search rules

shape_of-marked_split : tie.Need-shape_of-marked_split
shape_of-marked_split c = search rules

shape_of-end : tie.Need-shape_of-end
shape_of-end c = search rules

returns : tie.Need-returns
returns c = let a = c.before.before.before.before.before.before.before.before.before.before.before.before.before.before.before.before.before.before in fresh_done (P a) a.requires.0 _ _ _
    c.count_up.ensures
    c.count_up-2.ensures c.clear.ensures

pub new_spec : {M : Type 1} → statement M
new_spec =
    tie.close
    (tie.spec
    slice_bounds-count_up-end
    slice_bounds-count_up-end-2
    count_up-requires
    slice_bounds-count_up-end-3
    slice_bounds-count_up-end-4
    count_up-requires-2
    slice_bounds-clear-end
    slice_bounds-clear-end-2
    clear-requires
    bounds-begin-0
    bounds-marked_split-0
    overflow_cast-end
    bounds-end-0
    shape_of-elements
    shape_of-element_offset
    shape_of-element_to_block
    shape_of-begin
    shape_of-marked_split
    shape_of-end
    returns)
