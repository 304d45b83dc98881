-- `swap_elements` meets its contract.
use mathlib.Core.Path.{refl}
use Rattle.columns.specs.Columns.{swapped}
use Rattle.columns.specs.Inverse.{swapped_inverse}
use borrow.Author.Rules.{rules}
use Rattle.partition.proofs.cores.swap_elements.Statement.{statement}
use Rattle.partition.proofs.cores.swap_elements.Tie as tie

offset_bounds-elements-i : tie.Need-offset_bounds-elements-i
offset_bounds-elements-i c = search rules

bounds-elements-i : tie.Need-bounds-elements-i
bounds-elements-i c = search rules

offset_bounds-elements-j : tie.Need-offset_bounds-elements-j
offset_bounds-elements-j c = search rules

bounds-elements-j : tie.Need-bounds-elements-j
bounds-elements-j c = search rules

offset_bounds-elements-i-2 : tie.Need-offset_bounds-elements-i-2
offset_bounds-elements-i-2 c = search rules

bounds-elements-i-2 : tie.Need-bounds-elements-i-2
bounds-elements-i-2 c = search rules

offset_bounds-elements-j-2 : tie.Need-offset_bounds-elements-j-2
offset_bounds-elements-j-2 c = search rules

bounds-elements-j-2 : tie.Need-bounds-elements-j-2
bounds-elements-j-2 c = search rules

overflow_cast-element_offset : tie.Need-overflow_cast-element_offset
overflow_cast-element_offset c = search rules

overflow_cast-element_offset-2 : tie.Need-overflow_cast-element_offset-2
overflow_cast-element_offset-2 c = search rules

offset_bounds-element_offset-y : tie.Need-offset_bounds-element_offset-y
offset_bounds-element_offset-y c = search rules

bounds-element_offset-y : tie.Need-bounds-element_offset-y
bounds-element_offset-y c = search rules

overflow_cast-element_offset-3 : tie.Need-overflow_cast-element_offset-3
overflow_cast-element_offset-3 c = search rules

overflow_cast-element_offset-4 : tie.Need-overflow_cast-element_offset-4
overflow_cast-element_offset-4 c = search rules

offset_bounds-element_offset-x : tie.Need-offset_bounds-element_offset-x
offset_bounds-element_offset-x c = search rules

bounds-element_offset-x : tie.Need-bounds-element_offset-x
bounds-element_offset-x c = search rules

shape_of-elements : tie.Need-shape_of-elements
shape_of-elements c = search rules

shape_of-element_offset : tie.Need-shape_of-element_offset
shape_of-element_offset c = search rules

returns : tie.Need-returns
unfolding swapped swapped_inverse
returns c = (refl, refl)

pub swap_elements_spec : {M : Type 1} → statement M
swap_elements_spec =
    tie.close
    (tie.spec
    offset_bounds-elements-i
    bounds-elements-i
    offset_bounds-elements-j
    bounds-elements-j
    offset_bounds-elements-i-2
    bounds-elements-i-2
    offset_bounds-elements-j-2
    bounds-elements-j-2
    overflow_cast-element_offset
    overflow_cast-element_offset-2
    offset_bounds-element_offset-y
    bounds-element_offset-y
    overflow_cast-element_offset-3
    overflow_cast-element_offset-4
    offset_bounds-element_offset-x
    bounds-element_offset-x
    shape_of-elements
    shape_of-element_offset
    returns)
