-- `cores.swap_blocks` meets its contract.
use borrow.Author.Rules.{rules}
use mathlib.Core.Path.{refl}
use Rattle.partition.specs.Cores.{Blocks, blocks}
use Rattle.partition.proofs.SwapLaws.{swap_columns, swap-reads}
use Rattle.partition.proofs.cores.swap_blocks.Statement.{statement}
use Rattle.partition.proofs.cores.swap_blocks.Tie as tie

-- the columns that are lent
abbrev C : tie.Start → Blocks
C a = blocks a.args.element_to_block.now a.args.begin.now a.args.marked_split.now a.args.end.now

at-xl-requires : tie.Need-at-xl-requires
at-xl-requires c κs = search rules

at-zl-requires : tie.Need-at-zl-requires
at-zl-requires c κs = search rules

at-xr-requires : tie.Need-at-xr-requires
at-xr-requires c κs = search rules

at-zr-requires : tie.Need-at-zr-requires
at-zr-requires c κs = search rules

swap_cells-requires : tie.Need-swap_cells-requires
swap_cells-requires c κs = search rules

swap_cells-requires-2 : tie.Need-swap_cells-requires-2
swap_cells-requires-2 c κs = search rules

swap_cells-requires-3 : tie.Need-swap_cells-requires-3
swap_cells-requires-3 c κs = search rules

renumber-requires : tie.Need-renumber-requires
renumber-requires c κs = let a = c.before.before.before.before.before.before.before.before.before.before.before.before.before.before.before.before.before.before.before.before.before.before in
    swap-reads _ (C a) _ _ _ _ a.requires.1 a.requires.0.small
    c.at-xr.ensures.0
    c.at-zr.ensures.0
    a.args.element_to_block.now refl

renumber-requires-2 : tie.Need-renumber-requires-2
renumber-requires-2 c κs = let a = c.before.before.before.before.before.before.before.before.before.before.before.before.before.before.before.before.before.before.before.before.before.before.before.before.before.before in
    swap-reads _ (C a) _ _ _ _ a.requires.0 a.requires.1.small
    c.at-xl.ensures.0
    c.at-zl.ensures.0 c.renumber.new.element_to_block
    c.renumber.auto.element_to_block

shape_of-element_to_block : tie.Need-shape_of-element_to_block
shape_of-element_to_block c = search rules

shape_of-begin : tie.Need-shape_of-begin
shape_of-begin c = search rules

shape_of-marked_split : tie.Need-shape_of-marked_split
shape_of-marked_split c = search rules

shape_of-end : tie.Need-shape_of-end
shape_of-end c = search rules

returns : tie.Need-returns
returns c = let a = c.before.before.before.before.before.before.before.before.before.before.before.before.before.before.before.before.before.before.before.before.before.before.before.before.before.before.before.before.before in
    swap_columns _ (C a) _ _ _ _ _ _
    c.at-xl.ensures.0
    c.at-zl.ensures.0
    c.at-xr.ensures.0
    c.at-zr.ensures.0 _ _ _ _ _
    c.swap_cells.ensures
    c.swap_cells-2.ensures c.swap_cells-3.ensures
    c.renumber.ensures c.renumber-2.ensures

pub swap_blocks_spec : {M : Type 1} → statement M
swap_blocks_spec =
    tie.close
    (tie.spec
    at-xl-requires
    at-zl-requires
    at-xr-requires
    at-zr-requires
    swap_cells-requires
    swap_cells-requires-2
    swap_cells-requires-3
    renumber-requires
    renumber-requires-2
    shape_of-element_to_block
    shape_of-begin
    shape_of-marked_split
    shape_of-end
    returns)
