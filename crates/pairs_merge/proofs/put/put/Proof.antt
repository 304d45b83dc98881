-- `put.put` meets its contract.
use borrow.Author.Rules.{rules}
use mathlib.Core.Path.{sym, ◌∙◌}
use Rattle.pairs_merge.proofs.Puts.{old_first, old_last, old_count, new_first, new_last, new_count}
use Rattle.pairs_merge.proofs.put.put.Statement.{statement}
use Rattle.pairs_merge.proofs.put.put.Tie as tie

is_last-requires : tie.Need-is_last-requires
is_last-requires c κs = search rules

shape_of-labels-then-is_last : tie.Need-shape_of-labels-then-is_last
shape_of-labels-then-is_last c = search rules

shape_of-blocks-then-is_last : tie.Need-shape_of-blocks-then-is_last
shape_of-blocks-then-is_last c = search rules

returns-then-is_last : tie.Need-returns-then-is_last
returns-then-is_last c = (
  sym (old_count c.args.labels.now
      c.args.blocks.now c.args.r
      (c.args.label, c.args.block)
      (sym c.is_last.ensures ∙ c.if-is_last.true)),
  sym (old_first c.args.labels.now
      c.args.blocks.now c.args.r
      (c.args.label, c.args.block)
      (sym c.is_last.ensures ∙ c.if-is_last.true)),
  sym (old_last c.args.labels.now
      c.args.blocks.now c.args.r
      (c.args.label, c.args.block)
      (sym c.is_last.ensures ∙ c.if-is_last.true)),
)

offset_bounds-labels-r : tie.Need-offset_bounds-labels-r
offset_bounds-labels-r c = search rules

bounds-labels-r : tie.Need-bounds-labels-r
bounds-labels-r c = search rules

offset_bounds-blocks-r : tie.Need-offset_bounds-blocks-r
offset_bounds-blocks-r c = search rules

bounds-blocks-r : tie.Need-bounds-blocks-r
bounds-blocks-r c = search rules

overflow_add-result : tie.Need-overflow_add-result
overflow_add-result c = search rules

shape_of-labels : tie.Need-shape_of-labels
shape_of-labels c = search rules

shape_of-blocks : tie.Need-shape_of-blocks
shape_of-blocks c = search rules

returns : tie.Need-returns
returns c = (
  sym (new_count c.args.labels.now
      c.args.blocks.now c.args.r
      (c.args.label, c.args.block)
      (sym c.is_last.ensures ∙ c.if-is_last.false)),
  sym (new_first c.args.labels.now
      c.args.blocks.now c.args.r
      (c.args.label, c.args.block)
      (sym c.is_last.ensures ∙ c.if-is_last.false)),
  sym (new_last c.args.labels.now
      c.args.blocks.now c.args.r
      (c.args.label, c.args.block)
      (sym c.is_last.ensures ∙ c.if-is_last.false)),
)

pub put_spec : {M : Type 1} → statement M
put_spec =
    tie.close
    (tie.spec
    is_last-requires
    shape_of-labels-then-is_last
    shape_of-blocks-then-is_last
    returns-then-is_last
    offset_bounds-labels-r
    bounds-labels-r
    offset_bounds-blocks-r
    bounds-blocks-r
    overflow_add-result
    shape_of-labels
    shape_of-blocks
    returns)
