-- `put.is_last` meets its contract.
use borrow.Author.Rules.{rules}
use native.Mathlib.Omega.{arith}
use mathlib.Core.Path.{◌∙◌}
use Rattle.pairs_merge.proofs.Puts.{last_none, last_some}
use Rattle.pairs_merge.proofs.put.is_last.Statement.{statement}
use Rattle.columns.specs.Rows.{pair_at}
use Rattle.pairs_merge.proofs.put.is_last.Tie as tie

returns-then-r-eq0 : tie.Need-returns-then-r-eq0
returns-then-r-eq0 c = last_none c.args.labels.now c.args.blocks.now
    c.args.r (c.args.label, c.args.block) c.if-r-eq0.true

overflow_sub-r : tie.Need-overflow_sub-r
overflow_sub-r c = search rules

offset_bounds-labels-r : tie.Need-offset_bounds-labels-r
offset_bounds-labels-r c = search rules

bounds-labels-r : tie.Need-bounds-labels-r
bounds-labels-r c = search rules

overflow_sub-r-2 : tie.Need-overflow_sub-r-2
overflow_sub-r-2 c = search rules

offset_bounds-blocks-r : tie.Need-offset_bounds-blocks-r
offset_bounds-blocks-r c = search rules

bounds-blocks-r : tie.Need-bounds-blocks-r
bounds-blocks-r c = search rules

equal-requires : tie.Need-equal-requires
equal-requires c κs = search rules

returns : tie.Need-returns
unfolding pair_at
returns c = c.equal.ensures ∙ last_some c.args.labels.now
    c.args.blocks.now c.args.r
    (c.args.label, c.args.block)
    (omega arith)

pub is_last_spec : {M : Type 1} → statement M
is_last_spec =
    tie.close
    (tie.spec
    returns-then-r-eq0
    overflow_sub-r
    offset_bounds-labels-r
    bounds-labels-r
    overflow_sub-r-2
    offset_bounds-blocks-r
    bounds-blocks-r
    equal-requires
    returns)
