-- `pairs.bad_pair` meets its contract.
use borrow.Author.Rules.{rules}
use mathlib.Core.Path.{sym, ap, ◌∙◌}
use Rattle.std.specs.Prelude.{not}
use Rattle.pairs.proofs.Refusals.{pair_before, pair_after}
use Rattle.pairs.proofs.pairs.bad_pair.Statement.{statement}
use Rattle.columns.specs.Rows.{pair_at}
use Rattle.pairs.proofs.pairs.bad_pair.Tie as tie

returns-then-j-from : tie.Need-returns-then-j-from
returns-then-j-from c = sym (pair_before _ _ _ _ c.if-j-from.true)

overflow_sub-j : tie.Need-overflow_sub-j
overflow_sub-j c = search rules

offset_bounds-labels-j : tie.Need-offset_bounds-labels-j
offset_bounds-labels-j c = search rules

bounds-labels-j : tie.Need-bounds-labels-j
bounds-labels-j c = search rules

overflow_sub-j-2 : tie.Need-overflow_sub-j-2
overflow_sub-j-2 c = search rules

offset_bounds-blocks-j : tie.Need-offset_bounds-blocks-j
offset_bounds-blocks-j c = search rules

bounds-blocks-j : tie.Need-bounds-blocks-j
bounds-blocks-j c = search rules

offset_bounds-labels-j-2 : tie.Need-offset_bounds-labels-j-2
offset_bounds-labels-j-2 c = search rules

bounds-labels-j-2 : tie.Need-bounds-labels-j-2
bounds-labels-j-2 c = search rules

offset_bounds-blocks-j-2 : tie.Need-offset_bounds-blocks-j-2
offset_bounds-blocks-j-2 c = search rules

bounds-blocks-j-2 : tie.Need-bounds-blocks-j-2
bounds-blocks-j-2 c = search rules

below-requires : tie.Need-below-requires
below-requires c κs = search rules

returns : tie.Need-returns
unfolding pair_at
returns c = ap not c.below.ensures ∙ pair_after _ _ _ _ c.if-j-from.false

pub bad_pair_spec : {M : Type 1} → statement M
bad_pair_spec =
    tie.close
    (tie.spec
    returns-then-j-from
    overflow_sub-j
    offset_bounds-labels-j
    bounds-labels-j
    overflow_sub-j-2
    offset_bounds-blocks-j
    bounds-blocks-j
    offset_bounds-labels-j-2
    bounds-labels-j-2
    offset_bounds-blocks-j-2
    bounds-blocks-j-2
    below-requires
    returns)
