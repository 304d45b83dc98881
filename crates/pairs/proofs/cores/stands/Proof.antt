-- `cores.stands` meets its contract.
use borrow.Author.Rules.{rules}
use borrow.Author.Tests.{lt-ltb, le-ltb}
use mathlib.Core.Path.{sym, ◌∙◌}
use Rattle.columns.proofs.Bools.{and_no_left}
use Rattle.columns.specs.Rows.{pair_at}
use Rattle.pairs.proofs.cores.stands.Statement.{statement}
use Rattle.pairs.proofs.cores.stands.Tie as tie

returns-then-n-k : tie.Need-returns-then-n-k
returns-then-n-k c = sym (and_no_left _ _ (le-ltb _ _ c.if-n-k.true))

offset_bounds-labels-k : tie.Need-offset_bounds-labels-k
offset_bounds-labels-k c = search rules

bounds-labels-k : tie.Need-bounds-labels-k
bounds-labels-k c = search rules

offset_bounds-blocks-k : tie.Need-offset_bounds-blocks-k
offset_bounds-blocks-k c = search rules

bounds-blocks-k : tie.Need-bounds-blocks-k
bounds-blocks-k c = search rules

equal-requires : tie.Need-equal-requires
equal-requires c κs = search rules

returns : tie.Need-returns
unfolding pair_at
returns c = c.equal.ensures ∙ sym (simp (lt-ltb _ _ c.if-n-k.false))

pub stands_spec : {M : Type 1} → statement M
stands_spec =
    tie.close
    (tie.spec
    returns-then-n-k
    offset_bounds-labels-k
    bounds-labels-k
    offset_bounds-blocks-k
    bounds-blocks-k
    equal-requires
    returns)
