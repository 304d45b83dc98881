-- `cell_of` meets its contract.
use borrow.Author.Rules.{rules}
use mathlib.Core.Path.{sym}
use lib.ListN.{get_or-eq_default}
use Rattle.columns.specs.Columns.{cell}
use Rattle.columns.proofs.Lists.{get_d_any}
use Rattle.columns.proofs.cells.cell_of.Statement.{statement}
use Rattle.columns.proofs.cells.cell_of.Tie as tie

offset_bounds-a-k : tie.Need-offset_bounds-a-k
offset_bounds-a-k c = search rules

bounds-a-k : tie.Need-bounds-a-k
bounds-a-k c = search rules

returns-then-k-a : tie.Need-returns-then-k-a
unfolding cell
returns-then-k-a c = get_d_any c.args.a.now c.args.i _ _ (search rules)

returns-else-k-a : tie.Need-returns-else-k-a
unfolding cell
returns-else-k-a c = sym (get_or-eq_default c.args.a.now c.args.i {n = c.args.i} (search rules))

pub cell_of_spec : {M : Type 1} → statement M
cell_of_spec = tie.close (tie.spec offset_bounds-a-k bounds-a-k returns-then-k-a returns-else-k-a)
