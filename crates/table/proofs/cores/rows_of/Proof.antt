-- `cores.rows_of` meets its contract.
use borrow.Author.Rules.{rules}
use native.Mathlib.Omega.{arith}
use Rattle.std.specs.Prelude.{◌+◌}
use Rattle.table.proofs.RowsOf.{first_row_up}
use Rattle.table.proofs.cores.rows_of.Statement.{statement}
use Rattle.table.proofs.cores.rows_of.Tie as tie

first_row-first-requires : tie.Need-first_row-first-requires
first_row-first-requires c κs = search rules

run_end-end-requires : tie.Need-run_end-end-requires
run_end-end-requires c κs = let a = c in (
  a.requires.0,
  a.requires.1,
  omega (
    arith,
    c.first_row-first.ensures,
    first_row_up a.args.source.now a.args.m a.args.s (a.args.s + 1) (omega arith),
  ),
)

returns : tie.Need-returns
returns c = search rules

pub rows_of_spec : {M : Type 1} → statement M
rows_of_spec = tie.close (tie.spec first_row-first-requires run_end-end-requires returns)
