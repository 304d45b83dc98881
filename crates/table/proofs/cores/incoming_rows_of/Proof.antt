-- `cores.incoming_rows_of` meets its contract.
use borrow.Author.Rules.{rules}
use native.Mathlib.Omega.{arith}
use Rattle.std.specs.Prelude.{◌+◌}
use Rattle.table.proofs.RowsInto.{first_into_up}
use Rattle.table.proofs.cores.incoming_rows_of.Statement.{statement}
use Rattle.table.proofs.cores.incoming_rows_of.Tie as tie

first_into-first-requires : tie.Need-first_into-first-requires
first_into-first-requires c κs = search rules

into_end-end-requires : tie.Need-into_end-end-requires
into_end-end-requires c κs = let a = c in (
  a.requires,
  omega (
    arith,
    c.first_into-first.ensures,
    first_into_up a.args.target.now a.args.order.now a.args.h a.args.u (a.args.u + 1) (omega arith),
  ),
)

returns : tie.Need-returns
returns c = search rules

pub incoming_rows_of_spec : {M : Type 1} → statement M
incoming_rows_of_spec = tie.close (tie.spec first_into-first-requires into_end-end-requires returns)
