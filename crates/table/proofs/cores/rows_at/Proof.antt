-- `cores.rows_at` meets its contract.
use borrow.Author.Rules.{rules}
use native.Mathlib.Omega.{arith}
use Rattle.std.specs.Prelude.{◌+◌}
use mathlib.Core.Path.{◌∙◌}
use Rattle.table.proofs.cores.rows_at.Statement.{statement}
use Rattle.table.proofs.cores.rows_at.Tie as tie

overflow_add-s : tie.Need-overflow_add-s
overflow_add-s c = search rules

rows_of-requires : tie.Need-rows_of-requires
rows_of-requires c κs = search rules

returns-then-starts-s : tie.Need-returns-then-starts-s
returns-then-starts-s c = search rules

at-first-requires : tie.Need-at-first-requires
at-first-requires c κs = search rules

overflow_add-s-2 : tie.Need-overflow_add-s-2
overflow_add-s-2 c = search rules

at-end-requires : tie.Need-at-end-requires
at-end-requires c κs = search rules

returns : tie.Need-returns
returns c = let a = c in (
  c.at-first.ensures.0 ∙ a.requires.1 a.args.s (omega arith),
  c.at-end.ensures.0 ∙ a.requires.1 (a.args.s + 1) (omega arith),
)

pub rows_at_spec : {M : Type 1} → statement M
rows_at_spec = tie.close (tie.spec overflow_add-s rows_of-requires returns-then-starts-s at-first-requires overflow_add-s-2 at-end-requires returns)
