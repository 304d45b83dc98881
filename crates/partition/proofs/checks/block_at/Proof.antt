-- `block_at` meets its contract.
use Rattle.partition.specs.Partition.{block_at}
use borrow.Author.Rules.{rules}
use Rattle.partition.proofs.checks.block_at.Statement.{statement}
use Rattle.partition.proofs.checks.block_at.Tie as tie

at-requires : tie.Need-at-requires
at-requires c κs = search rules

at-requires-2 : tie.Need-at-requires-2
at-requires-2 c κs = search rules

at-requires-3 : tie.Need-at-requires-3
at-requires-3 c κs = search rules

within-requires : tie.Need-within-requires
within-requires c κs = search rules

returns : tie.Need-returns
unfolding block_at
returns c = cc

pub block_at_spec : {M : Type 1} → statement M
block_at_spec =
    tie.close (tie.spec at-requires at-requires-2 at-requires-3 within-requires returns)
