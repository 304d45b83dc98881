-- `checks.within` meets its contract.
use mathlib.Core.Path.{refl}
use Rattle.partition.specs.Partition.{withinb}
use Rattle.partition.proofs.checks.within.Statement.{statement}
use Rattle.partition.proofs.checks.within.Tie as tie

returns : tie.Need-returns
unfolding withinb
returns c = refl

pub within_spec : {M : Type 1} → statement M
within_spec = tie.close (tie.spec returns)
