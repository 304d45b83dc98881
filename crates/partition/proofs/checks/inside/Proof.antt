-- `checks.inside` meets its contract.
use mathlib.Core.Path.{refl}
use Rattle.partition.specs.Partition.{insideb}
use Rattle.partition.proofs.checks.inside.Statement.{statement}
use Rattle.partition.proofs.checks.inside.Tie as tie

returns : tie.Need-returns
unfolding insideb
returns c = refl

pub inside_spec : {M : Type 1} → statement M
inside_spec = tie.close (tie.spec returns)
