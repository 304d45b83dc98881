-- `marked` meets its contract.
use Rattle.std.proofs.lemmas.Bool.Decides.{nat_tests}
use Rattle.std.proofs.Common.{arith}
use Rattle.signatures.specs.Inductive.{marked_by}
use Rattle.signatures.proofs.cores.marked.Goals as goal

pub returns : goal.returns
unfolding marked_by
returns c = grind (arith, nat_tests)
