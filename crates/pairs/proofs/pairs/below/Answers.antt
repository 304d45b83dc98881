-- `below` meets its contract.
use Rattle.std.proofs.Common.{arith}
use Rattle.std.proofs.lemmas.Bool.Decides.{nat_tests}
use Rattle.columns.specs.Sets.{lex, pair_lt}
use Rattle.pairs.proofs.pairs.below.Goals as goal

pub returns : goal.returns
unfolding pair_lt lex
returns c = grind (arith, nat_tests)
