-- `bad_start` meets its contract.
use Rattle.std.proofs.Common.{arith}
use Rattle.std.proofs.lemmas.Bool.Decides.{nat_tests}
use Rattle.pairs.specs.Lists.{bad_start}
use Rattle.pairs.proofs.lists.bad_start.Goals as goal

pub returns-then-end-x : goal.returns-then-end-x
unfolding bad_start
returns-then-end-x c = grind (arith, nat_tests)

pub returns-then-u-eq0 : goal.returns-then-u-eq0
unfolding bad_start
returns-then-u-eq0 c = grind (arith, nat_tests)

pub returns : goal.returns
unfolding bad_start
returns c = grind (arith, nat_tests)
