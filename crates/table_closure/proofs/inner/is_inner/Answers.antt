-- `is_inner` meets its contract.
use Rattle.std.proofs.Common.{rules}
use Rattle.table_closure.specs.Inner.{innerb}
use Rattle.table_closure.proofs.inner.is_inner.Goals as goal

pub returns-then-hidden_in : goal.returns-then-hidden_in
unfolding innerb
returns-then-hidden_in c = search rules

pub returns-else-hidden_in : goal.returns-else-hidden_in
unfolding innerb
returns-else-hidden_in c = search rules
