-- `fields_ok` meets its contract.
use Rattle.std.proofs.Common.{rules}
use Rattle.table.specs.Checks.{fieldsb}
use Rattle.table.proofs.Lts.fields_ok.Goals as goal

pub returns-then-at-self : goal.returns-then-at-self
unfolding fieldsb
returns-then-at-self c = search rules

pub returns-else-at-self : goal.returns-else-at-self
unfolding fieldsb
returns-else-at-self c = search rules
