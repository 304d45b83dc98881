-- `refuse_unless` meets its contract.
use Rattle.std.proofs.Common.{cond, sym, ap}
use Rattle.columns.specs.Answers.{none}
use Rattle.columns.specs.Due.{due}
use Rattle.columns.proofs.checks.refuse_unless.Goals as goal

pub returns-then-holds : goal.returns-then-holds
unfolding due
returns-then-holds g c = sym (ap (λ b. cond b none (g.R.Coded.code c.args.refusal)) c.if-holds.true)

pub returns-else-holds : goal.returns-else-holds
unfolding due
returns-else-holds g c = sym (ap (λ b. cond b none (g.R.Coded.code c.args.refusal)) c.if-holds.false)
