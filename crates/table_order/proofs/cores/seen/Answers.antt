-- `seen` meets its contract.
use Rattle.std.proofs.Common.{sym, ◌∙◌}
use Rattle.table_order.proofs.Rows.{seen_skipped, seen_loop, seen_mark}
use Rattle.table_order.proofs.cores.seen.Goals as goal

pub returns-then-not-taken : goal.returns-then-not-taken
returns-then-not-taken c = seen_skipped _ _ _ _ _ (sym c.taken.ensures ∙ c.if-not-taken.true)

pub returns-then-u-s : goal.returns-then-u-s
returns-then-u-s c = seen_loop _ _ _ _ _ (sym c.at-u.ensures.0 ∙ c.if-u-s.true)

pub returns-else-u-s : goal.returns-else-u-s
returns-else-u-s c =
    seen_mark _ _ _ _ _ _ _ (sym c.taken.ensures ∙ c.if-not-taken.false) c.at-u.ensures.0 c.if-u-s.false c.at-mark.ensures.0
