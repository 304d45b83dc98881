-- The cell goes on with the run, or starts the next.
use Rattle.std.proofs.Common.{sym, ◌∙◌}
use Rattle.replay_lines.proofs.Showing.{showing_goes, showing_starts, rest-repeats, rest-ascends, rest_starts, rest_plain}
use Rattle.replay_lines.proofs.slices.show_cell.Goals as goal

pub returns-then-not-short : goal.returns-then-not-short
returns-then-not-short c = showing_starts _ _ _ _ _ _ c.start_run.ensures.0 c.start_run.ensures.1
    (rest_plain _ _ _ c.if-not-short.true)

pub returns-then-repeats : goal.returns-then-repeats
returns-then-repeats c = showing_goes _ _ _ _ _ 0 c.longer-run.ensures
    (rest-repeats _ _ _ c.if-not-short.false (sym c.repeats.ensures ∙ c.if-repeats.true))

pub returns-then-ascends : goal.returns-then-ascends
returns-then-ascends c = showing_goes _ _ _ _ _ 1 c.longer-run-then-ascends.ensures
    (rest-ascends _ _ _ c.if-not-short.false (sym c.repeats.ensures ∙ c.if-repeats.false) (sym c.ascends.ensures ∙ c.if-ascends.true))

pub returns : goal.returns
returns c = showing_starts _ _ _ _ _ _ c.start_run-2.ensures.0 c.start_run-2.ensures.1
    (rest_starts _ _ _ c.if-not-short.false (sym c.repeats.ensures ∙ c.if-repeats.false) (sym c.ascends.ensures ∙ c.if-ascends.false))
