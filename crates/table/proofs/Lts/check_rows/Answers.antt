-- `check_rows` meets its contract.
use Rattle.std.proofs.Common.{sym, ◌∙◌, arith}
use Rattle.table.specs.Lts.{lts_of}
use Rattle.table.proofs.Refusals.{right_more, rows_right, rows_field, rows_above}
use Rattle.table.proofs.Lts.check_rows.Goals as goal

pub loop-i-init : goal.loop-i-init
loop-i-init c i h = absurd (omega (arith, h))

pub returns-then-not-fields_ok : goal.returns-then-not-fields_ok
returns-then-not-fields_ok c =
    rows_field (lts_of c.args.self.now) c.loop-i.i (omega arith) c.loop-i.invariant (sym c.fields_ok.ensures ∙ c.if-not-fields_ok.true)

pub returns-then-not-above_ok : goal.returns-then-not-above_ok
returns-then-not-above_ok c =
    rows_above (lts_of c.args.self.now) c.loop-i.i (omega arith) c.loop-i.invariant (sym c.fields_ok.ensures ∙ c.if-not-fields_ok.false)
    (sym c.above_ok.ensures ∙ c.if-not-above_ok.true)

pub loop-i-preserved : goal.loop-i-preserved
loop-i-preserved c =
    right_more (lts_of c.args.self.now) c.loop-i.i c.loop-i.invariant (sym c.fields_ok.ensures ∙ c.if-not-fields_ok.false)
    (sym c.above_ok.ensures ∙ c.if-not-above_ok.false)

pub returns : goal.returns
returns c = rows_right (lts_of c.args.self.now) c.loop-i.i (omega arith) c.loop-i.invariant
