-- `distinct` meets its contract.
use Rattle.std.proofs.Common.{sym, ◌∙◌, arith}
use Rattle.columns.specs.Sets.{row_lt}
use Rattle.columns.specs.Columns.{key_of, comes_before}
use Rattle.columns.specs.Rows.{firsts_by}
use Rattle.columns.proofs.Picking.{pick_none, pick_none-over, pick_start, pick_more, pick_less, pick_count, pick_over}
use Rattle.columns.proofs.sorting.Keys.distinct.Goals as goal
use Rattle.columns.proofs.sorting.Keys.distinct.Goals.{then-comes_before, else-comes_before}

pub returns-then-order-eq0-clause-value : goal.returns-then-order-eq0-clause-value
unfolding firsts_by
returns-then-order-eq0-clause-value c = pick_none row_lt (key_of c.args.self.now.first.now c.args.self.now.second.now c.args.self.now.third.now) c.args.order.now c.if-order-eq0.true

pub returns-then-order-eq0-clause-order_value : goal.returns-then-order-eq0-clause-order_value
unfolding firsts_by
returns-then-order-eq0-clause-order_value c =
    pick_none-over row_lt (key_of c.args.self.now.first.now c.args.self.now.second.now c.args.self.now.third.now) c.args.order.now c.if-order-eq0.true

pub loop-i-init : goal.loop-i-init
loop-i-init c = pick_start row_lt (key_of c.args.self.now.first.now c.args.self.now.second.now c.args.self.now.third.now) c.args.order.now (omega arith)

pub loop-i-preserved : goal.loop-i-preserved
unfolding comes_before
loop-i-preserved c =
    let key = key_of c.args.self.now.first.now c.args.self.now.second.now c.args.self.now.third.now in
    elim c.if-comes_before.branch [
      | then-comes_before w ↦
          rw (w.order-is, w.last-is, w.r-is)
          (pick_more row_lt key _ _ _ _ _ c.loop-i.invariant (omega arith) (sym c.comes_before.ensures ∙ w.if-comes_before.true))
      | else-comes_before w ↦
          rw (w.order-is, w.last-is, w.r-is)
          (pick_less row_lt key _ _ _ _ _ c.loop-i.invariant (omega arith) (sym c.comes_before.ensures ∙ w.if-comes_before.false))
    ]

pub returns : goal.returns
unfolding firsts_by
returns c =
    let key = key_of c.args.self.now.first.now c.args.self.now.second.now c.args.self.now.third.now in
    record {
      value = pick_count row_lt key _ _ _ _ _ c.loop-i.invariant (omega arith);
      order_value = pick_over row_lt key _ _ _ _ _ c.loop-i.invariant (omega arith);
    }
