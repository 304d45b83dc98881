-- `push_successors` meets its contract.
use Rattle.std.proofs.Common.{◌<◌, length, rules, arith}
use Rattle.table.proofs.RowsOf.{rows_from, own_row_in}
use Rattle.table.proofs.Stretches.{rising}
use Rattle.table_order.proofs.Rows.{offer_start, offer_skip, offer_push, push_fits, offer_clash, offer_end}
use Rattle.table_order.proofs.cores.push_successors.Goals as goal
use Rattle.table_order.proofs.cores.push_successors.Goals.{then-k-eq0, else-k-eq0}

pub rows_of-rows-requires : goal.rows_of-rows-requires
rows_of-rows-requires c =
    let v = c.requires.valid in
    (v.long.source, rising _ v, omega (arith, v.few_states))

pub loop-i-init : goal.loop-i-init
loop-i-init c =
    let run = rows_from _ c.requires.valid _ _ _ c.rows_of-rows.ensures.0 c.rows_of-rows.ensures.1 in
    offer_start _ _ _ _ _ _ _ _ run.stretch _ _ _

pub seen-k-requires : goal.seen-k-requires
seen-k-requires c =
    let v = c.requires.valid in
    let run = rows_from _ v _ _ _ c.rows_of-rows.ensures.0 c.rows_of-rows.ensures.1 in
    let o = own_row_in run c.loop-i.i c.loop-i.auto.i c.loop-i-test.true in
    omega (arith, v.long.label, v.long.target, (v.fields c.loop-i.i o.below).target)

pub returns-then-k-eq1 : goal.returns-then-k-eq1
returns-then-k-eq1 c =
    let run = rows_from _ c.requires.valid _ _ _ c.rows_of-rows.ensures.0 c.rows_of-rows.ensures.1 in
    let o = own_row_in run c.loop-i.i c.loop-i.auto.i c.loop-i-test.true in
    offer_clash _ _ _ _ _ _ o.own _ _ c.seen-k.ensures _ o.below c.if-k-eq1.true

pub offset_bounds-system-i : goal.offset_bounds-system-i
offset_bounds-system-i c =
    let v = c.requires.valid in
    let run = rows_from _ v _ _ _ c.rows_of-rows.ensures.0 c.rows_of-rows.ensures.1 in
    let h : c.loop-i.i < length c.args.system.now.target.now = omega (arith, run.most, v.long.target) in
    search rules

pub bounds-system-i : goal.bounds-system-i
bounds-system-i c =
    let v = c.requires.valid in
    let run = rows_from _ v _ _ _ c.rows_of-rows.ensures.0 c.rows_of-rows.ensures.1 in
    omega (arith, run.most, v.long.target)

pub offset_bounds-stack-high : goal.offset_bounds-stack-high
offset_bounds-stack-high c =
    let run = rows_from _ c.requires.valid _ _ _ c.rows_of-rows.ensures.0 c.rows_of-rows.ensures.1 in
    let o = own_row_in run c.loop-i.i c.loop-i.auto.i c.loop-i-test.true in
    let h = push_fits _ _ _ _ _ _ o.own _ _ c.seen-k.ensures _ o.below c.if-k-eq0.true _ _ _ _ c.loop-i.invariant _ c.requires.fact.2 in
    let w : c.loop-i.high < length c.loop-i.stack = omega (arith, h) in
    search rules

pub bounds-stack-high : goal.bounds-stack-high
bounds-stack-high c =
    let run = rows_from _ c.requires.valid _ _ _ c.rows_of-rows.ensures.0 c.rows_of-rows.ensures.1 in
    let o = own_row_in run c.loop-i.i c.loop-i.auto.i c.loop-i-test.true in
    omega (arith, push_fits _ _ _ _ _ _ o.own _ _ c.seen-k.ensures _ o.below c.if-k-eq0.true _ _ _ _ c.loop-i.invariant _ c.requires.fact.2)

pub overflow_add-high : goal.overflow_add-high
overflow_add-high c =
    let run = rows_from _ c.requires.valid _ _ _ c.rows_of-rows.ensures.0 c.rows_of-rows.ensures.1 in
    let o = own_row_in run c.loop-i.i c.loop-i.auto.i c.loop-i-test.true in
    let h = push_fits _ _ _ _ _ _ o.own _ _ c.seen-k.ensures _ o.below c.if-k-eq0.true _ _ _ _ c.loop-i.invariant _ c.requires.fact.2 in
    let w : c.loop-i.high < length c.loop-i.stack = omega (arith, h) in
    search rules

pub loop-i-preserved : goal.loop-i-preserved
loop-i-preserved c =
    let run = rows_from _ c.requires.valid _ _ _ c.rows_of-rows.ensures.0 c.rows_of-rows.ensures.1 in
    let o = own_row_in run c.loop-i.i c.loop-i.auto.i c.loop-i-test.true in
    elim c.if-k-eq0.branch [
      | then-k-eq0 b ↦
          let h = push_fits _ _ _ _ _ _ o.own _ _ c.seen-k.ensures _ o.below b.if-k-eq0.true _ _ _ _ c.loop-i.invariant _
          c.requires.fact.2 in
          rw (b.stack-is, b.high-is)
          (offer_push _ _ _ _ _ _ o.own _ _ c.seen-k.ensures _ _ _ _ c.loop-i.invariant b.if-k-eq0.true (omega (arith, h)))
      | else-k-eq0 b ↦
          rw (b.stack-is, b.high-is)
          (offer_skip _ _ _ _ _ _ o.own _ _ c.seen-k.ensures _ _ _ _ c.loop-i.invariant b.if-k-eq0.false c.if-k-eq1.false)
    ]

pub returns : goal.returns
returns c =
    let run = rows_from _ c.requires.valid _ _ _ c.rows_of-rows.ensures.0 c.rows_of-rows.ensures.1 in
    offer_end _ _ _ _ _ _ _ _ run.stretch _ (omega (arith, run.up)) _ _ _ _ _ c.loop-i.invariant
