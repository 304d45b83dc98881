-- `list_state` meets its contract.
use Rattle.std.proofs.Common.{◌<◌, sym, ◌∙◌, arith}
use Rattle.columns.proofs.Bools.{and_both, and_no_left}
use Rattle.columns.proofs.Listing.{list_start, list_more, list_skip, list_done}
use Rattle.table.specs.Lts.{lts_of}
use Rattle.table.proofs.RowsOf.{rows_from}
use Rattle.table.proofs.Stretches.{rising}
use Rattle.table_closure.specs.Inner.{inner_rows}
use Rattle.table_closure.proofs.Listing.{inner_most, inner_fits, row_skipped}
use Rattle.table_closure.proofs.inner.list_state.Goals as goal

pub rows_of-rows-requires : goal.rows_of-rows-requires
rows_of-rows-requires c =
    let v = c.requires.valid.0 in
    (v.long.source, rising _ v, omega (arith, c.requires.valid.1, v.few_states))

pub loop-i-init : goal.loop-i-init
loop-i-init c =
    let f = rows_from _ c.requires.valid.0 _ _ _ c.rows_of-rows.ensures.0 c.rows_of-rows.ensures.1 in
    list_start _ _ _ _ _ f.up (λ k l. and_no_left _ _ (f.before k l))

pub is_inner-requires-clause-i_in_bounds : goal.is_inner-requires-clause-i_in_bounds
is_inner-requires-clause-i_in_bounds c =
    let v = c.requires.valid.0 in
    let f = rows_from _ v _ _ _ c.rows_of-rows.ensures.0 c.rows_of-rows.ensures.1 in
    let w : c.loop-i.i < c.args.system.now.table.m = omega (arith, f.most) in
    (omega (arith, v.long.source), omega (arith, v.long.label), omega (arith, v.long.target))

pub is_inner-requires-clause-i_in_bounds_2 : goal.is_inner-requires-clause-i_in_bounds_2
is_inner-requires-clause-i_in_bounds_2 c =
    let v = c.requires.valid.0 in
    let f = rows_from _ v _ _ _ c.rows_of-rows.ensures.0 c.rows_of-rows.ensures.1 in
    let r = v.fields c.loop-i.i (omega (arith, f.most)) in
    (omega (arith, r.source, c.requires.valid.2), omega (arith, r.target, c.requires.valid.2))

pub overflow_cast-order : goal.overflow_cast-order
overflow_cast-order c =
    let v = c.requires.valid.0 in
    let f = rows_from _ v _ _ _ c.rows_of-rows.ensures.0 c.rows_of-rows.ensures.1 in
    omega (arith, f.most, v.few_rows)

pub offset_bounds-order-k : goal.offset_bounds-order-k
offset_bounds-order-k c =
    let v = c.requires.valid.0 in
    let f = rows_from _ v _ _ _ c.rows_of-rows.ensures.0 c.rows_of-rows.ensures.1 in
    let p = c.loop-i.invariant in
    let e = and_both (f.own c.loop-i.i p.low c.loop-i-test.true) (sym c.is_inner.ensures ∙ c.if-is_inner.true) in
    let r = inner_fits _ _ _ _ _ _ _ _ _ _ _ p (omega (arith, f.most)) e in
    omega (arith, r, inner_most (lts_of c.args.system.now) c.args.element_to_block.now c.args.b c.args.s, v.few_rows, c.requires.fact.1)

pub bounds-order-k : goal.bounds-order-k
bounds-order-k c =
    let f = rows_from _ c.requires.valid.0 _ _ _ c.rows_of-rows.ensures.0 c.rows_of-rows.ensures.1 in
    let p = c.loop-i.invariant in
    let e = and_both (f.own c.loop-i.i p.low c.loop-i-test.true) (sym c.is_inner.ensures ∙ c.if-is_inner.true) in
    omega (arith, inner_fits _ _ _ _ _ _ _ _ _ _ _ p (omega (arith, f.most)) e, p.size, c.requires.fact.0)

pub overflow_add-k : goal.overflow_add-k
overflow_add-k c =
    let v = c.requires.valid.0 in
    let f = rows_from _ v _ _ _ c.rows_of-rows.ensures.0 c.rows_of-rows.ensures.1 in
    let p = c.loop-i.invariant in
    let e = and_both (f.own c.loop-i.i p.low c.loop-i-test.true) (sym c.is_inner.ensures ∙ c.if-is_inner.true) in
    let r = inner_fits _ _ _ _ _ _ _ _ _ _ _ p (omega (arith, f.most)) e in
    omega (arith, r, inner_most (lts_of c.args.system.now) c.args.element_to_block.now c.args.b c.args.s, v.few_rows, c.requires.fact.1)

pub loop-i-preserved-then-is_inner : goal.loop-i-preserved-then-is_inner
loop-i-preserved-then-is_inner c =
    let f = rows_from _ c.requires.valid.0 _ _ _ c.rows_of-rows.ensures.0 c.rows_of-rows.ensures.1 in
    let p = c.loop-i.invariant in
    let e = and_both (f.own c.loop-i.i p.low c.loop-i-test.true) (sym c.is_inner.ensures ∙ c.if-is_inner.true) in
    let r = inner_fits _ _ _ _ _ _ _ _ _ _ _ p (omega (arith, f.most)) e in
    list_more _ _ _ _ _ _ _ _ p c.loop-i-test.true e (omega (arith, r, p.size, c.requires.fact.0))

pub row_after-i-requires : goal.row_after-i-requires
row_after-i-requires c =
    let v = c.requires.valid.0 in
    let f = rows_from _ v _ _ _ c.rows_of-rows.ensures.0 c.rows_of-rows.ensures.1 in
    (omega (arith, f.most, v.long.label), omega (arith, f.most, v.few_rows))

pub loop-i-preserved : goal.loop-i-preserved
loop-i-preserved c =
    let v = c.requires.valid.0 in
    let f = rows_from _ v _ _ _ c.rows_of-rows.ensures.0 c.rows_of-rows.ensures.1 in
    let p = c.loop-i.invariant in
    let r =
    row_skipped _ v _ _ _ _ _ f _ _ p.low c.loop-i-test.true (sym c.is_inner.ensures ∙ c.if-is_inner.false) c.row_after-i.ensures in
    list_skip _ _ _ _ _ _ _ _ p _ (omega (arith, r.0)) r.1 r.2

pub returns-clause-fact_2 : goal.returns-clause-fact_2
unfolding inner_rows
returns-clause-fact_2 c =
    let f = rows_from _ c.requires.valid.0 _ _ _ c.rows_of-rows.ensures.0 c.rows_of-rows.ensures.1 in
    list_done _ _ _ _ _ _ _ _ c.loop-i.invariant _ c.loop-i-test.false f.most (λ k u v. and_no_left _ _ (f.after k u v))
