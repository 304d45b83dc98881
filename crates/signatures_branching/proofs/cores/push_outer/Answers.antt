-- `push_outer` meets its contract.
use Rattle.std.proofs.Common.{arith}
use Rattle.table.proofs.RowsOf.{rows_from}
use Rattle.table.proofs.Stretches.{rising}
use Rattle.table.specs.Lts.{lts_of}
use Rattle.signatures_branching.proofs.Outer.{outer_start, outer_pass, outer_room, outer_push, outer_done}
use Rattle.signatures_branching.proofs.cores.push_outer.Goals as goal
use Rattle.signatures_branching.proofs.cores.push_outer.Goals.{then-not-hidden_in, else-not-hidden_in}

pub rows_of-rows-requires : goal.rows_of-rows-requires
rows_of-rows-requires c =
    let v = c.requires.valid.0 in
    (v.long.source, rising (lts_of c.args.system.now) v, omega (arith, v.few_states))

pub loop-i-init : goal.loop-i-init
loop-i-init c =
    let e = c.rows_of-rows.ensures in
    outer_start _ _ _ _ _ _ _ _ c.args.d (rows_from (lts_of c.args.system.now) c.requires.valid.0 c.args.x _ _ e.0 e.1)

pub offset_bounds-pushed_labels-k : goal.offset_bounds-pushed_labels-k
offset_bounds-pushed_labels-k c =
    omega (arith, outer_room c.loop-i.invariant (omega arith) c.hidden_in.ensures c.if-not-hidden_in.true)

pub bounds-pushed_labels-k : goal.bounds-pushed_labels-k
bounds-pushed_labels-k c = omega (arith, outer_room c.loop-i.invariant (omega arith) c.hidden_in.ensures c.if-not-hidden_in.true)

pub offset_bounds-pushed_blocks-k : goal.offset_bounds-pushed_blocks-k
offset_bounds-pushed_blocks-k c =
    omega (arith, outer_room c.loop-i.invariant (omega arith) c.hidden_in.ensures c.if-not-hidden_in.true)

pub bounds-pushed_blocks-k : goal.bounds-pushed_blocks-k
bounds-pushed_blocks-k c = omega (arith, outer_room c.loop-i.invariant (omega arith) c.hidden_in.ensures c.if-not-hidden_in.true)

pub overflow_add-k : goal.overflow_add-k
overflow_add-k c = omega (arith, outer_room c.loop-i.invariant (omega arith) c.hidden_in.ensures c.if-not-hidden_in.true)

pub loop-i-preserved : goal.loop-i-preserved
loop-i-preserved c =
    let i = c.loop-i.invariant in
    let e = c.hidden_in.ensures in
    elim c.if-not-hidden_in.branch [
      | then-not-hidden_in w ↦
          let f = w.if-not-hidden_in.true in
          let r = outer_room i (omega arith) e f in
          outer_push i (omega arith) e f w.at-u.ensures.0 (omega arith) (omega arith) w.pushed_labels-is w.pushed_blocks-is w.k-is
      | else-not-hidden_in w ↦
          outer_pass i (omega arith) e w.if-not-hidden_in.false w.pushed_labels-is w.pushed_blocks-is w.k-is
    ]

pub returns-clause-pushed_blocks_value : goal.returns-clause-pushed_blocks_value
returns-clause-pushed_blocks_value c = outer_done c.loop-i.invariant (omega arith)
