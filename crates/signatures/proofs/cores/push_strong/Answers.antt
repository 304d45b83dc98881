-- `push_strong` meets its contract.
use Rattle.std.proofs.Common.{ℕ, get_or, sym, ap, arith}
use Rattle.columns.proofs.TwoColumns.{pairs-none}
use Rattle.signatures.specs.Strong.{own_rows, row_pair, strong_pushed}
use Rattle.signatures.proofs.Pushing.{push_start, push_more, push_done, push_behind}
use Rattle.table.proofs.RowsOf.{rows_from}
use Rattle.table.proofs.Stretches.{rising}
use Rattle.table.specs.Lts.{lts_of}
use Rattle.signatures.proofs.cores.push_strong.Goals as goal

pub rows_of-rows-requires : goal.rows_of-rows-requires
rows_of-rows-requires c =
    let v = c.requires.valid.0 in
    (v.long.source, rising (lts_of c.args.system.now) v, omega (arith, v.few_states))

pub loop-i-init : goal.loop-i-init
loop-i-init c =
    let e = c.rows_of-rows.ensures in
    let from = rows_from (lts_of c.args.system.now) c.requires.valid.0 c.args.state _ _ e.0 e.1 in
    record { rows = from; pushed = push_start _ _ _ _ _ _ _ 0 (pairs-none _ _) from.up from.before }

pub loop-i-preserved : goal.loop-i-preserved
loop-i-preserved c =
    let a = c.args in
    let i = c.loop-i.invariant in
    record {
      rows = i.rows;
      pushed =
          push_more _ _ _ _ _ _ _ _ _ _ _ i.pushed (omega arith) _ _ (i.rows.own c.loop-i.i i.pushed.low (omega arith))
          (ap (λ (u : ℕ). (get_or a.system.now.label.now c.loop-i.i 0, get_or a.element_to_block.now u 0)) (sym c.at-u.ensures.0)) (omega arith)
          (omega arith);
    }

pub returns : goal.returns
unfolding strong_pushed own_rows row_pair
returns c =
    let i = c.loop-i.invariant in (
      push_done _ _ _ _ _ _ _ _ _ _ _ i.pushed c.args.system.now.table.m (omega arith) i.rows.most i.rows.after,
      omega arith,
      push_behind _ _ _ _ _ _ _ _ _ _ _ i.pushed,
    )
