-- `push_inductive` meets its contract.
use Rattle.std.proofs.Common.{ℕ, ◌&&◌, map, ap, ◌∙◌, arith}
use mathlib.Core.Path.{ap₂}
use Rattle.columns.proofs.TwoColumns.{pairs-none}
use Rattle.signatures.specs.Inductive.{marked_by, keyed_at, inductive_pushed}
use Rattle.signatures.specs.Strong.{own_rows, row_pair}
use Rattle.signatures.proofs.Pushing.{push_start, push_more, push_done, push_behind}
use Rattle.signatures.proofs.Keys.{keyed_either}
use Rattle.table.proofs.RowsOf.{rows_from}
use Rattle.table.proofs.Stretches.{rising}
use Rattle.table.specs.Lts.{lts_of}
use Rattle.signatures.proofs.cores.push_inductive.Goals as goal

pub rows_of-rows-requires : goal.rows_of-rows-requires
rows_of-rows-requires c =
    let v = c.requires.valid.0 in
    (v.long.source, rising (lts_of c.args.system.now) v, omega (arith, v.few_states))

pub loop-i-init : goal.loop-i-init
loop-i-init c =
    let e = c.rows_of-rows.ensures in
    let from = rows_from (lts_of c.args.system.now) c.requires.valid.0 c.args.state _ _ e.0 e.1 in
    record { rows = from; pushed = push_start _ _ _ _ _ _ _ 0 (pairs-none _ _) from.up from.before }

pub loop-i-preserved : goal.loop-i-preserved
loop-i-preserved c =
    let p = c.args.columns.now in
    let i = c.loop-i.invariant in
    let e = c.at-u.ensures.0 in
    record {
      rows = i.rows;
      pushed =
          push_more _ _ _ _ _ _ _ _ _ _ _ i.pushed (omega arith) c.either.result c.either-in-loop-i.result
          (i.rows.own c.loop-i.i i.pushed.low (omega arith))
          (keyed_either c.args.state_to_key.now p.element_to_block.now _ _ c.at-u.result _ _ _
          (c.hidden_in-stays.result && c.marked.result) _ e
          (ap₂ ◌&&◌ c.hidden_in-stays.ensures
          (c.marked.ensures ∙ ap (marked_by p.element_offset.now p.element_to_block.now p.marked_split.now) e))
          c.either.ensures c.either-in-loop-i.ensures) (omega arith) (omega arith);
    }

pub returns : goal.returns
unfolding inductive_pushed own_rows keyed_at row_pair
returns c =
    let p = c.args.columns.now in
    let i = c.loop-i.invariant in
    let t = lts_of c.args.system.now in (
      push_done _ _ _ _ _ _ _ _ _ _ _ i.pushed t.m (omega arith) i.rows.most i.rows.after
          ∙ ap
          (λ (b : ℕ).
          map (keyed_at t p.element_to_block.now (marked_by p.element_offset.now p.element_to_block.now p.marked_split.now) c.args.state_to_key.now b)
          (own_rows t c.args.state)) c.at-b.ensures.0,
      omega arith,
      push_behind _ _ _ _ _ _ _ _ _ _ _ i.pushed,
    )
