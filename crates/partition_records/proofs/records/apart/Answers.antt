-- Each column takes one more record's field; at the end a column is written whole.
use Rattle.std.proofs.Common.{◌≡◌, refl, length, arith}
use Rattle.columns.specs.Limits.{max_states}
use Rattle.columns.proofs.Lists.{painted_none, painted_more}
use Rattle.partition.specs.declared.block.Block.{Block}
use Rattle.partition_records.proofs.Fields.{field_written}
use Rattle.partition_records.proofs.records.apart.Goals as goal

pub loop-i-init : goal.loop-i-init
loop-i-init c = record { begin = painted_none _ _ _; marked_split = painted_none _ _ _; end = painted_none _ _ _ }

pub loop-i-preserved : goal.loop-i-preserved
loop-i-preserved c =
    let v = c.loop-i.invariant in
    record {
      begin = painted_more _ _ _ _ _ _ (omega arith) (omega arith) refl v.begin;
      marked_split = painted_more _ _ _ _ _ _ (omega arith) (omega arith) refl v.marked_split;
      end = painted_more _ _ _ _ _ _ (omega arith) (omega arith) refl v.end;
    }

pub returns : goal.returns
returns c =
    let v = c.loop-i.invariant in
    let h : length c.args.table ≡ max_states = omega arith in (
      field_written (λ (b : Block). b.begin) refl c.args.table max_states h _ _ _ c.requires.0 v.begin (omega arith),
      field_written (λ (b : Block). b.marked_split) refl c.args.table max_states h _ _ _ c.requires.1 v.marked_split (omega arith),
      field_written (λ (b : Block). b.end) refl c.args.table max_states h _ _ _ c.requires.2 v.end (omega arith),
    )
