-- The first i records of the table stand in the three columns.
use Rattle.std.proofs.Common.{get_or}
use Rattle.columns.specs.Limits.{max_states}
use Rattle.columns.proofs.Lists.{Painted}
use Rattle.partition_records.specs.Records.{no_block}
use Rattle.partition_records.proofs.records.apart.Given as goal

abbrev pub invariant-loop-i : goal.invariant-loop-i
invariant-loop-i l =
    record {
      begin : Painted (λ k. (get_or l.b-items k no_block).begin) max_states l.initial.begin l.i l.begin;
      marked_split : Painted (λ k. (get_or l.b-items k no_block).marked_split) max_states l.initial.marked_split l.i l.marked_split;
      end : Painted (λ k. (get_or l.b-items k no_block).end) max_states l.initial.end l.i l.end;
    }
