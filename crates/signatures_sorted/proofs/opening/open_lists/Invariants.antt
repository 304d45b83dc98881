-- The loop of `open_lists`: the lists of the rows seen that are hidden and stay in the block are heads.
use Rattle.std.proofs.Common.{get_or}
use Rattle.table.proofs.RowsOf.{RowsFrom}
use Rattle.table.specs.Lts.{lts_of}
use Rattle.signatures_sorted.specs.Taking.{inner_row}
use Rattle.signatures_sorted.proofs.Turning.{Opening}
use Rattle.signatures_sorted.proofs.opening.open_lists.Given as goal

abbrev pub invariant-loop-i : goal.invariant-loop-i
invariant-loop-i l =
    let t = lts_of l.system in
    record {
      rows : RowsFrom t l.state l.initial.i l.i-end;
      opened : Opening l.starts (λ r. get_or t.target r 0) (inner_row t l.element_to_block l.state)
          l.initial.i l.i-end l.initial.high l.initial.low l.initial.end_high l.initial.end_low l.i l.k l.high l.low l.end_high l.end_low;
    }
