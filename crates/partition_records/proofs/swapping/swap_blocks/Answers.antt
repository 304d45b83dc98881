-- Where the column form on the copied records is done, the two records are within the list, and they are exchanged.
use Rattle.std.proofs.Common.{sym, ◌∙◌}
use Rattle.partition_records.proofs.Agreeing.{both_within, records_swapped, records_stay}
use Rattle.partition_records.proofs.swapping.swap_blocks.Goals as goal

pub swap-requires : goal.swap-requires
swap-requires c =
    let m = c.at_most-m.ensures in
    let w =
    both_within _ _ _ _ _ _ _ _ m.0 m.2 c.copy_from_slice.ensures.after _ _ c.swap_table-answer.ensures
    (sym c.is_ok.ensures.value ∙ c.if-is_ok.true) in
    record { a_in_bounds = w.0; b_in_bounds = w.1 }

pub returns-then-is_ok : goal.returns-then-is_ok
returns-then-is_ok c =
    let m = c.at_most-m.ensures in
    records_swapped _ _ _ _ _ _ _ _ m.0 m.2 c.copy_from_slice.ensures.after _ _ c.swap_table-answer.ensures
    (sym c.is_ok.ensures.value ∙ c.if-is_ok.true) _ c.swap.ensures.after

pub returns-else-is_ok : goal.returns-else-is_ok
returns-else-is_ok c =
    let m = c.at_most-m.ensures in
    records_stay _ _ _ _ _ _ _ _ m.0 m.2 c.copy_from_slice.ensures.after _ _ c.swap_table-answer.ensures
    (sym c.is_ok.ensures.value ∙ c.if-is_ok.false)
