-- The column form on the fields' columns says and leaves what `swap_numbers` says of the records.
use Rattle.partition_records.proofs.Agreeing.{numbers_left}
use Rattle.partition_records.proofs.swapping.swap_table.Goals as goal

pub returns : goal.returns
returns c =
    let a = c.args in
    numbers_left a.elements.now a.element_offset.now a.element_to_block.now a.table a.len a.partition.n a.partition.count a.left_index
    a.right_index _ _ _ _ _ _ _ _ c.apart.ensures.0 c.apart.ensures.1 c.apart.ensures.2 c.swap_blocks.ensures
