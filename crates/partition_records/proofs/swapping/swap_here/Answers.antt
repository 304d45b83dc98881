-- The records lent are the table's first; those behind stay.
use Rattle.std.proofs.Common.{List, ◌++◌, drop, ℕ, ap}
use Rattle.columns.specs.Answers.{Said}
use Rattle.partition.specs.declared.block.Block.{Block}
use Rattle.partition_records.specs.Tables.{swap_first}
use Rattle.partition_records.proofs.swapping.swap_here.Goals as goal

pub returns : goal.returns
unfolding swap_first
returns c =
    ap (λ (s : Said × (List ℕ × List Block)). (s.0, (s.1.0, s.1.1 ++ drop c.args.len c.args.table))) c.swap_blocks-answer.ensures
