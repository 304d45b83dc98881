-- What an answer that holds a block says determines it.
use mathlib.Core.Path.{◌≡◌}
use Rattle.columns.specs.Answers.{Answer}
use Rattle.columns.proofs.Saying.{same_said}
use Rattle.partition.specs.declared.block.Block.{Block}
use Rattle.partition.specs.Block.{block_values, said_block}

same_values : (a b : Block) → block_values a ≡ block_values b → a ≡ b
same_values a b e =
    let x : a.begin ≡ b.begin = cc in
    let m : a.marked_split ≡ b.marked_split = cc in
    let z : a.end ≡ b.end = cc in
    λ i. record { begin = x i; marked_split = m i; end = z i }

pub same_block : (a b : Answer Block) → said_block a ≡ said_block b → a ≡ b
same_block = same_said block_values same_values
