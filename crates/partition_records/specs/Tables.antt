-- Tables of block records between the steps of `swap_blocks`: what the proofs go by, nothing that a contract of an operation says.
use Rattle.std.specs.Prelude.{ℕ, List, [], ◌++◌, take, drop, replicate}
use Rattle.columns.specs.Limits.{max_states}
use Rattle.columns.specs.Answers.{Said, leaving}
use Rattle.partition.specs.declared.block.Block.{Block}
use Rattle.partition.specs.Checks.{blocks_refusal}
use Rattle.partition.specs.SwapBlocks.{swap}
use Rattle.partition_records.specs.Records.{lent, no_block, swap_records}

-- a table with nothing in it
unfoldable pub blank : List Block
blank = replicate max_states no_block

-- what the column form says of the records' fields, and the numbers that it leaves
unfoldable pub swap_numbers : List ℕ → List ℕ → List ℕ → List Block → ℕ → ℕ → ℕ → ℕ → Said × List ℕ
unfolding leaving blocks_refusal swap
swap_numbers e o b bs n count l r =
    let p = lent e o b bs n count in
    leaving (blocks_refusal p l r) b [] (swap p l r).element_to_block

-- `swap_blocks` on the first len records of a table; those behind stay
unfoldable pub swap_first : List ℕ → List ℕ → List ℕ → List Block → ℕ → ℕ → ℕ → ℕ → ℕ → Said × (List ℕ × List Block)
unfolding swap_records
swap_first e o b t len n count l r =
    let s = swap_records e o b (take len t) n count l r in
    (s.0, (s.1.0, s.1.1 ++ drop len t))
