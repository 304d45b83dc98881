-- A partition whose block table is a list of block records, and what `swap_blocks` says and leaves of it.
use Rattle.std.specs.Prelude.{ℕ, List, [], map}
use Rattle.columns.specs.Answers.{Said, leaving}
use Rattle.columns.specs.Columns.{exchanged}
use Rattle.partition.specs.declared.block.Block.{Block}
use Rattle.partition.specs.Checks.{blocks_refusal}
use Rattle.partition.specs.Partition.{Partition, parts}
use Rattle.partition.specs.SwapBlocks.{swap}

-- the fields of a list of records, each as a column
abbrev pub begins : List Block → List ℕ
begins bs = map (λ b. b.begin) bs

abbrev pub splits : List Block → List ℕ
splits bs = map (λ b. b.marked_split) bs

abbrev pub ends : List Block → List ℕ
ends bs = map (λ b. b.end) bs

-- the partition that is lent with its block table as a list of records
abbrev pub lent : List ℕ → List ℕ → List ℕ → List Block → ℕ → ℕ → Partition
lent e o b bs n count = parts e o b (begins bs) (splits bs) (ends bs) n count

-- what a table is read as that has no such record
abbrev pub no_block : Block
no_block = record { begin = 0; marked_split = 0; end = 0 }

-- the column form's refusals; where there is none, its renumbering, and the two records exchanged
unfoldable pub swap_records : List ℕ → List ℕ → List ℕ → List Block → ℕ → ℕ → ℕ → ℕ → Said × (List ℕ × List Block)
unfolding leaving blocks_refusal swap exchanged
swap_records e o b bs n count l r =
    let p = lent e o b bs n count in
    leaving (blocks_refusal p l r) (b, bs) [] ((swap p l r).element_to_block, exchanged no_block l r bs)
