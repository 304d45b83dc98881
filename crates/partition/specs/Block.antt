-- One block given alone, and what a call says that answers one.
use Rattle.std.specs.Prelude.{ℕ, ◌-◌, Bool, List, [], ◌∷◌, get_or, ltb}
use Rattle.columns.specs.Limits.{inconsistent, max_states, out_of_range}
use Rattle.columns.specs.Answers.{Answer, Refusal, Said, answering, said_by}
use Rattle.columns.specs.Counting.{bit}
use Rattle.columns.specs.Due.{test, due}
use Rattle.partition.specs.Partition.{withinb}
use Rattle.partition.specs.declared.block.Block.{Block}

-- entry b of the block table
abbrev pub entry : List ℕ → List ℕ → List ℕ → ℕ → Block
entry begin split end b = record { begin = get_or begin b 0; marked_split = get_or split b 0; end = get_or end b 0 }

abbrev pub block_values : Block → List ℕ
block_values b = b.begin ∷ b.marked_split ∷ b.end ∷ []

abbrev pub said_block : Answer Block → Said
said_block a = said_by block_values a

-- a new block from begin to end with this split; 8 at end where the bounds are broken
unfoldable pub new_block : ℕ → ℕ → ℕ → Said
unfolding answering due withinb
new_block begin split end =
    answering (due (test (withinb begin split end max_states) out_of_range end ∷ [])) (begin ∷ split ∷ end ∷ [])

-- the bounds of a block given alone hold
unfoldable pub boundedb : Block → Bool
unfolding withinb
boundedb b = withinb b.begin b.marked_split b.end max_states

-- 14 where they are broken
unfoldable pub broken_block : Block → Refusal
unfolding due boundedb
broken_block b = due (test (boundedb b) inconsistent 0 ∷ [])

unfoldable pub len : Block → Said
unfolding answering broken_block
len b = answering (broken_block b) ((b.end - b.begin) ∷ [])

unfoldable pub len_marked : Block → Said
unfolding answering broken_block
len_marked b = answering (broken_block b) ((b.end - b.marked_split) ∷ [])

unfoldable pub has_marked : Block → Said
unfolding answering broken_block
has_marked b = answering (broken_block b) (bit (ltb b.marked_split b.end) ∷ [])

unfoldable pub has_unmarked : Block → Said
unfolding answering broken_block
has_unmarked b = answering (broken_block b) (bit (ltb b.begin b.marked_split) ∷ [])
