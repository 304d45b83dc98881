-- Which states are marked.
use Rattle.std.specs.Prelude.{ℕ, Bool, ◌&&◌, List, ltb, leb, eqb, get_or}
use Rattle.columns.specs.Blocks.{block_of}
use Rattle.partition.specs.Partition.{Partition}

-- state s stands before its block's marked_split; `home` has the block of each state
unfoldable pub unmarked_by : List ℕ → List ℕ → List ℕ → ℕ → Bool
unmarked_by offset home split s = ltb (get_or offset s 0) (get_or split (block_of home s) 0)

unfoldable pub unmarkedb : Partition → ℕ → Bool
unfolding unmarked_by
unmarkedb p s = unmarked_by p.element_offset p.element_to_block p.marked_split s

-- state s is one of block b, and stands at position m or behind it
unfoldable pub marked_from : List ℕ → List ℕ → ℕ → ℕ → ℕ → Bool
marked_from offset home b m s = eqb (block_of home s) b && leb m (get_or offset s 0)

-- state s is a marked one of block b: one of it that is not unmarked (`marked_in_lem`)
unfoldable pub marked_in : Partition → ℕ → ℕ → Bool
unfolding marked_from
marked_in p b s = marked_from p.element_offset p.element_to_block b (get_or p.marked_split b 0) s
