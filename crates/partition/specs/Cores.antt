-- What the cores ask for and leave, column by column: what the proofs go by, nothing that a contract of an operation says.
use Rattle.std.specs.Prelude.{ℕ, ◌≤◌, ◌<◌, List, length, get_or}
use Rattle.columns.specs.Columns.{swapped}
use Rattle.partition.specs.Partition.{Partition, parts}
use Rattle.partition.specs.Mark.{Marks}
use Rattle.partition.specs.SwapBlocks.{renumbered}

-- what marking a state asks of the columns
pub record Markable (home : List ℕ) (c : Marks) (s : ℕ) : Type 0 where
  pub known : s < length home
  pub place : s < length c.element_offset
  pub block : get_or home s 0 < length c.marked_split
  pub split : get_or c.marked_split (get_or home s 0) 0 ≤ length c.elements
  pub states : (k : ℕ) → k < get_or c.marked_split (get_or home s 0) 0 → get_or c.elements k 0 < length c.element_offset

-- the columns that exchanging two blocks changes
pub record Blocks : Type 0 where
  pub element_to_block : List ℕ
  pub begin : List ℕ
  pub marked_split : List ℕ
  pub end : List ℕ

abbrev pub blocks : List ℕ → List ℕ → List ℕ → List ℕ → Blocks
blocks b x m z = record { element_to_block = b; begin = x; marked_split = m; end = z }

-- the states at the places of each of the two get the other's number, and the two table entries are exchanged
unfoldable pub swap_in : List ℕ → Blocks → ℕ → ℕ → Blocks
unfolding renumbered swapped
swap_in elements c l r =
    let once = renumbered elements (get_or c.begin r 0) (get_or c.end r 0) l c.element_to_block in
    blocks (renumbered elements (get_or c.begin l 0) (get_or c.end l 0) r once) (swapped l r c.begin) (swapped l r c.marked_split)
    (swapped l r c.end)

-- what exchanging them asks of the columns, for each of the two
pub record Swappable (elements : List ℕ) (c : Blocks) (b : ℕ) : Type 0 where
  pub begin : b < length c.begin
  pub marked_split : b < length c.marked_split
  pub end : b < length c.end
  pub small : b < 65536
  pub from : get_or c.begin b 0 ≤ get_or c.end b 0
  pub to : get_or c.end b 0 ≤ length elements
  pub states : (k : ℕ) → k < get_or c.end b 0 → get_or elements k 0 < length c.element_to_block

-- those of a partition
abbrev pub blocks_of : Partition → Blocks
blocks_of p = blocks p.element_to_block p.begin p.marked_split p.end

-- the partition with other ones
abbrev pub with_blocks : Partition → Blocks → Partition
with_blocks p c =
    parts p.elements p.element_offset c.element_to_block c.begin c.marked_split c.end p.n p.count
