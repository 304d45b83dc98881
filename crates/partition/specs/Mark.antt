-- What `mark_element` says and leaves.
use Rattle.std.specs.Prelude.{ℕ, ◌-◌, cond, List, [], get_or, set}
use Rattle.columns.specs.Answers.{Said, leaving}
use Rattle.columns.specs.Blocks.{block_of}
use Rattle.columns.specs.Columns.{swapped}
use Rattle.columns.specs.Inverse.{swapped_inverse}
use Rattle.partition.specs.Partition.{Partition, parts}
use Rattle.partition.specs.Checks.{argument_refusal, state_refusal}
use Rattle.partition.specs.Marked.{unmarked_by, unmarkedb}

-- the columns that marking a state changes
pub record Marks : Type 0 where
  pub elements : List ℕ
  pub element_offset : List ℕ
  pub marked_split : List ℕ

abbrev pub marks : List ℕ → List ℕ → List ℕ → Marks
marks e o m = record { elements = e; element_offset = o; marked_split = m }

-- state s, unmarked, swaps places with the state at marked_split - 1, and marked_split falls by one; `home` has the block of each state
unfoldable pub moved_in : List ℕ → Marks → ℕ → Marks
unfolding swapped swapped_inverse
moved_in home c s =
    let b = block_of home s in
    let o = get_or c.element_offset s 0 in
    let m = get_or c.marked_split b 0 - 1 in
    marks (swapped o m c.elements) (swapped_inverse o m c.elements c.element_offset) (set c.marked_split b m)

-- state s is marked: an unmarked one moves; a marked one: no change
unfoldable pub mark_in : List ℕ → Marks → ℕ → Marks
unfolding unmarked_by moved_in
mark_in home c s = cond (unmarked_by c.element_offset home c.marked_split s) (moved_in home c s) c

-- ---- the same of a partition
abbrev pub marks_of : Partition → Marks
marks_of p = marks p.elements p.element_offset p.marked_split

-- the partition with other ones
abbrev pub with_marks : Partition → Marks → Partition
with_marks p c =
    parts c.elements c.element_offset p.element_to_block p.begin c.marked_split p.end p.n p.count

unfoldable pub moved : Partition → ℕ → Partition
unfolding moved_in
moved p s = with_marks p (moved_in p.element_to_block (marks_of p) s)

unfoldable pub mark : Partition → ℕ → Partition
unfolding unmarkedb moved
mark p s = cond (unmarkedb p s) (moved p s) p

unfoldable pub mark_element : Partition → ℕ → Said × Partition
unfolding leaving argument_refusal mark
mark_element p s = leaving (state_refusal p s) p [] (mark p s)
