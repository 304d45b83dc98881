-- What `mark_backward_closure` refuses, says and leaves. b is the block.
use Rattle.std.specs.Prelude.{ℕ, zero, suc, Bool, cond, ◌&&◌, List, [], ◌∷◌, length, ◌==◌, nat_lt, slice_index}
use Rattle.columns.specs.Answers.{Refusal}
use Rattle.columns.specs.Answers.{Said, leaving}
use Rattle.columns.specs.Columns.{cleared}
use Rattle.columns.specs.Due.{all_long}
use Rattle.partition.specs.Mark.{mark}
use Rattle.partition.specs.Partition.{Partition}
use Rattle.table_partition.specs.Checks.{both_argument_refusal}
use Rattle.table.specs.Checks.{works_long}
use Rattle.table.specs.Hidden.{hidden_in}
use Rattle.table.specs.Lts.{Lts}

-- row i is hidden and comes from a state of block b; `home` has the block of each state
unfoldable pub silentb : Lts → List ℕ → ℕ → ℕ → Bool
unfolding hidden_in
silentb t home b i = hidden_in t.label t.source home b i

-- the source of such a row is marked
unfoldable pub mark_source : Lts → ℕ → ℕ → Partition → Partition
unfolding silentb mark
mark_source t b i p = cond (silentb t p.element_to_block b i) (mark p (slice_index t.source i)) p

-- the same for each of the first k rows that lead to u, in the order of the rows
unfoldable pub mark_into : Lts → ℕ → ℕ → ℕ → Partition → Partition
unfolding mark_source
mark_into t b u zero p = p
mark_into t b u (suc k) p = let q = mark_into t b u k p in cond (slice_index t.target k == u) (mark_source t b k q) q

-- the position before `it` is marked, and something before the split is not
unfoldable pub going_on : ℕ → ℕ → ℕ → Bool
going_on begin split it = nat_lt split it && nat_lt begin split

unfoldable pub goes_on : Partition → ℕ → ℕ → Bool
unfolding going_on
goes_on p b it = going_on (slice_index p.begin b) (slice_index p.marked_split b) it

-- the positions before `it` are read, the last first, until nothing is unmarked or the marked stretch is read
unfoldable pub read_down : Lts → ℕ → ℕ → Partition → Partition
unfolding goes_on mark_into
read_down t b zero p = p
read_down t b (suc it) p = cond (goes_on p b (suc it)) (read_down t b it (mark_into t b (slice_index p.elements it) t.m p)) p

-- from end - 1 down
unfoldable pub close : Lts → Partition → ℕ → Partition
unfolding read_down
close t p b = read_down t b (slice_index p.end b) p

-- 1, 2, 3, 4, 7, 5 and 6, 14, 8; the work slices by their lengths
unfoldable pub closure_refusal : Lts → Partition → ℕ → ℕ → ℕ → Refusal
unfolding both_argument_refusal all_long
closure_refusal t p b order spare = both_argument_refusal t p b p.count (works_long t (order ∷ spare ∷ []))

-- the partition is closed, and the work slices are zero
unfoldable pub mark_backward_closure : Lts → Partition → ℕ → List ℕ → List ℕ → Said × (Partition × (List ℕ × List ℕ))
unfolding leaving closure_refusal close
mark_backward_closure t p b order spare =
    leaving (closure_refusal t p b (length order) (length spare)) (p, (order, spare)) []
    (close t p b, (cleared order, cleared spare))
