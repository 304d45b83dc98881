-- Loop invariants of the marking by way of listed rows: what the proofs go by, nothing that a contract of an operation says.
use Rattle.std.specs.Prelude.{ℕ, zero, suc, ◌<◌, cond, List, length, ◌==◌, slice_index}
use Rattle.partition.specs.Mark.{Marks, mark_in}
use Rattle.partition.specs.Partition.{Sound, parts}
use Rattle.table.specs.Stretch.{listed_target, ByTarget}
use Rattle.table_closure.specs.Closure.{going_on}

-- the sources and the targets of a table's rows, and a column that lists some of the rows
pub record RowList : Type 0 where
  pub source : List ℕ
  pub target : List ℕ
  pub order : List ℕ

abbrev pub row_list : List ℕ → List ℕ → List ℕ → RowList
row_list source target order = record { source = source; target = target; order = order }

-- where the row listed at k comes from, and where it leads
abbrev pub comes_from : RowList → ℕ → ℕ
comes_from r k = slice_index r.source (slice_index r.order k)

abbrev pub leads_to : RowList → ℕ → ℕ
leads_to r k = listed_target r.target r.order k

-- of the first k listed rows the sources of those that lead to u are marked, one after the other; `home` has the block of each state
unfoldable pub mark_listed : RowList → List ℕ → ℕ → ℕ → Marks → Marks
unfolding mark_in
mark_listed r home u zero c = c
mark_listed r home u (suc k) c = let d = mark_listed r home u k c in cond (leads_to r k == u) (mark_in home d (comes_from r k)) d

-- the same for the states at the positions before `it`, the last first, until nothing of block b is unmarked or its marked stretch is read;
-- h rows are listed, and x is where the block begins
unfoldable pub read_listed : RowList → ℕ → List ℕ → ℕ → ℕ → ℕ → Marks → Marks
unfolding going_on mark_listed
read_listed r h home b x zero c = c
read_listed r h home b x (suc it) c =
    cond (going_on x (slice_index c.marked_split b) (suc it)) (read_listed r h home b x it (mark_listed r home (slice_index c.elements it) h c)) c

-- the first h listed rows: they come from states, and are listed by target
pub record Listed (n : ℕ) (r : RowList) (h : ℕ) : Type 0 where
  pub by_target : ByTarget r.target r.order h
  pub source : (k : ℕ) → k < h → slice_index r.order k < length r.source
  pub state : (k : ℕ) → k < h → comes_from r k < n

-- the columns are those of a partition of n states
pub record Fits (n : ℕ) (home : List ℕ) (c : Marks) : Type 0 where
  pub begin : List ℕ
  pub end : List ℕ
  pub count : ℕ
  pub sound : Sound (parts c.elements c.element_offset home begin c.marked_split end n count)
