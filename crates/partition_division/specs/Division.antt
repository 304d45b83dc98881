-- What `partition_marked_with` refuses, says and leaves.
use Rattle.std.specs.Prelude.{ℕ, ◌+◌, Bool, ◌&&◌, ◌||◌, List, [], ◌∷◌, ◌++◌, length, ◌==◌, nat_le, nat_lt, slice_index}
use Rattle.columns.specs.Limits.{not_dense, nothing_marked}
use Rattle.columns.specs.Answers.{Answer, Refusal}
use Rattle.columns.specs.Answers.{Said, said_by, leaving}
use Rattle.columns.specs.Due.{Test, test, due, index_test, all_long}
use Rattle.columns.specs.Columns.{cleared}
use Rattle.partition.specs.Partition.{Partition}
use Rattle.partition.specs.Checks.{partition_tests}
use Rattle.partition_division.specs.Marked.{missing, denseb, len_at}
use Rattle.partition_division.specs.Divide.{partition_marked}
use Rattle.partition_division.specs.declared.Division.{Division}

-- the old index, the first of the run of new ones, and the block count, which is its end
abbrev pub division_values : Division → List ℕ
division_values d = d.index ∷ d.first ∷ d.count ∷ []

abbrev pub said_division : Answer Division → Said
said_division a = said_by division_values a

-- 9 with nothing marked; 10 with numbers that are not dense, which a block of one state is not asked
abbrev pub unfit_tests : Partition → ℕ → List ℕ → List Test
unfit_tests p b v =
    test (nat_lt (slice_index p.marked_split b) (slice_index p.end b)) nothing_marked b
    ∷ test (len_at p b == 1 || denseb p b v) not_dense (missing p b v)
    ∷ []

-- three work slices
pub record Work : Type 0 where
  pub old_elements : List ℕ
  pub block_sizes : List ℕ
  pub spare : List ℕ

abbrev pub work : List ℕ → List ℕ → List ℕ → Work
work a b c = record { old_elements = a; block_sizes = b; spare = c }

-- numbers for n states, and n + 1 cells in each work slice, by their lengths
unfoldable pub roomb : ℕ → ℕ → List ℕ → Bool
unfolding all_long
roomb n v works = nat_le n v && all_long (n + 1) works

-- 1, 7, 14, 8, 9, 10; the work slices by their lengths
unfoldable pub refusal_for : Partition → ℕ → List ℕ → List ℕ → Refusal
refusal_for p b v works = due (partition_tests p (roomb p.n (length v) works) ++ (index_test b p.count ∷ unfit_tests p b v))

unfoldable pub division_refusal : Partition → ℕ → List ℕ → Work → Refusal
division_refusal p b v w = refusal_for p b v (length w.old_elements ∷ length w.block_sizes ∷ length w.spare ∷ [])

abbrev pub cleared_work : Work → Work
cleared_work w = work (cleared w.old_elements) (cleared w.block_sizes) (cleared w.spare)

unfoldable pub partition_marked_with : Partition → ℕ → List ℕ → Work → Said × (Partition × Work)
partition_marked_with p b v w =
    leaving (division_refusal p b v w) (p, w) (b ∷ p.count ∷ (partition_marked p b v).count ∷ []) (partition_marked p b v, cleared_work w)
