-- The sorted branching signature: the state's own steps; for a hidden step within the block, the target's given list is taken.
use Rattle.std.specs.Prelude.{ℕ, ◌+◌, Bool, cond, ◌&&◌, List, [], ◌∷◌, ◌++◌, length, nat_le, slice_index}
use mathlib.Core.List.{flat_map}
use Rattle.columns.specs.Answers.{Refusal}
use Rattle.columns.specs.Answers.{Said}
use Rattle.columns.specs.Due.{due, index_test}
use Rattle.columns.specs.Sets.{Pair}
use Rattle.partition.specs.Partition.{Partition}
use Rattle.table.specs.Hidden.{hidden_in}
use Rattle.signatures.specs.Pairs.{Columns, signature}
use Rattle.signatures.specs.Signing.{Left, works_fit, signing}
use Rattle.signatures.specs.Strong.{own_rows, row_pair}
use Rattle.pairs.specs.Lists.{list_at, lists_tests, lists_refusal}
use Rattle.table.specs.Lts.{Lts}
use Rattle.table_partition.specs.Checks.{both_tests, both_argument_refusal}

-- what row i of a state of block b gives; `home` has the block of each state, `given` its list
unfoldable pub sorted_at : Lts → List ℕ → (ℕ → List Pair) → ℕ → ℕ → List Pair
unfolding hidden_in row_pair
sorted_at t home given b i =
    cond (hidden_in t.label t.target home b i) (given (slice_index t.target i)) (row_pair t home i ∷ [])

-- the pairs pushed for s, before duplicates go
unfoldable pub sorted_pushed : Lts → List ℕ → (ℕ → List Pair) → ℕ → List Pair
unfolding flat_map own_rows sorted_at
sorted_pushed t home given s = flat_map (sorted_at t home given (slice_index home s)) (own_rows t s)

unfoldable pub sorted_signature : Lts → List ℕ → (ℕ → List Pair) → ℕ → List Pair
unfolding signature sorted_pushed
sorted_signature t home given s = signature (sorted_pushed t home given s)

-- lists that are given flat, with n + 1 starts
pub record Given : Type 0 where
  pub starts : List ℕ
  pub labels : List ℕ
  pub blocks : List ℕ

abbrev pub flat : List ℕ → List ℕ → List ℕ → Given
flat starts labels blocks = record { starts = starts; labels = labels; blocks = blocks }

-- 1, 2, 3, 4, 7 (`room`: the call's other slices are long enough), 5 and 6, 14, 8, 15
unfoldable pub sorted_refusal : Lts → Partition → ℕ → Given → Bool → Refusal
unfolding both_argument_refusal lists_refusal
sorted_refusal t p s g room =
    due (both_tests t p room ++ (index_test s t.n ∷ lists_tests g.starts t.n g.labels g.blocks))

unfoldable pub branching_bisim_signature_sorted : Lts → Partition → ℕ → Given → Columns → List (List ℕ) → Said × Left
unfolding signing sorted_refusal works_fit sorted_pushed sorted_signature list_at
branching_bisim_signature_sorted t p s g out works =
    let home = p.element_to_block in
    let given = list_at g.starts g.labels g.blocks in
    signing (sorted_refusal t p s g (nat_le (t.n + 1) (length g.starts) && works_fit t works)) (length (sorted_pushed t home given s))
    (sorted_signature t home given s) out works
