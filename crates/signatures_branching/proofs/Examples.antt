-- Small calls: paths within the block, one through another block, and a state with no way out.
use Rattle.std.specs.Prelude.{◌≡◌, ℕ, List, [], ◌∷◌, replicate}
use mathlib.Core.Path.{refl}
use Rattle.columns.specs.Answers.{Said, done, refused}
use Rattle.columns.specs.Due.{all_long}
use Rattle.columns.specs.Inverse.{inverseb, inverse_at}
use Rattle.columns.specs.Counting.{all}
use Rattle.partition.specs.Partition.{Partition, parts, boundsb, block_at, withinb, liesb, lie_at, insideb, lengths}
use Rattle.signatures.specs.Pairs.{Columns}
use Rattle.signatures.specs.Signing.{Left}
use Rattle.table.specs.Lts.{Lts}
use Rattle.signatures_branching.specs.Branching.{branching_bisim_signature}

abbrev three : ℕ → List ℕ → List ℕ → List ℕ → Lts
three m source label target = record { n = 3; labels = 2; m = m; initial = 0; source = source; label = label; target = target }

-- {0, 1} and {2}
abbrev pub halves : Partition
halves = parts (0 ∷ 1 ∷ 2 ∷ []) (0 ∷ 1 ∷ 2 ∷ []) (0 ∷ 0 ∷ 1 ∷ []) (0 ∷ 2 ∷ 9 ∷ []) (2 ∷ 3 ∷ 9 ∷ []) (2 ∷ 3 ∷ 9 ∷ []) 3 2

-- six work slices of eight cells
abbrev works : ℕ → List (List ℕ)
works x = replicate 6 (replicate 8 x)

abbrev run : Lts → ℕ → Columns → Said × Left
run t s out = branching_bisim_signature t halves s out (works 9)

-- 0 has hidden steps to itself and to 1, and 1 a hidden one out of the block and a visible one within it: 0 has both of these, and
-- there is room for them; and not. Then 0 has a hidden step to 2, 2 one back to 1, and 1 a visible one: the path leaves the block.
-- Then a state with no way out, and one with a hidden self-loop alone, without room
pub examples :
    (run (three 4 (0 ∷ 0 ∷ 1 ∷ 1 ∷ []) (0 ∷ 0 ∷ 0 ∷ 1 ∷ []) (0 ∷ 1 ∷ 2 ∷ 0 ∷ [])) 0 (7 ∷ 7 ∷ 7 ∷ [], 8 ∷ 8 ∷ [])
    ∷ run (three 4 (0 ∷ 0 ∷ 1 ∷ 1 ∷ []) (0 ∷ 0 ∷ 0 ∷ 1 ∷ []) (0 ∷ 1 ∷ 2 ∷ 0 ∷ [])) 0 (7 ∷ 7 ∷ 7 ∷ [], 8 ∷ [])
    ∷ run (three 3 (0 ∷ 1 ∷ 2 ∷ []) (0 ∷ 1 ∷ 0 ∷ []) (2 ∷ 1 ∷ 1 ∷ [])) 0 (7 ∷ [], 8 ∷ [])
    ∷ run (three 3 (0 ∷ 1 ∷ 2 ∷ []) (0 ∷ 1 ∷ 0 ∷ []) (2 ∷ 1 ∷ 1 ∷ [])) 1 (7 ∷ [], 8 ∷ [])
    ∷ run (three 0 [] [] []) 0 ([], [])
    ∷ run (three 1 (0 ∷ []) (0 ∷ []) (0 ∷ [])) 0 ([], [])
    ∷ [])
    ≡ ((done (2 ∷ []), ((0 ∷ 1 ∷ 7 ∷ [], 1 ∷ 0 ∷ []), works 0))
    ∷ (refused 16 2, ((7 ∷ 7 ∷ 7 ∷ [], 8 ∷ []), works 0))
    ∷ (done (1 ∷ []), ((0 ∷ [], 1 ∷ []), works 0))
    ∷ (done (1 ∷ []), ((1 ∷ [], 0 ∷ []), works 0))
    ∷ (done (0 ∷ []), (([], []), works 0))
    ∷ (done (0 ∷ []), (([], []), works 0))
    ∷ [])
unfolding branching_bisim_signature all_long inverseb all inverse_at boundsb block_at withinb liesb lie_at insideb lengths
examples = refl
