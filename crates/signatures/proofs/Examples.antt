-- Small calls: what is there, what is absent, and how much room is enough.
use Rattle.std.specs.Prelude.{◌≡◌, ℕ, List, [], ◌∷◌, replicate}
use mathlib.Core.Path.{refl}
use Rattle.columns.specs.Answers.{Said, done, refused}
use Rattle.columns.specs.Due.{all_long}
use Rattle.columns.specs.Inverse.{inverseb, inverse_at}
use Rattle.columns.specs.Counting.{all}
use Rattle.partition.specs.Partition.{Partition, parts, boundsb, block_at, withinb, liesb, lie_at, insideb, lengths}
use Rattle.table.specs.Lts.{Lts}
use Rattle.signatures.specs.Inductive.{branching_bisim_signature_inductive}
use Rattle.signatures.specs.Pairs.{Columns}
use Rattle.signatures.specs.Signing.{Left}
use Rattle.signatures.specs.Strong.{strong_bisim_signature}

-- state 0 has hidden steps to itself and to 1, and visible ones to 1 and 2; 1 and 2 have no way out
abbrev small : Lts
small = record {
  n = 3;
  labels = 2;
  m = 4;
  initial = 0;
  source = 0 ∷ 0 ∷ 0 ∷ 0 ∷ [];
  label = 0 ∷ 0 ∷ 1 ∷ 1 ∷ [];
  target = 0 ∷ 1 ∷ 1 ∷ 2 ∷ [];
}

-- {1, 0*} and {2}
abbrev halves : Partition
halves = parts (1 ∷ 0 ∷ 2 ∷ []) (1 ∷ 0 ∷ 2 ∷ []) (0 ∷ 0 ∷ 1 ∷ []) (0 ∷ 2 ∷ 9 ∷ []) (1 ∷ 3 ∷ 9 ∷ []) (2 ∷ 3 ∷ 9 ∷ []) 3 2

-- four work slices of eight cells
abbrev works : ℕ → List (List ℕ)
works x = replicate 4 (replicate 8 x)

abbrev strong : ℕ → Columns → Said × Left
strong s out = strong_bisim_signature small halves s out (works 9)

abbrev inductive : ℕ → Columns → Said × Left
inductive s out = branching_bisim_signature_inductive small halves s (5 ∷ 6 ∷ 7 ∷ []) out (works 9)

-- The strong one: four pairs pushed, three of them distinct, and a cell more than the pairs in one column; room for the distinct ones
-- only; one column too short; a state with no way out, without room. The inductive one: the hidden self-loop takes the own key, the
-- hidden step to an unmarked state gives (0, own block); a state with no way out
pub examples :
    (strong 0 (7 ∷ 7 ∷ 7 ∷ 7 ∷ [], 8 ∷ 8 ∷ 8 ∷ 8 ∷ 8 ∷ [])
    ∷ strong 0 (7 ∷ 7 ∷ 7 ∷ [], 8 ∷ 8 ∷ 8 ∷ [])
    ∷ strong 0 (7 ∷ 7 ∷ 7 ∷ 7 ∷ [], [])
    ∷ strong 1 ([], [])
    ∷ inductive 0 (7 ∷ 7 ∷ 7 ∷ 7 ∷ [], 8 ∷ 8 ∷ 8 ∷ 8 ∷ [])
    ∷ inductive 2 ([], 8 ∷ [])
    ∷ [])
    ≡ ((done (3 ∷ []), ((0 ∷ 1 ∷ 1 ∷ 7 ∷ [], 0 ∷ 0 ∷ 1 ∷ 8 ∷ 8 ∷ []), works 0))
    ∷ (refused 16 4, ((7 ∷ 7 ∷ 7 ∷ [], 8 ∷ 8 ∷ 8 ∷ []), works 0))
    ∷ (refused 16 4, ((7 ∷ 7 ∷ 7 ∷ 7 ∷ [], []), works 0))
    ∷ (done (0 ∷ []), (([], []), works 0))
    ∷ (done (4 ∷ []), ((0 ∷ 1 ∷ 1 ∷ 2 ∷ [], 0 ∷ 0 ∷ 1 ∷ 5 ∷ []), works 0))
    ∷ (done (0 ∷ []), (([], 8 ∷ []), works 0))
    ∷ [])
unfolding strong_bisim_signature branching_bisim_signature_inductive all_long inverseb all inverse_at boundsb block_at withinb liesb lie_at insideb
    lengths
examples = refl
