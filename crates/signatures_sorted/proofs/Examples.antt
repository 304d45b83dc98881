-- Small calls: what a hidden step within the block takes, how much room is enough, and what a state with no way out has.
use Rattle.std.specs.Prelude.{◌≡◌, ℕ, List, [], ◌∷◌, replicate}
use mathlib.Core.Path.{refl}
use Rattle.signatures_branching.specs.Branching.{branching_signature}
use Rattle.signatures_branching.proofs.Examples.{halves}
use Rattle.columns.specs.Answers.{Said, done, refused}
use Rattle.columns.specs.Due.{all_long}
use Rattle.columns.specs.Inverse.{inverseb, inverse_at}
use Rattle.columns.specs.Counting.{all}
use Rattle.partition.specs.Partition.{boundsb, block_at, withinb, liesb, lie_at, insideb, lengths}
use Rattle.signatures.specs.Pairs.{Columns}
use Rattle.signatures.specs.Signing.{Left}
use Rattle.pairs.specs.Lists.{list_at}
use Rattle.table.specs.Lts.{Lts}
use Rattle.signatures_sorted.specs.Sorted.{Given, flat, sorted_signature, branching_bisim_signature_sorted}

-- state 0 has a hidden step to itself, one to 1, and a visible one to 2; state 1 a hidden and a visible one to 2; 2 has none
abbrev small : Lts
small = record {
  n = 3;
  labels = 3;
  m = 5;
  initial = 0;
  source = 0 ∷ 0 ∷ 0 ∷ 1 ∷ 1 ∷ [];
  label = 0 ∷ 0 ∷ 1 ∷ 0 ∷ 2 ∷ [];
  target = 0 ∷ 1 ∷ 2 ∷ 2 ∷ 2 ∷ [];
}

-- the lists given: no list has a pair; list 0 alone has one; the branching signatures; a list that doesn't ascend
abbrev bare : Given
bare = flat (0 ∷ 0 ∷ 0 ∷ 0 ∷ []) [] []

abbrev own : Given
own = flat (0 ∷ 1 ∷ 1 ∷ 1 ∷ []) (2 ∷ []) (5 ∷ [])

abbrev right : Given
right = flat (0 ∷ 3 ∷ 5 ∷ 5 ∷ []) (0 ∷ 1 ∷ 2 ∷ 0 ∷ 2 ∷ []) (1 ∷ 1 ∷ 1 ∷ 1 ∷ 1 ∷ [])

abbrev wrong : Given
wrong = flat (0 ∷ 0 ∷ 0 ∷ 2 ∷ []) (1 ∷ 0 ∷ []) (0 ∷ 0 ∷ [])

-- seven work slices of nine cells
abbrev works : ℕ → List (List ℕ)
works x = replicate 7 (replicate 9 x)

abbrev run : Given → ℕ → Columns → Said × Left
run g s out = branching_bisim_signature_sorted small halves s g out (works 9)

-- A hidden self-loop takes the state's own list. All lists empty: the own steps that are visible or lead to another block. Right lists:
-- six pairs pushed, three of them distinct; room for five. A state with no way out, without room. A list that isn't taken is tested too
pub examples :
    (run own 0 (7 ∷ 7 ∷ [], 8 ∷ 8 ∷ [])
    ∷ run bare 0 (7 ∷ [], 8 ∷ 8 ∷ [])
    ∷ run bare 1 (7 ∷ 7 ∷ [], 8 ∷ 8 ∷ [])
    ∷ run right 0 (replicate 6 7, replicate 6 8)
    ∷ run right 0 (replicate 6 7, replicate 5 8)
    ∷ run right 2 ([], [])
    ∷ run wrong 0 ([], [])
    ∷ [])
    ≡ ((done (2 ∷ []), ((1 ∷ 2 ∷ [], 1 ∷ 5 ∷ []), works 0))
    ∷ (done (1 ∷ []), ((1 ∷ [], 1 ∷ 8 ∷ []), works 0))
    ∷ (done (2 ∷ []), ((0 ∷ 2 ∷ [], 1 ∷ 1 ∷ []), works 0))
    ∷ (done (3 ∷ []), ((0 ∷ 1 ∷ 2 ∷ 7 ∷ 7 ∷ 7 ∷ [], 1 ∷ 1 ∷ 1 ∷ 8 ∷ 8 ∷ 8 ∷ []), works 0))
    ∷ (refused 16 6, ((replicate 6 7, replicate 5 8), works 0))
    ∷ (done (0 ∷ []), (([], []), works 0))
    ∷ (refused 15 1, (([], []), works 9))
    ∷ [])
unfolding branching_bisim_signature_sorted all_long inverseb all inverse_at boundsb block_at withinb liesb lie_at insideb lengths
examples = refl

-- the right lists are the branching signatures, and give that of state 0
pub right_lists :
    (list_at right.starts right.labels right.blocks 0
    ∷ list_at right.starts right.labels right.blocks 1
    ∷ list_at right.starts right.labels right.blocks 2
    ∷ sorted_signature small (0 ∷ 0 ∷ 1 ∷ []) (list_at right.starts right.labels right.blocks) 0
    ∷ [])
    ≡ (branching_signature small (0 ∷ 0 ∷ 1 ∷ []) 0
    ∷ branching_signature small (0 ∷ 0 ∷ 1 ∷ []) 1
    ∷ branching_signature small (0 ∷ 0 ∷ 1 ∷ []) 2
    ∷ branching_signature small (0 ∷ 0 ∷ 1 ∷ []) 0
    ∷ [])
unfolding list_at sorted_signature branching_signature
right_lists = refl
