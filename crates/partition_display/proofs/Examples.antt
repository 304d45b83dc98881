-- Worked examples of the text, by computation.
use Prim.Native.Nat.{ℕ}
use mathlib.Core.Path.{◌≡◌, refl}
use mathlib.Core.List.{[], ◌∷◌}
use lib.ListN.{replicate}
use Rattle.columns.specs.Due.{all_long}
use Rattle.columns.specs.Inverse.{inverse_at, inverseb}
use Rattle.columns.specs.Answers.{done, refused}
use Rattle.columns.specs.Counting.{all}
use Rattle.partition.specs.Partition.{Partition, parts, withinb, block_at, boundsb, insideb, lie_at, liesb, lengths}
use Rattle.partition_display.specs.Display.{decimal, display_text, displayed}

-- 0, 10, 907, 4095
decimals :
    decimal 0 ∷ decimal 10 ∷ decimal 907 ∷ decimal 4095 ∷ []
    ≡ (48 ∷ []) ∷ (49 ∷ 48 ∷ []) ∷ (57 ∷ 48 ∷ 55 ∷ []) ∷ (52 ∷ 48 ∷ 57 ∷ 53 ∷ []) ∷ []
unfolding decimal
decimals = refl

-- document 01's: four states in two blocks, state 0 marked
two : Partition
two =
    parts (2 ∷ 3 ∷ 0 ∷ 1 ∷ []) (2 ∷ 3 ∷ 0 ∷ 1 ∷ []) (0 ∷ 1 ∷ 0 ∷ 0 ∷ []) (0 ∷ 3 ∷ 0 ∷ 0 ∷ []) (2 ∷ 4 ∷ 0 ∷ 0 ∷ []) (3 ∷ 4 ∷ 0 ∷ 0 ∷ []) 4 2

-- one state, marked where split is 0 and unmarked where it is 1
one : ℕ → Partition
one split = parts (0 ∷ []) (0 ∷ []) (0 ∷ []) (0 ∷ []) (split ∷ []) (1 ∷ []) 1 1

-- {{2, 3, 0*}, {1}}
two_text :
    display_text two
    ≡ 123 ∷ 123 ∷ 50 ∷ 44 ∷ 32 ∷ 51 ∷ 44 ∷ 32 ∷ 48 ∷ 42 ∷ 125 ∷ 44 ∷ 32 ∷ 123 ∷ 49 ∷ 125 ∷ 125 ∷ []
unfolding display_text two
two_text = refl

-- {{2, 3, 0*}, {1}} and {{0*}}, each with a byte to spare; {{0}} where it just fits; and where a byte is missing
calls :
    displayed two (replicate 18 7) ∷ displayed (one 0) (replicate 7 7) ∷ displayed (one 1) (replicate 5 7) ∷ displayed (one 1)
    (replicate 4 7) ∷ []
    ≡ (done (17 ∷ []), 123 ∷ 123 ∷ 50 ∷ 44 ∷ 32 ∷ 51 ∷ 44 ∷ 32 ∷ 48 ∷ 42 ∷ 125 ∷ 44 ∷ 32 ∷ 123 ∷ 49 ∷ 125 ∷ 125 ∷ 7 ∷ [])
    ∷ (done (6 ∷ []), 123 ∷ 123 ∷ 48 ∷ 42 ∷ 125 ∷ 125 ∷ 7 ∷ [])
    ∷ (done (5 ∷ []), 123 ∷ 123 ∷ 48 ∷ 125 ∷ 125 ∷ [])
    ∷ (refused 16 5, 7 ∷ 7 ∷ 7 ∷ 7 ∷ [])
    ∷ []
unfolding displayed two one all inverse_at inverseb withinb block_at boundsb insideb lie_at liesb lengths all_long
calls = refl
