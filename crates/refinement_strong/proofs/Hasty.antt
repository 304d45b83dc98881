-- Signing against the block column while it changes is no round of the definition: on P8 the blocks are then final after one round that
-- splits something, and the defined rounds are two. So `rounds_defined` shuts it out.
use mathlib.Core.Path.{◌≡◌, refl}
use mathlib.Core.Bool.{Bool, not, ◌&&◌, ◌||◌}
use mathlib.Core.List.{List, [], ◌∷◌}
use Prim.Native.Nat.{ℕ, zero, suc}
use lib.Dec.{eqb}
use Rattle.columns.specs.Columns.{listed, zeros}
use Rattle.columns.specs.Counting.{first}
use Rattle.columns.specs.Number.{number}
use Rattle.columns.specs.Sets.{pair_eq, same}
use Rattle.refinement.specs.Blocks.{share}
use Rattle.refinement_strong.specs.Reduction.{strong_rounds}
use Rattle.signatures.specs.Strong.{strong_signature}
use Rattle.table.specs.Lts.{Lts}
use Rattle.table.specs.Tables.{table_of}

module _ (t : Lts) where
  -- u and v stay together where the block of s alone is split, by signature under p
  abbrev together_but : List ℕ → ℕ → ℕ → ℕ → Bool
  together_but p s u v = share p u v && (not (share p s u) || same pair_eq (strong_signature t p u) (strong_signature t p v))

  -- the blocks of the first k states are split in turn, each under what those before it left
  unfoldable split_in_turn : ℕ → List ℕ → List ℕ
  unfolding share same pair_eq strong_signature number listed
  split_in_turn zero p = p
  split_in_turn (suc k) p = let q = split_in_turn k p in listed t.n (number (together_but q k))

  unfoldable hasty_after : ℕ → List ℕ
  unfolding split_in_turn
  hasty_after zero = zeros t.n
  hasty_after (suc k) = split_in_turn t.n (hasty_after k)

  unfoldable pub hasty_rounds : ℕ
  unfolding hasty_after first same
  hasty_rounds = first t.n (λ k. same eqb (hasty_after (suc k)) (hasty_after k))

abbrev pub chain : Lts
chain = table_of 3 2 0 ((0, (1, 1)) ∷ (1, (1, 2)) ∷ [])

pub hasty_differs : (hasty_rounds chain ∷ strong_rounds chain ∷ []) ≡ (1 ∷ 2 ∷ [])
unfolding hasty_rounds strong_rounds table_of
hasty_differs = refl
