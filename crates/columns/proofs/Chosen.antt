-- The values of the numbers that pass a test: where each stands, and how many there are at most where they rise.
use Prim.Native.Nat.{ℕ, zero, suc, ◌≤◌, ◌<◌}
use native.Mathlib.Omega.{arith}
use mathlib.Core.Path.{◌≡◌, refl, ap, sym, ◌∙◌}
use mathlib.Core.Bool.{Bool, true, false}
use mathlib.Core.List.{map}
use lib.ListN.{length, length-map, get_or, get_or-map}
use Rattle.columns.specs.Counting.{many, members}
use Rattle.columns.proofs.Counting.{many-none, many_hit, many_miss, many_strict, Ranked}
use Rattle.columns.proofs.Lists.{get_d_any}
use Rattle.columns.proofs.Members.{length-members, members_at}

module _ (f : ℕ → Bool) (g : ℕ → ℕ) (m : ℕ) where
  pub length-chosen : length (map g (members m f)) ≡ many m f
  length-chosen = length-map (members m f) g ∙ length-members f m

  -- the value of a number that passes stands at the number's rank
  pub chosen_at : (i : ℕ) → i < m → f i ≡ true → get_or (map g (members m f)) (many i f) 0 ≡ g i
  chosen_at i h e =
      get_d_any (map g (members m f)) (many i f) 0 (g 0) (omega (arith, length-chosen, many_strict i m f h e))
      ∙ get_or-map g (members m f) (many i f) 0 ∙ ap g (members_at f m i h e)

  pub chosen_of : (j : ℕ) (r : Ranked m f j) → get_or (map g (members m f)) j 0 ≡ g r.at
  chosen_of j r = ap (λ (k : ℕ). get_or (map g (members m f)) k 0) (sym r.rank) ∙ chosen_at r.at r.below r.passes

-- values that rise are no more than a bound of them
pub few_rising :
    (f : ℕ → Bool) (g : ℕ → ℕ) (m : ℕ) → ((i j : ℕ) → i < j → j < m → f i ≡ true → f j ≡ true → g i < g j) → (n : ℕ)
    → ((i : ℕ) → i < m → f i ≡ true → g i < n) → many m f ≤ n
few_rising f g zero up n h = omega (arith, many-none f)
few_rising f g (suc m) up n h = go (few_rising f g m (λ i j l w. up i j l (omega arith))) (f m) refl
  where
    go : ((b : ℕ) → ((i : ℕ) → i < m → f i ≡ true → g i < b) → many m f ≤ b) → (t : Bool) → f m ≡ t → many (suc m) f ≤ n
    go ih true e = omega (arith, many_hit m f e, ih (g m) (λ i l p. up i m l (omega arith) p e), h m (omega arith) e)
    go ih false e = omega (arith, many_miss m f e, ih n (λ i l. h i (omega arith)))
