-- Laws of the tests that calls share: a number in its range, and slices that are long enough.
use Prim.Native.Nat.{ℕ, zero, suc, ◌≤◌, ◌<◌}
use native.Mathlib.Omega.{arith}
use borrow.Author.Tests.{leb-true, le-leb, lt-leb}
use mathlib.Core.Bool.{true, false}
use mathlib.Core.List.{List, [], ◌∷◌}
use mathlib.Core.Path.{◌≡◌, refl, sym}
use lib.Dec.{leb}
use lib.ListN.{length, get_or}
use Rattle.columns.specs.Due.{in_range, all_long, Roomy}
use Rattle.columns.proofs.Bools.{and_left, and_right, and_both, and_no_left, and_no_right}

module _ (low x high : ℕ) where
  pub range_of : in_range low x high ≡ true → (low ≤ x) × (x ≤ high)
  range_of t = (leb-true low x (and_left (leb low x) (leb x high) t), leb-true x high (and_right (leb low x) (leb x high) t))

  pub of_range : low ≤ x → x ≤ high → in_range low x high ≡ true
  of_range h l = and_both (le-leb low x h) (le-leb x high l)

  pub range_high : high < x → in_range low x high ≡ false
  range_high h = and_no_right (leb low x) (leb x high) (lt-leb x high h)

module _ (cells : ℕ) where
  pub roomy_of : (lengths : List ℕ) → all_long cells lengths ≡ true → Roomy cells lengths
  unfolding all_long
  roomy_of [] t = tt
  roomy_of (l ∷ lengths) t = (
    leb-true cells l (and_left (leb cells l) (all_long cells lengths) t),
    roomy_of lengths (and_right (leb cells l) (all_long cells lengths) t),
  )

  pub of_roomy : (lengths : List ℕ) → Roomy cells lengths → all_long cells lengths ≡ true
  unfolding all_long
  of_roomy [] h = refl
  of_roomy (l ∷ lengths) h = and_both (le-leb cells l h.0) (of_roomy lengths h.1)

  -- as a loop finds it: one that is not enough, or each enough
  pub short_at : (lengths : List ℕ) (i : ℕ) → i < length lengths → get_or lengths i 0 < cells → false ≡ all_long cells lengths
  unfolding all_long
  short_at [] i h s = absurd (omega arith)
  short_at (l ∷ lengths) zero h s = sym (and_no_left (leb cells l) (all_long cells lengths) (lt-leb cells l s))
  short_at (l ∷ lengths) (suc i) h s =
      sym (and_no_right (leb cells l) (all_long cells lengths) (sym (short_at lengths i (omega arith) s)))

  pub long_all : (lengths : List ℕ) → ((i : ℕ) → i < length lengths → cells ≤ get_or lengths i 0) → true ≡ all_long cells lengths
  unfolding all_long
  long_all [] f = refl
  long_all (l ∷ lengths) f = sym (and_both (le-leb cells l (f 0 (omega arith))) (sym (long_all lengths (λ i h. f (suc i) (omega arith)))))
