-- Laws of `all`: the steps of a loop that tests every number below a bound; and the small facts on numbers that inductions use.
use Prim.Native.Nat.{ℕ, zero, suc, ◌+◌, ◌≤◌, ◌<◌}
use native.Mathlib.Omega.{arith}
use native.Mathlib.Nat.{eq-or-lt_of_le, le_of_suc-le-suc}
use native.Mathlib.Numerals.{add-one}
use mathlib.Core.Bool.{Bool, true, false, ◌&&◌}
use mathlib.Core.Path.{◌≡◌, refl, ap, sym, ◌∙◌}
use mathlib.Core.Logic.{◌⊎◌, inl, inr, ⊎_elim}
use Rattle.columns.specs.Counting.{all}
use Rattle.columns.proofs.Bools.{and_left, and_right, and_both, and_no_left, and_no_right}

-- a number below suc n is n or below n
pub top_or-below : {i n : ℕ} → i < suc n → (i ≡ n) ⊎ (i < n)
top_or-below h = eq-or-lt_of_le (le_of_suc-le-suc h)

pub same_or_not : (a b : ℕ) → (a ≡ b) ⊎ (a ≡ b → ⊥)
same_or_not zero zero = inl refl
same_or_not zero (suc b) = inr (λ e. omega arith)
same_or_not (suc a) zero = inr (λ e. omega arith)
same_or_not (suc a) (suc b) = ⊎_elim (λ e. inl (ap suc e)) (λ n. inr (λ e. n (omega arith))) (same_or_not a b)

pub lt-or-le : (a b : ℕ) → (a < b) ⊎ (b ≤ a)
lt-or-le a zero = inr (omega arith)
lt-or-le zero (suc b) = inl (omega arith)
lt-or-le (suc a) (suc b) = ⊎_elim (λ h. inl (omega arith)) (λ h. inr (omega arith)) (lt-or-le a b)

pub not-below : {k m : ℕ} → (k < m → ⊥) → m ≤ k
not-below f = omega arith

module _ (f : ℕ → Bool) where
  pub all_none : all 0 f ≡ true
  unfolding all
  all_none = refl

  pub all-suc : (n : ℕ) → all (n + 1) f ≡ (all n f && f n)
  unfolding all
  all-suc n = rw add-one

  pub all_more : (n : ℕ) → all n f ≡ true → f n ≡ true → all (n + 1) f ≡ true
  all_more n p q = all-suc n ∙ and_both p q

  pub all_fails : (n i : ℕ) → i < n → f i ≡ false → all n f ≡ false
  unfolding all
  all_fails zero i h p = absurd (omega arith)
  all_fails (suc n) i h p =
      ⊎_elim (λ e. and_no_right (all n f) (f n) (ap f (sym e) ∙ p)) (λ l. and_no_left (all n f) (f n) (all_fails n i l p))
      (top_or-below h)

  pub all_at : (n i : ℕ) → all n f ≡ true → i < n → f i ≡ true
  unfolding all
  all_at zero i p h = absurd (omega arith)
  all_at (suc n) i p h =
      ⊎_elim (λ e. ap f e ∙ and_right (all n f) (f n) p) (λ l. all_at n i (and_left (all n f) (f n) p) l) (top_or-below h)

  pub all_of : (n : ℕ) → ((i : ℕ) → i < n → f i ≡ true) → all n f ≡ true
  unfolding all
  all_of zero h = refl
  all_of (suc n) h = and_both (all_of n (λ i l. h i (omega arith))) (h n (omega arith))

  pub all_done : (k n : ℕ) → all k f ≡ true → k ≡ n → true ≡ all n f
  all_done k n p e = sym p ∙ ap (λ (m : ℕ). all m f) e
