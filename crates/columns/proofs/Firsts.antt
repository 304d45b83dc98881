-- Laws of `first` and `some`: the least number that passes is the one that has none before it.
use Prim.Native.Nat.{ℕ, ◌+◌, ◌≤◌, ◌<◌}
use native.Mathlib.Omega.{arith}
use native.Mathlib.Nat.{le_antisymm}
use borrow.Author.Tests.{ltb-true, lt-ltb}
use mathlib.Core.Bool.{Bool, true, false}
use mathlib.Core.Path.{◌≡◌, ap, ◌∙◌}
use mathlib.Core.Logic.{⊎_elim}
use Rattle.columns.specs.Counting.{first, some}
use Rattle.columns.proofs.All.{not-below, top_or-below}
use Rattle.columns.proofs.Bools.{contra, fails}
use Rattle.columns.proofs.Counting.{First, Found, first_law, first-min}

module _ (f : ℕ → Bool) where
  -- no number below k passes
  abbrev pub NoneBelow : ℕ → Type 0
  NoneBelow k = (i : ℕ) → i < k → f i ≡ false

  pub none_more : (k : ℕ) → NoneBelow k → f k ≡ false → NoneBelow (k + 1)
  none_more k r e i h = ⊎_elim (λ (q : i ≡ k). ap f q ∙ e) (λ (l : i < k). r i l) (top_or-below (omega (arith, h)))

module _ (n : ℕ) (f : ℕ → Bool) where
  pub first-is : (k : ℕ) → k ≤ n → NoneBelow f k → (k < n → f k ≡ true) → k ≡ first n f
  first-is k h r e =
      let l : First n f (first n f) = first_law n f in
      le_antisymm (not-below (λ w. contra (l.hit (omega arith)) (r (first n f) w)))
      (not-below (λ w. contra (e (omega (arith, w, l.bound))) (l.before k w)))

  pub first_hit : (k : ℕ) → k < n → NoneBelow f k → f k ≡ true → k ≡ first n f
  first_hit k h r e = first-is k (omega arith) r (λ _. e)

  pub first-none : NoneBelow f n → n ≡ first n f
  first-none r = first-is n (omega arith) r (λ w. absurd (omega arith))

  pub first_past : (k : ℕ) → n ≤ k → NoneBelow f k → k ≤ n → k ≡ first n f
  first_past k h r w = let e : k ≡ n = omega arith in e ∙ first-none (λ i l. r i (omega arith))

  pub none_of : n ≤ first n f → NoneBelow f n
  none_of h i w = (first_law n f).before i (omega arith)

  pub some_in : (i : ℕ) → i < n → f i ≡ true → some n f ≡ true
  unfolding some
  some_in i h e = lt-ltb (first n f) n (omega (arith, first-min n f i e))

  pub some_out : some n f ≡ true → Found n f
  unfolding some
  some_out e =
      let h : first n f < n = ltb-true (first n f) n e in
      record { at = first n f; below = h; passes = (first_law n f).hit h }

  pub some-none : NoneBelow f n → some n f ≡ false
  some-none r = fails (λ e. let p = some_out e in contra p.passes (r p.at p.below))

-- a search that ends below a smaller bound ends there under it too
pub first_short : (m n : ℕ) (f : ℕ → Bool) → m ≤ n → first n f ≤ m → first n f ≡ first m f
first_short m n f w h =
    let r = first_law n f in
    first-is m f (first n f) h r.before (λ l. r.hit (omega (arith, l, w)))
