-- Lists laid one after the other: how long they are together, who is a member, and where each lies.
use Prim.Native.Nat.{ℕ, zero, suc, ◌+◌, ◌≤◌, ◌<◌, ◌*◌}
use native.Mathlib.Numerals.{add-one}
use native.Mathlib.Omega.{arith}
use mathlib.Core.Path.{◌≡◌, refl, ap, ap₂, ◌∙◌, sym}
use mathlib.Core.Logic.{⊎_elim}
use mathlib.Core.List.Memᴰ
use mathlib.Core.List.{
  List,
  [],
  ◌++◌,
  append-nil,
  append_assoc,
}
use lib.ListN.{length, length-append}
use Rattle.columns.specs.Columns.{laid, listed}
use Rattle.columns.specs.Counting.{sum}
use Rattle.columns.specs.Sets.{Mem}
use Rattle.columns.proofs.All.{top_or-below, lt-or-le}
use Rattle.columns.proofs.Lists.{listed-left, listed_right}

module _ {A : Type 0} (h : ℕ → List A) where
  pub laid_none : laid h 0 ≡ []
  unfolding laid
  laid_none = refl

  pub laid_more : (k : ℕ) → laid h (k + 1) ≡ laid h k ++ h k
  unfolding laid
  laid_more k = rw add-one

  pub laid_cong : (g : ℕ → List A) (k : ℕ) → ((j : ℕ) → j < k → h j ≡ g j) → laid h k ≡ laid g k
  unfolding laid
  laid_cong g zero e = refl
  laid_cong g (suc k) e = ap₂ (λ x y. x ++ y) (laid_cong g k (λ j w. e j (omega (arith, w)))) (e k (omega arith))

  pub length-laid : (k : ℕ) → length (laid h k) ≡ sum (λ j. length (h j)) k
  unfolding laid sum
  length-laid zero = refl
  length-laid (suc k) = length-append (laid h k) (h k) ∙ ap (λ (n : ℕ). n + length (h k)) (length-laid k)

  pub laid_up : (j k : ℕ) → j < k → length (laid h j) + length (h j) ≤ length (laid h k)
  unfolding laid
  laid_up j zero l = absurd (omega arith)
  laid_up j (suc k) l =
      ⊎_elim (λ (e : j ≡ k). rw e (omega (arith, length-append (laid h k) (h k))))
      (λ (m : j < k). omega (arith, laid_up j k m, length-append (laid h k) (h k))) (top_or-below l)

  pub laid_in : (p : A) (j k : ℕ) → j < k → Mem p (h j) → Mem p (laid h k)
  unfolding laid
  laid_in p j zero l m = absurd (omega arith)
  laid_in p j (suc k) l m =
      ⊎_elim (λ (e : j ≡ k). Memᴰ.append_right (laid h k) (rw e at m)) (λ (w : j < k). Memᴰ.append_left (h k) (laid_in p j k w m))
      (top_or-below l)

  pub laid_out : (p : A) (k : ℕ) → Mem p (laid h k) → (j : ℕ) × (j < k) × Mem p (h j)
  unfolding laid
  laid_out p zero m = absurd (Memᴰ.not-nil m)
  laid_out p (suc k) m =
      ⊎_elim (λ (w : Mem p (laid h k)). let r = laid_out p k w in (r.0, omega (arith, r.1), r.2))
      (λ (w : Mem p (h k)). (k, omega arith, w))
      (Memᴰ.append_cases (laid h k) m)

-- ---- of lists laid by index: those before, and each by itself
module _ {A : Type 0} (h : ℕ → List A) (f : ℕ → A) where
  laid-before : (n : ℕ) → listed (length (laid h n)) f ≡ laid h n → (s : ℕ) → s ≤ n → listed (length (laid h s)) f ≡ laid h s
  unfolding laid
  laid-before zero e s w = let z : s ≡ 0 = omega arith in rw z e
  laid-before (suc n) e s w =
      ⊎_elim (λ (l : s < suc n). laid-before n (listed-left (laid h n) (h n) f e) s (omega (arith, l)))
      (λ (l : suc n ≤ s). let z : s ≡ suc n = omega (arith, l, w) in rw z e) (lt-or-le s (suc n))

  pub laid_each :
      (n : ℕ) → listed (length (laid h n)) f ≡ laid h n → (s : ℕ) → s < n
      → listed (length (h s)) (λ k. f (length (laid h s) + k)) ≡ h s
  unfolding laid
  laid_each n e s w = listed_right (laid h s) (h s) f (laid-before n e (suc s) w)

-- one of several lists that are laid one after the other
pub laid_at : (h : ℕ → List ℕ) (i m : ℕ) → i < m → (r : List ℕ) × (laid h m ≡ laid h i ++ (h i ++ r))
unfolding laid
laid_at h i zero l = absurd (omega arith)
laid_at h i (suc m) l =
    ⊎_elim
    (λ (e : i ≡ m). ([], ap (λ (k : ℕ). laid h k ++ h k) (sym e) ∙ ap (λ (x : List ℕ). laid h i ++ x) (sym (append-nil (h i)))))
    (λ (w : i < m).
    let q = laid_at h i m w in (
      q.0 ++ h m,
      ap (λ (x : List ℕ). x ++ h m) q.1
          ∙ append_assoc (laid h i) (h i ++ q.0) (h m)
          ∙ ap (λ (x : List ℕ). laid h i ++ x) (append_assoc (h i) q.0 (h m)),
    ))
    (top_or-below l)

pub length_even : (h : ℕ → List ℕ) (w k : ℕ) → ((j : ℕ) → length (h j) ≡ w) → length (laid h k) ≡ w * k
unfolding laid
length_even h w zero e = omega arith
length_even h w (suc k) e = length-append (laid h k) (h k) ∙ omega (arith, length_even h w k e, e k)
