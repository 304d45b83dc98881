-- Lists in which no tag stands twice, laid one after the other.
use Prim.Native.Nat.{ℕ, zero, suc, ◌<◌}
use native.Mathlib.Omega.{arith}
use mathlib.Core.Path.{◌≡◌, ap, ◌∙◌}
use mathlib.Core.Logic.{⊎_elim}
use mathlib.Core.Bool.{Bool, true, false, cond}
use mathlib.Core.List.Memᴰ
use mathlib.Core.List.{
  List,
  [],
  ◌∷◌,
  ◌++◌,
  append-nil,
}
use Rattle.columns.specs.Columns.{laid}
use Rattle.columns.specs.Counting.{members}
use Rattle.columns.specs.Sets.{Mem}
use Rattle.columns.proofs.Apart.{Apart}
use Rattle.columns.proofs.Laid.{laid_out}
use Rattle.columns.proofs.Members.{members_out}
use Rattle.columns.proofs.Sets.{here}

module _ {A T : Type 0} (tag : A → T) where
  apart_append : (l m : List A) → Apart tag l → Apart tag m → ((x y : A) → Mem x l → Mem y m → tag x ≡ tag y → ⊥) → Apart tag (l ++ m)
  unfolding Apart
  apart_append [] m a b h = b
  apart_append (x ∷ l) m a b h = (
    λ y k. ⊎_elim (λ (q : Mem y l). a.0 y q) (λ (q : Mem y m). h x y here q) (Memᴰ.append_cases l k),
    apart_append l m a.1 b (λ z y p q. h z y (Memᴰ.tail p) q),
  )

  pub apart_laid :
      (h : ℕ → List A) (k : ℕ) → ((j : ℕ) → j < k → Apart tag (h j)) →
      ((i j : ℕ) → i < j → j < k → (x y : A) → Mem x (h i) → Mem y (h j) → tag x ≡ tag y → ⊥)
      → Apart tag (laid h k)
  unfolding laid Apart
  apart_laid h zero a d = tt
  apart_laid h (suc k) a d =
      apart_append (laid h k) (h k) (apart_laid h k (λ j w. a j (omega (arith, w))) (λ i j v w. d i j v (omega (arith, w))))
      (a k (omega arith))
      (λ x y p q. let r = laid_out h x k p in d r.0 k r.1 (omega arith) x y r.2 q)

pub apart_members :
    {T : Type 0} (tag : ℕ → T) (f : ℕ → Bool) (n : ℕ) → ((i j : ℕ) → i < j → j < n → tag i ≡ tag j → ⊥) → Apart tag (members n f)
unfolding members Apart
apart_members tag f zero d = tt
apart_members tag f (suc n) d = go (apart_members tag f n (λ i j v w. d i j v (omega (arith, w)))) (f n)
  where
    one : Apart tag (n ∷ [])
    one = (λ y m. absurd (Memᴰ.not-nil m), tt)

    go : Apart tag (members n f) → (t : Bool) → Apart tag (members n f ++ cond t (n ∷ []) [])
    go a true =
        apart_append tag (members n f) (n ∷ []) a one
        (λ x y p q e. d x n (members_out f n x p).0 (omega arith) (e ∙ ap tag (Memᴰ.eq_of_singleton q)))
    go a false = rw (append-nil (members n f)) a
