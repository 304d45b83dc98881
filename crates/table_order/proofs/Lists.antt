-- Lists of numbers: membership as a test, places, visits in order; and a test of some number below a bound.
use Rattle.std.specs.Prelude.{◌≡◌, ℕ, suc, ◌+◌, true, false, eqb, ◌⊎◌, List, [], ◌∷◌, length}
use mathlib.Core.Path.{refl}
use mathlib.Core.Logic.{inl, inr, ⊎_elim}
use mathlib.Core.List.Memᴰ
use native.Mathlib.Omega.{arith}
use borrow.Author.Tests.{eqb-true, eq-eqb, ne_eqb}
use Rattle.columns.specs.Sets.{Mem}
use Rattle.columns.proofs.All.{same_or_not}
use Rattle.columns.proofs.Bools.{cases, contra, fails}
use Rattle.columns.proofs.Sets.{among_in, among_out}
use Rattle.table_order.specs.Order.{is_in, behind, ahead, last_first}

pub is_in_mem : (s : ℕ) (l : List ℕ) → is_in s l ≡ true → Mem s l
unfolding is_in
is_in_mem s l h = among_out eqb eqb-true s l h

pub mem_is_in : (s : ℕ) (l : List ℕ) → Mem s l → is_in s l ≡ true
unfolding is_in
mem_is_in s l m = among_in eqb (λ x. eq-eqb x x refl) s l m

pub not-is_in : (s : ℕ) (l : List ℕ) → (Mem s l → ⊥) → is_in s l ≡ false
not-is_in s l f = fails (λ e. f (is_in_mem s l e))

pub is_in-not : (s : ℕ) (l : List ℕ) → is_in s l ≡ false → Mem s l → ⊥
is_in-not s l e m = contra (mem_is_in s l m) e

pub mem? : (s : ℕ) (l : List ℕ) → Mem s l ⊎ (Mem s l → ⊥)
mem? s l = ⊎_elim (λ e. inl (is_in_mem s l e)) (λ e. inr (is_in-not s l e)) (cases (is_in s l))

pub is_in_other : (s x : ℕ) (l : List ℕ) → (s ≡ x → ⊥) → is_in s (x ∷ l) ≡ is_in s l
unfolding is_in
is_in_other s x l f = rw (ne_eqb s x f)

pub is_in_head : (x : ℕ) (l : List ℕ) → is_in x (x ∷ l) ≡ true
is_in_head x l = mem_is_in x (x ∷ l) (Memᴰ.head refl)

pub other_tail : {s x : ℕ} {l : List ℕ} → (s ≡ x → ⊥) → Mem s (x ∷ l) → Mem s l
other_tail f m = ⊎_elim (λ e. absurd (f e)) (λ k. k) (Memᴰ.cases_cons m)

-- ---- behind and ahead
pub behind_head : (x : ℕ) (l : List ℕ) → behind x (x ∷ l) ≡ length l
unfolding behind
behind_head x l = rw (eq-eqb x x refl)

pub behind_tail : (s x : ℕ) (l : List ℕ) → (s ≡ x → ⊥) → behind s (x ∷ l) ≡ behind s l
unfolding behind
behind_tail s x l f = rw (ne_eqb s x f)

ahead_head : (x : ℕ) (l : List ℕ) → ahead x (x ∷ l) ≡ 0
unfolding ahead
ahead_head x l = rw (eq-eqb x x refl)

ahead_tail : (s x : ℕ) (l : List ℕ) → (s ≡ x → ⊥) → ahead s (x ∷ l) ≡ suc (ahead s l)
unfolding ahead
ahead_tail s x l f = rw (ne_eqb s x f)

-- all others come before or behind a member
pub places_add : (s : ℕ) (l : List ℕ) → Mem s l → suc (behind s l + ahead s l) ≡ length l
places_add s [] m = absurd (Memᴰ.not-nil m)
places_add s (x ∷ xs) m = go (places_add s xs) (same_or_not s x)
  where
    go : (Mem s xs → suc (behind s xs + ahead s xs) ≡ length xs) → (s ≡ x) ⊎ (s ≡ x → ⊥) →
        suc (behind s (x ∷ xs) + ahead s (x ∷ xs)) ≡ suc (length xs)
    go ih (inl e) = rw e (omega (arith, behind_head x xs, ahead_head x xs))
    go ih (inr f) = omega (arith, behind_tail s x xs f, ahead_tail s x xs f, ih (other_tail f m))

-- ---- last_first
pub last_first_cong : (v w : ℕ → List ℕ → List ℕ) (l d : List ℕ) → ((t : ℕ) → Mem t l → (d : List ℕ) → v t d ≡ w t d) →
    last_first v l d ≡ last_first w l d
unfolding last_first
last_first_cong v w [] d e = refl
last_first_cong v w (t ∷ ts) d e = rw (last_first_cong v w ts d (λ u m. e u (Memᴰ.tail m)))
    (e t (Memᴰ.head refl) (last_first w ts d))
