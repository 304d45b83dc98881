-- Laws of `stores`: what each cell holds after a loop that stores.
use Prim.Native.Nat.{ℕ, zero, suc, ◌+◌, ◌<◌}
use native.Mathlib.Omega.{arith}
use native.Mathlib.Numerals.{add-one}
use mathlib.Core.Bool.{Bool, true, false, cond}
use mathlib.Core.Path.{◌≡◌, refl, ap, sym, ◌∙◌}
use mathlib.Core.Logic.{⊎_elim}
use mathlib.Core.List.{List}
use lib.ListN.{length, get_or, set, length-set}
use lib.Seq.{get_or-set_same, get_or-set_other}
use Rattle.columns.specs.Counting.{stores}
use Rattle.columns.proofs.Bools.{contra}
use Rattle.columns.proofs.All.{same_or_not, top_or-below}

module _ (f : ℕ → Bool) (i v : ℕ → ℕ) where
  pub stores-none : (l : List ℕ) → l ≡ stores f i v 0 l
  unfolding stores
  stores-none l = refl

  pub stores-suc : (n : ℕ) (l : List ℕ) → stores f i v (n + 1) l ≡ cond (f n) (set (stores f i v n l) (i n) (v n)) (stores f i v n l)
  unfolding stores
  stores-suc n l = rw add-one

  pub stores_more : (n : ℕ) (l x : List ℕ) → f n ≡ true → x ≡ stores f i v n l → set x (i n) (v n) ≡ stores f i v (n + 1) l
  stores_more n l x t e = rw (stores-suc n l, t, e)

  pub length-stores : (n : ℕ) (l : List ℕ) → length (stores f i v n l) ≡ length l
  unfolding stores
  length-stores zero l = refl
  length-stores (suc n) l = go (length-stores n l) (f n)
    where
      go : length (stores f i v n l) ≡ length l → (t : Bool) →
          length (cond t (set (stores f i v n l) (i n) (v n)) (stores f i v n l)) ≡ length l
      go h true = length-set (stores f i v n l) (i n) (v n) ∙ h
      go h false = h

  pub stores_idle : (n : ℕ) (l : List ℕ) → ((s : ℕ) → s < n → f s ≡ false) → l ≡ stores f i v n l
  unfolding stores
  stores_idle zero l h = refl
  stores_idle (suc n) l h = rw (h n (omega arith)) (stores_idle n l (λ s w. h s (omega arith)))

  -- a cell that nothing is stored in
  pub stores_miss :
      (n : ℕ) (l : List ℕ) (k : ℕ) → ((s : ℕ) → s < n → f s ≡ true → i s ≡ k → ⊥) → get_or (stores f i v n l) k 0 ≡ get_or l k 0
  unfolding stores
  stores_miss zero l k h = refl
  stores_miss (suc n) l k h = go (stores_miss n l k (λ s w. h s (omega arith))) (f n) refl
    where
      go : get_or (stores f i v n l) k 0 ≡ get_or l k 0
          → (t : Bool) → f n ≡ t → get_or (cond t (set (stores f i v n l) (i n) (v n)) (stores f i v n l)) k 0 ≡ get_or l k 0
      go ih true e = get_or-set_other (stores f i v n l) (i n) k (v n) 0 (λ q. h n (omega arith) e (sym q)) ∙ ih
      go ih false e = ih

  -- a cell that something is stored in, and nothing but x
  pub stores_hit :
      (n : ℕ) (l : List ℕ) (k x s : ℕ) → k < length l → s < n → f s ≡ true → i s ≡ k
      → ((t : ℕ) → t < n → f t ≡ true → i t ≡ k → v t ≡ x) → get_or (stores f i v n l) k 0 ≡ x
  unfolding stores
  stores_hit zero l k x s hk w fs is h = absurd (omega arith)
  stores_hit (suc n) l k x s hk w fs is h =
      go (λ (m : s < n). stores_hit n l k x s hk m fs is (λ t wt. h t (omega arith))) (f n) refl
    where
      go : (s < n → get_or (stores f i v n l) k 0 ≡ x)
          → (t : Bool) → f n ≡ t → get_or (cond t (set (stores f i v n l) (i n) (v n)) (stores f i v n l)) k 0 ≡ x
      go rest true e =
          ⊎_elim
          (λ (q : i n ≡ k).
          ap (λ (y : ℕ). get_or (set (stores f i v n l) y (v n)) k 0) q
          ∙ get_or-set_same (stores f i v n l) k (v n) 0 (omega (arith, length-stores n l))
          ∙ h n (omega arith) e q)
          (λ (m : i n ≡ k → ⊥).
          get_or-set_other (stores f i v n l) (i n) k (v n) 0 (λ q. m (sym q))
          ∙ ⊎_elim (λ (q : s ≡ n). absurd (m (ap i (sym q) ∙ is))) (λ (z : s < n). rest z) (top_or-below w))
          (same_or_not (i n) k)
      go rest false e =
          ⊎_elim (λ (q : s ≡ n). absurd (contra fs (ap f q ∙ e))) (λ (z : s < n). rest z) (top_or-below w)

pub stores_cong :
    (f : ℕ → Bool) (i i' v v' : ℕ → ℕ) (n : ℕ) (l : List ℕ) → ((s : ℕ) → s < n → f s ≡ true → (i s ≡ i' s) × (v s ≡ v' s))
    → stores f i v n l ≡ stores f i' v' n l
unfolding stores
stores_cong f i i' v v' zero l h = refl
stores_cong f i i' v v' (suc n) l h = go (stores_cong f i i' v v' n l (λ s w. h s (omega arith))) (f n) refl
  where
    go : stores f i v n l ≡ stores f i' v' n l → (t : Bool) → f n ≡ t
        → cond t (set (stores f i v n l) (i n) (v n)) (stores f i v n l) ≡ cond t (set (stores f i' v' n l) (i' n) (v' n))
        (stores f i' v' n l)
    go ih true e = let q = h n (omega arith) e in rw (ih, q.0, q.1)
    go ih false e = ih
