-- Laws of what a search stands on: marks, what is left, the rest of a search, pushes, and visits that can be left out.
use Rattle.std.specs.Prelude.{◌≡◌, ℕ, zero, suc, ◌+◌, ◌<◌, ◌≤◌, Bool, true, false, cond, eqb, ◌⊎◌, List, [], ◌∷◌, length}
use mathlib.Core.Path.{refl, sym, ap, ◌∙◌}
use mathlib.Core.Logic.{inl, inr, ⊎_elim}
use mathlib.Core.List.Memᴰ
use native.Mathlib.Omega.{arith}
use borrow.Author.Tests.{eq-eqb, ne_eqb}
use Rattle.columns.specs.Sets.{Mem}
use Rattle.columns.proofs.All.{same_or_not}
use Rattle.columns.proofs.Bools.{contra}
use Rattle.columns.proofs.Sums.{sum_pick, sum_cong, sum-add}
use Rattle.table_order.specs.Order.{is_in, behind, visit, last_first}
use Rattle.table_order.specs.Machine.{push_all, keep, new_in, mark_for, left, rest}
use Rattle.table_order.proofs.Lists.{mem_is_in, not-is_in, is_in_other, mem?, behind_tail}
use Rattle.table_order.proofs.Visits.{visit_old}

-- ---- marks
pub mark_done : (gray done : List ℕ) (s : ℕ) → Mem s done → mark_for gray done s ≡ 2 + behind s done
unfolding mark_for
mark_done gray done s m = rw (mem_is_in s done m)

pub mark_gray : (gray done : List ℕ) (s : ℕ) → (Mem s done → ⊥) → Mem s gray → mark_for gray done s ≡ 1
unfolding mark_for
mark_gray gray done s f m = rw (not-is_in s done f, mem_is_in s gray m)

pub mark_new : (gray done : List ℕ) (s : ℕ) → (Mem s done → ⊥) → (Mem s gray → ⊥) → mark_for gray done s ≡ 0
unfolding mark_for
mark_new gray done s f g = rw (not-is_in s done f, not-is_in s gray g)

-- what a mark tells
pub mark_0 : (gray done : List ℕ) (s : ℕ) → mark_for gray done s ≡ 0 → (Mem s done → ⊥) × (Mem s gray → ⊥)
mark_0 gray done s e = (f, g)
  where
    f : Mem s done → ⊥
    f m = omega (arith, mark_done gray done s m)

    g : Mem s gray → ⊥
    g m = ⊎_elim f (λ h. omega (arith, mark_gray gray done s h m)) (mem? s done)

pub mark_1 : (gray done : List ℕ) (s : ℕ) → mark_for gray done s ≡ 1 → (Mem s done → ⊥) × Mem s gray
mark_1 gray done s e = (f, ⊎_elim (λ m. m) (λ h. absurd (omega (arith, mark_new gray done s f h))) (mem? s gray))
  where
    f : Mem s done → ⊥
    f m = omega (arith, mark_done gray done s m)

pub mark_2 : (gray done : List ℕ) (s : ℕ) → (mark_for gray done s ≡ 0 → ⊥) → (mark_for gray done s ≡ 1 → ⊥) → Mem s done
mark_2 gray done s f g =
    ⊎_elim (λ m. m) (λ h. absurd (⊎_elim (λ m. g (mark_gray gray done s h m)) (λ k. f (mark_new gray done s h k)) (mem? s gray)))
    (mem? s done)

-- a state that is entered, and one that is finished
pub mark_enter : (gray done : List ℕ) (x s : ℕ) → (s ≡ x → ⊥) → mark_for (x ∷ gray) done s ≡ mark_for gray done s
unfolding mark_for
mark_enter gray done x s f = rw (is_in_other s x gray f)

pub mark_finish : (gray done : List ℕ) (x s : ℕ) → (s ≡ x → ⊥) → mark_for gray (x ∷ done) s ≡ mark_for (x ∷ gray) done s
unfolding mark_for
mark_finish gray done x s f = rw (is_in_other s x done f, is_in_other s x gray f, behind_tail s x done f)

-- ---- left
-- the weight of a state, and 0 once it is visited
abbrev pub weight : (ℕ → ℕ) → List ℕ → ℕ → ℕ
weight w marks s = cond (new_in marks s) (w s) 0

module _ (w : ℕ → ℕ) where
  pub left_cong : (a b : List ℕ) (n : ℕ) → ((s : ℕ) → s < n → new_in a s ≡ new_in b s) → left w a n ≡ left w b n
  unfolding left
  left_cong a b n e = sum_cong (weight w a) (weight w b) n (λ s h. ap (λ (t : Bool). cond t (w s) 0) (e s h))

  -- a state less
  pub left_less : (a b : List ℕ) (x n : ℕ) → x < n → new_in a x ≡ true → new_in b x ≡ false → ((s : ℕ) → (s ≡ x → ⊥) → new_in b s ≡ new_in a s)
      → left w b n + w x ≡ left w a n
  unfolding left
  left_less a b x n h p q e =
      omega (
        arith,
        sum_cong (weight w a) (λ s. weight w b s + cond (eqb x s) (w s) 0) n (λ s l. one s (same_or_not s x)),
        sum-add (weight w b) (λ s. cond (eqb x s) (w s) 0) n,
        sum_pick x n w h,
      )
    where
      one : (s : ℕ) → (s ≡ x) ⊎ (s ≡ x → ⊥) → weight w a s ≡ weight w b s + cond (eqb x s) (w s) 0
      one s (inl i) = rw (i, p, q, eq-eqb x x refl) (omega arith)
      one s (inr f) = rw (e s f, ne_eqb x s (λ j. f (sym j))) (omega arith)

-- ---- rest
module _ (v : ℕ → List ℕ → List ℕ) where
  pub rest_wait : (gray st d : List ℕ) (x : ℕ) → (Mem x gray → ⊥) → rest v gray (x ∷ st) d ≡ rest v gray st (v x d)
  unfolding rest
  rest_wait [] st d x f = refl
  rest_wait (g ∷ gs) st d x f = rw (ne_eqb x g (λ e. f (Memᴰ.head e)))

  pub rest_end : (gray st d : List ℕ) (x : ℕ) → rest v (x ∷ gray) (x ∷ st) d ≡ rest v gray st (x ∷ d)
  unfolding rest
  rest_end gray st d x = rw (eq-eqb x x refl)

  pub rest_push : (cs gray st d : List ℕ) → ((c : ℕ) → Mem c cs → Mem c gray → ⊥) →
      rest v gray (push_all cs st) d ≡ rest v gray st (last_first v cs d)
  unfolding push_all last_first
  rest_push [] gray st d f = refl
  rest_push (c ∷ cs) gray st d f = rest_push cs gray (c ∷ st) d (λ t m. f t (Memᴰ.tail m)) ∙
      rest_wait gray st (last_first v cs d) c (f c (Memᴰ.head refl))

-- ---- keep
module _ (p : ℕ → Bool) where
  pub keep_mem : (l : List ℕ) (t : ℕ) → Mem t (keep p l) → Mem t l × (p t ≡ true)
  unfolding keep
  keep_mem [] t m = absurd (Memᴰ.not-nil m)
  keep_mem (x ∷ xs) t m = go (keep_mem xs t) (p x) refl m
    where
      go : (Mem t (keep p xs) → Mem t xs × (p t ≡ true)) → (b : Bool) → p x ≡ b → Mem t (cond b (x ∷ keep p xs) (keep p xs)) →
          Mem t (x ∷ xs) × (p t ≡ true)
      go ih true e m = ⊎_elim (λ q. (Memᴰ.head q, rw q e)) (λ k. (Memᴰ.tail (ih k).0, (ih k).1)) (Memᴰ.cases_cons m)
      go ih false e m = (Memᴰ.tail (ih m).0, (ih m).1)

  pub mem_keep : (l : List ℕ) (t : ℕ) → Mem t l → p t ≡ true → Mem t (keep p l)
  unfolding keep
  mem_keep [] t m h = absurd (Memᴰ.not-nil m)
  mem_keep (x ∷ xs) t m h = go (λ k. mem_keep xs t k h) (p x) refl (Memᴰ.cases_cons m)
    where
      go : (Mem t xs → Mem t (keep p xs)) → (b : Bool) → p x ≡ b → (t ≡ x) ⊎ Mem t xs → Mem t (cond b (x ∷ keep p xs) (keep p xs))
      go ih true e (inl q) = Memᴰ.head q
      go ih true e (inr k) = Memᴰ.tail (ih k)
      go ih false e (inl q) = absurd (contra h (rw q e))
      go ih false e (inr k) = ih k

  pub keep-length : (l : List ℕ) → length (keep p l) ≤ length l
  unfolding keep
  keep-length [] = omega arith
  keep-length (x ∷ xs) = go (keep-length xs) (p x)
    where
      go : length (keep p xs) ≤ length xs → (b : Bool) → length (cond b (x ∷ keep p xs) (keep p xs)) ≤ suc (length xs)
      go ih true = omega arith
      go ih false = omega arith

pub push_length : (cs st : List ℕ) → length (push_all cs st) ≡ length cs + length st
unfolding push_all
push_length [] st = omega arith
push_length (c ∷ cs) st = omega (arith, push_length cs (c ∷ st))

pub push_old : (cs st : List ℕ) (t : ℕ) → Mem t st → Mem t (push_all cs st)
unfolding push_all
push_old [] st t m = m
push_old (c ∷ cs) st t m = push_old cs (c ∷ st) t (Memᴰ.tail m)

-- a visit forgets nothing
module _ (next : ℕ → List ℕ) where
  Keeps : (ℕ → List ℕ → List ℕ) → Type 0
  Keeps v = (s : ℕ) (d : List ℕ) (u : ℕ) → Mem u d → Mem u (v s d)

  last_first_keeps : (v : ℕ → List ℕ → List ℕ) → Keeps v → (l d : List ℕ) (u : ℕ) → Mem u d → Mem u (last_first v l d)
  unfolding last_first Keeps
  last_first_keeps v f [] d u m = m
  last_first_keeps v f (t ∷ ts) d u m = f t (last_first v ts d) u (last_first_keeps v f ts d u m)

  visit_keeps : (f : ℕ) → Keeps (visit next f)
  unfolding visit Keeps
  visit_keeps zero s d u m = m
  visit_keeps (suc f) s d u m = go (visit_keeps f) (is_in s d)
    where
      go : Keeps (visit next f) → (b : Bool) → Mem u (cond b d (s ∷ last_first (visit next f) (next s) d))
      go ih true = m
      go ih false = Memᴰ.tail (last_first_keeps (visit next f) ih (next s) d u m)

  -- visits of finished states can be left out
  pub skip : (f : ℕ) (p : ℕ → Bool) (l d : List ℕ) → ((t : ℕ) → Mem t l → p t ≡ false → Mem t d) →
      last_first (visit next f) (keep p l) d ≡ last_first (visit next f) l d
  unfolding last_first keep
  skip f p [] d e = refl
  skip f p (t ∷ ts) d e = go (skip f p ts d (λ u m. e u (Memᴰ.tail m))) (p t) refl
    where
      go : last_first (visit next f) (keep p ts) d ≡ last_first (visit next f) ts d → (b : Bool) → p t ≡ b
          → last_first (visit next f) (cond b (t ∷ keep p ts) (keep p ts)) d ≡ visit next f t (last_first (visit next f) ts d)
      go ih true q = ap (λ (x : List ℕ). visit next f t x) ih
      go ih false q = ih ∙ sym (visit_old next f t (last_first (visit next f) ts d)
          (mem_is_in t _ (last_first_keeps (visit next f) (visit_keeps f) ts d t (e t (Memᴰ.head refl) q))))
