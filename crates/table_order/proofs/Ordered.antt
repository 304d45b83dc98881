-- Laws of `Ordered`: how many states it has, their places, and that it admits no cycle.
use Rattle.std.specs.Prelude.{◌≡◌, ℕ, suc, ◌<◌, ◌≤◌, true, ◌⊎◌, List, [], ◌∷◌, length}
use mathlib.Core.Path.{refl, sym, ap, ◌∙◌, subst}
use mathlib.Core.Logic.{inl, inr, ⊎_elim}
use mathlib.Core.List.Memᴰ
use native.Mathlib.Nat.{not-suc-le-zero}
use native.Mathlib.Omega.{arith}
use Rattle.columns.specs.Sets.{Mem}
use Rattle.columns.specs.Counting.{many}
use Rattle.columns.proofs.All.{top_or-below, same_or_not}
use Rattle.columns.proofs.Counting.{many-le, many_nothing, many_one_more}
use Rattle.columns.proofs.Members.{many_front}
use Rattle.table.specs.Reach.{Walk, stop, along}
use Rattle.table_order.specs.Order.{is_in, behind}
use Rattle.table_order.specs.Machine.{arc, Cycle, cycle, Ordered, none, more}
use Rattle.table_order.proofs.Lists.{
  is_in_mem,
  mem_is_in,
  not-is_in,
  is_in_other,
  is_in_head,
  behind_head,
  behind_tail,
  places_add,
  other_tail,
}

pub arc_mem : (next : ℕ → List ℕ) (s t : ℕ) → arc next s t ≡ true → Mem t (next s)
unfolding arc
arc_mem next s t h = is_in_mem t (next s) h

pub mem_arc : (next : ℕ → List ℕ) (s t : ℕ) → Mem t (next s) → arc next s t ≡ true
unfolding arc
mem_arc next s t m = mem_is_in t (next s) m

module _ (next : ℕ → List ℕ) (n : ℕ) where
  pub counted : {l : List ℕ} → Ordered next n l → many n (λ s. is_in s l) ≡ length l
  counted none = many_nothing n (λ s. is_in s []) (λ s w. not-is_in s [] Memᴰ.not-nil)
  counted (more {x} {xs} f b c o) = many_one_more n x (λ s. is_in s xs) (λ s. is_in s (x ∷ xs)) b (not-is_in x xs f) (is_in_head x xs)
      (λ s g. is_in_other s x xs g) ∙ ap suc (counted o)

  pub length-le : {l : List ℕ} → Ordered next n l → length l ≤ n
  length-le {l} o = omega (arith, counted o, many-le n (λ s. is_in s l))

  pub length_full : {l : List ℕ} → Ordered next n l → ((s : ℕ) → s < n → Mem s l) → length l ≡ n
  length_full {l} o f = sym (counted o) ∙ sym (many_front (λ s. is_in s l) n n (omega arith) (λ k h. mem_is_in k l (f k h))
      (λ k a b. absurd (omega (arith, a, b))))

  pub below : {l : List ℕ} → Ordered next n l → {s : ℕ} → Mem s l → s < n
  below none m = absurd (Memᴰ.not-nil m)
  below (more {x} {xs} f b c o) m = ⊎_elim (λ e. rw e b) (λ k. below o k) (Memᴰ.cases_cons m)

  pub closed : {l : List ℕ} → Ordered next n l → {s t : ℕ} → Mem s l → Mem t (next s) → Mem t l
  closed none m k = absurd (Memᴰ.not-nil m)
  closed (more {x} {xs} f b c o) {s} {t} m k = Memᴰ.tail (⊎_elim (λ e. c t (rw e at k)) (λ j. closed o j k) (Memᴰ.cases_cons m))

  -- a successor has finished before
  pub before : {l : List ℕ} → Ordered next n l → {s t : ℕ} → Mem s l → Mem t (next s) → behind t l < behind s l
  before none m k = absurd (Memᴰ.not-nil m)
  before (more {x} {xs} f b c o) {s} {t} m k = go (λ i. before o i k) (same_or_not s x)
    where
      differs : Mem t xs → t ≡ x → ⊥
      differs i e = f (rw e at i)

      go : (Mem s xs → behind t xs < behind s xs) → (s ≡ x) ⊎ (s ≡ x → ⊥) → behind t (x ∷ xs) < behind s (x ∷ xs)
      go ih (inl e) =
          let i : Mem t xs = c t (rw e at k) in
          rw e (omega (arith, behind_head x xs, behind_tail t x xs (differs i), places_add t xs i))
      go ih (inr g) =
          let j : Mem s xs = other_tail g m in
          let i : Mem t xs = closed o j k in
          omega (arith, ih j, behind_tail s x xs g, behind_tail t x xs (differs i))

  -- places differ, and every place is taken
  pub behind_inj : {l : List ℕ} → Ordered next n l → {s t : ℕ} → Mem s l → Mem t l → behind s l ≡ behind t l → s ≡ t
  behind_inj none m k e = absurd (Memᴰ.not-nil m)
  behind_inj (more {x} {xs} f b c o) {s} {t} m k e = go (λ i j q. behind_inj o i j q) (same_or_not s x) (same_or_not t x)
    where
      less : {u : ℕ} → (u ≡ x → ⊥) → Mem u (x ∷ xs) → behind u (x ∷ xs) < length xs
      less {u} g i = omega (arith, behind_tail u x xs g, places_add u xs (other_tail g i))

      go : (Mem s xs → Mem t xs → behind s xs ≡ behind t xs → s ≡ t) → (s ≡ x) ⊎ (s ≡ x → ⊥) → (t ≡ x) ⊎ (t ≡ x → ⊥) → s ≡ t
      go ih (inl p) (inl q) = p ∙ sym q
      go ih (inl p) (inr q) = absurd (omega (arith, less q k, rw p at e, behind_head x xs))
      go ih (inr p) (inl q) = absurd (omega (arith, less p m, rw q at e, behind_head x xs))
      go ih (inr p) (inr q) = ih (other_tail p m) (other_tail q k) (sym (behind_tail s x xs p) ∙ (e ∙ behind_tail t x xs q))

  pub behind_onto : {l : List ℕ} → Ordered next n l → (k : ℕ) → k < length l → (s : ℕ) × Mem s l × (behind s l ≡ k)
  behind_onto none k h = absurd (not-suc-le-zero h)
  behind_onto (more {x} {xs} f b c o) k h = go (behind_onto o k) (top_or-below h)
    where
      Found : Type 0
      Found = (s : ℕ) × Mem s (x ∷ xs) × (behind s (x ∷ xs) ≡ k)

      go : (k < length xs → (s : ℕ) × Mem s xs × (behind s xs ≡ k)) → (k ≡ length xs) ⊎ (k < length xs) → Found
      go ih (inl e) = (x, Memᴰ.head refl, behind_head x xs ∙ sym e)
      go ih (inr l) =
          let t : (s : ℕ) × Mem s xs × (behind s xs ≡ k) = ih l in
          (t.0, Memᴰ.tail t.1, behind_tail t.0 x xs (λ e. f (subst (λ (u : ℕ). Mem u xs) e t.1)) ∙ t.2)

  -- along a walk inside, nobody finishes later
  pub walk_before : {l : List ℕ} → Ordered next n l → {s t : ℕ} → Mem s l → Walk (arc next) s t → behind t l ≤ behind s l
  walk_before o m stop = omega arith
  walk_before {l} o {s} {t} m (along {u = u} h w) =
      omega (arith, before o m (arc_mem next s u h), walk_before o (closed o m (arc_mem next s u h)) w)

  pub no_cycle : {l : List ℕ} → Ordered next n l → ((s t : ℕ) → arc next s t ≡ true → Mem s l) → Cycle next → ⊥
  no_cycle {l} o f (cycle {s} {t} h w) =
      let m : Mem s l = f s t h in
      let k : Mem t (next s) = arc_mem next s t h in
      omega (arith, before o m k, walk_before o (closed o m k) w)
