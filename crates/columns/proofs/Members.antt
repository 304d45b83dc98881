-- Laws of `members`: the numbers below a bound that pass, ascending; a list of just these, sorted, is that list; and what is
-- counted or stored along it is what is counted or stored over all numbers with the test.
use Prim.Native.Nat.{ℕ, zero, suc, ◌+◌, ◌≤◌, ◌<◌}
use native.Mathlib.Nat.{eq-or-lt_of_le}
use native.Mathlib.Numerals.{add-one}
use native.Mathlib.Omega.{arith}
use borrow.Author.Tests.{lt-ltb}
use mathlib.Core.Bool.{Bool, true, false, cond, ◌&&◌}
use mathlib.Core.Path.{◌≡◌, refl, ap, sym, ◌∙◌}
use mathlib.Core.Logic.{⊎_elim}
use mathlib.Core.List.Memᴰ
use mathlib.Core.List.{
  List,
  [],
  ◌∷◌,
  ◌++◌,
  append-nil,
}
use lib.Dec.{ltb}
use lib.ListN.{length, get_or, set, length-append, get_or-append}
use lib.Seq.{get_or_at}
use Rattle.columns.specs.Counting.{many, stores, members}
use Rattle.columns.specs.Sets.{Mem, Ascending}
use Rattle.columns.specs.Sort.{sort}
use Rattle.columns.proofs.All.{top_or-below}
use Rattle.columns.proofs.Apart.{Apart, sort_ascending}
use Rattle.columns.proofs.Bools.{contra}
use Rattle.columns.proofs.Counting.{many-all, many_strict}
use Rattle.columns.proofs.Facts.{sort_in, sort_out}
use Rattle.columns.proofs.Orders.{ltb_order}
use Rattle.columns.proofs.Risings.{snoc_ascending}
use Rattle.columns.proofs.Sets.{here, ascending_unique}

-- ---- the members
module _ (f : ℕ → Bool) where
  pub members_hit : (n : ℕ) → f n ≡ true → members (n + 1) f ≡ members n f ++ (n ∷ [])
  unfolding members
  members_hit n h = rw (add-one, h)

  pub members_miss : (n : ℕ) → f n ≡ false → members (n + 1) f ≡ members n f
  unfolding members
  members_miss n h = rw (add-one, h) (append-nil (members n f))

  -- none passes from r on
  pub members-rest : (n r : ℕ) → r ≤ n → ((i : ℕ) → r ≤ i → i < n → f i ≡ false) → members n f ≡ members r f
  members-rest zero r h g = let e : 0 ≡ r = omega arith in ap (λ (k : ℕ). members k f) e
  members-rest (suc n) r h g =
      ⊎_elim (λ (e : r ≡ suc n). ap (λ (k : ℕ). members k f) (sym e))
      (λ (l : r < suc n).
      ap (λ (k : ℕ). members k f) (sym (add-one n)) ∙ members_miss n (g n (omega arith) (omega arith))
      ∙ members-rest n r (omega arith) (λ i a b. g i a (omega arith)))
      (eq-or-lt_of_le h)

  pub members-none : (n : ℕ) → ((i : ℕ) → i < n → f i ≡ false) → members n f ≡ []
  unfolding members
  members-none n h = members-rest n 0 (omega arith) (λ i a b. h i b)

  pub length-members : (n : ℕ) → length (members n f) ≡ many n f
  unfolding members many
  length-members zero = refl
  length-members (suc n) = go (length-members n) (f n)
    where
      go : length (members n f) ≡ many n f → (t : Bool) → length (members n f ++ cond t (n ∷ []) []) ≡ many n f + cond t 1 0
      go h true = length-append (members n f) (n ∷ []) ∙ omega (arith, h)
      go h false = length-append (members n f) [] ∙ omega (arith, h)

  pub many-rest : (n r : ℕ) → r ≤ n → ((i : ℕ) → r ≤ i → i < n → f i ≡ false) → many n f ≡ many r f
  many-rest n r h g = sym (length-members n) ∙ ap length (members-rest n r h g) ∙ length-members r

  -- just the numbers below r pass
  pub many_front : (n r : ℕ) → r ≤ n → ((i : ℕ) → i < r → f i ≡ true) → ((i : ℕ) → r ≤ i → i < n → f i ≡ false) → r ≡ many n f
  many_front n r h y g = sym (many-rest n r h g ∙ many-all r f y)

  -- a member stands at its rank
  pub members_at : (n s : ℕ) → s < n → f s ≡ true → get_or (members n f) (many s f) 0 ≡ s
  unfolding members
  members_at zero s h e = absurd (omega arith)
  members_at (suc n) s h e = go (members_at n s) (f n) refl
    where
      low : (t : List ℕ) → s < n → get_or (members n f) (many s f) 0 ≡ s → get_or (members n f ++ t) (many s f) 0 ≡ s
      low t l q =
          get_or-append (members n f) t 0 (many s f)
          (omega (arith, length-members n, many_strict s n f l e)) ∙ q

      go : (s < n → f s ≡ true → get_or (members n f) (many s f) 0 ≡ s) → (t : Bool) → f n ≡ t
          → get_or (members n f ++ cond t (n ∷ []) []) (many s f) 0 ≡ s
      go ih true q =
          ⊎_elim (λ (w : s ≡ n). rw w (get_or_at (members n f) n [] 0 (many n f) (length-members n))) (λ (w : s < n). low (n ∷ []) w (ih w e))
          (top_or-below h)
      go ih false q = ⊎_elim (λ (w : s ≡ n). absurd (contra e (ap f w ∙ q))) (λ (w : s < n). low [] w (ih w e)) (top_or-below h)

  pub members_in : (n s : ℕ) → s < n → f s ≡ true → Mem s (members n f)
  unfolding members
  members_in zero s h e = absurd (omega arith)
  members_in (suc n) s h e = go (members_in n s) (f n) refl
    where
      go : (s < n → f s ≡ true → Mem s (members n f)) → (t : Bool) → f n ≡ t → Mem s (members n f ++ cond t (n ∷ []) [])
      go ih true q =
          ⊎_elim (λ (w : s ≡ n). rw w (Memᴰ.append_right (members n f) here)) (λ (w : s < n). Memᴰ.append_left (n ∷ []) (ih w e))
          (top_or-below h)
      go ih false q =
          rw (append-nil (members n f)) (⊎_elim (λ (w : s ≡ n). absurd (contra e (ap f w ∙ q))) (λ (w : s < n). ih w e) (top_or-below h))

  pub members_out : (n s : ℕ) → Mem s (members n f) → (s < n) × (f s ≡ true)
  unfolding members
  members_out zero s m = absurd (Memᴰ.not-nil m)
  members_out (suc n) s m = go (members_out n s) (f n) refl m
    where
      go : (Mem s (members n f) → (s < n) × (f s ≡ true)) → (t : Bool) → f n ≡ t → Mem s (members n f ++ cond t (n ∷ []) [])
          → (s < suc n) × (f s ≡ true)
      go ih true q m =
          ⊎_elim (λ (k : Mem s (members n f)). let r = ih k in (omega (arith, r.0), r.1))
          (λ (k : Mem s (n ∷ [])). let w : s ≡ n = Memᴰ.eq_of_singleton k in (omega arith, ap f w ∙ q))
          (Memᴰ.append_cases (members n f) m)
      go ih false q m = let r = ih (rw (append-nil (members n f)) at m) in (omega (arith, r.0), r.1)

  pub members_ascending : (n : ℕ) → Ascending ltb (members n f)
  unfolding members Ascending
  members_ascending zero = tt
  members_ascending (suc n) = go (members_ascending n) (f n)
    where
      go : Ascending ltb (members n f) → (t : Bool) → Ascending ltb (members n f ++ cond t (n ∷ []) [])
      go a true = snoc_ascending ltb (members n f) n a (λ z m. lt-ltb z n (members_out n z m).0)
      go a false = rw (append-nil (members n f)) a

-- ---- a list of just these, sorted
pub sort_members :
    (n : ℕ) (f : ℕ → Bool) (l : List ℕ) → Apart (λ x. x) l → ((s : ℕ) → Mem s l → (s < n) × (f s ≡ true)) →
    ((s : ℕ) → s < n → f s ≡ true → Mem s l)
    → sort ltb (λ x. x) l ≡ members n f
sort_members n f l a out in-l =
    ascending_unique ltb ltb_order (sort ltb (λ x. x) l) (members n f)
    (sort_ascending ltb (λ x. x) ltb_order l a) (members_ascending f n)
    (λ z m. let r = out z (sort_out ltb (λ x. x) ltb_order l z m) in members_in f n z r.0 r.1)
    (λ z m. let r = members_out f n z m in sort_in ltb (λ x. x) ltb_order l z (in-l z r.0 r.1))

-- ---- along the members: σ gives the member of each rank
module _ (f : ℕ → Bool) (σ : ℕ → ℕ) where
  pub many_along :
      (n : ℕ) → ((s : ℕ) → s < n → f s ≡ true → σ (many s f) ≡ s) → (g : ℕ → Bool) →
      many (many n f) (λ j. g (σ j)) ≡ many n (λ t. f t && g t)
  unfolding many
  many_along zero at g = refl
  many_along (suc n) at g = go (many_along n (λ s w. at s (omega arith)) g) (f n) refl
    where
      one_more : (m : ℕ) → m + 1 ≡ suc m
      one_more m = omega arith

      none_more : (m : ℕ) → m + 0 ≡ m
      none_more m = omega arith

      go : many (many n f) (λ j. g (σ j)) ≡ many n (λ t. f t && g t) → (t : Bool) → f n ≡ t
          → many (many n f + cond t 1 0) (λ j. g (σ j)) ≡ many n (λ t. f t && g t) + cond (t && g n) 1 0
      go ih true e = rw (one_more (many n f), at n (omega arith) e, ih)
      go ih false e = rw (none_more (many n f)) (omega (arith, ih))

  pub stores_along :
      (n : ℕ) → ((s : ℕ) → s < n → f s ≡ true → σ (many s f) ≡ s) → (i u : ℕ → ℕ) (l : List ℕ)
      → stores (λ _. true) (λ j. i (σ j)) (λ j. u (σ j)) (many n f) l ≡ stores f i u n l
  unfolding many stores
  stores_along zero at i u l = refl
  stores_along (suc n) at i u l = go (stores_along n (λ s w. at s (omega arith)) i u l) (f n) refl
    where
      T : ℕ → List ℕ
      T k = stores (λ _. true) (λ j. i (σ j)) (λ j. u (σ j)) k l

      one_more : (m : ℕ) → m + 1 ≡ suc m
      one_more m = omega arith

      none_more : (m : ℕ) → m + 0 ≡ m
      none_more m = omega arith

      go : stores (λ _. true) (λ j. i (σ j)) (λ j. u (σ j)) (many n f) l ≡ stores f i u n l → (t : Bool) → f n ≡ t
          → stores (λ _. true) (λ j. i (σ j)) (λ j. u (σ j)) (many n f + cond t 1 0) l
          ≡ cond t (set (stores f i u n l) (i n) (u n)) (stores f i u n l)
      go ih true e = rw (one_more (many n f), at n (omega arith) e, ih)
      go ih false e = rw (none_more (many n f)) ih
