-- Without a cycle: n is fuel enough, and the sweep finishes every state after its successors.
use Rattle.std.specs.Prelude.{◌≡◌, ℕ, zero, suc, ◌<◌, ◌≤◌, true, false, ltb, ◌⊎◌, List, [], ◌∷◌}
use mathlib.Core.Path.{refl, sym, ap, subst}
use mathlib.Core.Logic.{inl, inr, ⊎_elim}
use mathlib.Core.List.Memᴰ
use native.Mathlib.Nat.{not-suc-le-zero}
use native.Mathlib.Omega.{arith}
use Rattle.columns.specs.Sets.{Mem}
use Rattle.columns.specs.Counting.{many}
use Rattle.table.specs.Reach.{Walk, stop, along, via}
use borrow.Author.Tests.{ltb-true, ltb-false}
use Rattle.columns.proofs.All.{top_or-below}
use Rattle.columns.proofs.Bools.{cases}
use Rattle.columns.proofs.Counting.{many-le, many_full, many_strict}
use Rattle.table_order.specs.Order.{is_in, visit, sweep, last_first}
use Rattle.table_order.specs.Machine.{arc, Cycle, cycle, Ordered, none, more}
use Rattle.table.proofs.Walks.{via_walk, walk_via}
use Rattle.table_order.proofs.Lists.{is_in_mem, is_in-not, last_first_cong}
use Rattle.table_order.proofs.Ordered.{arc_mem, mem_arc}

-- a state that is finished already
pub visit_old : (next : ℕ → List ℕ) (f s : ℕ) (d : List ℕ) → is_in s d ≡ true → visit next f s d ≡ d
unfolding visit
visit_old next zero s d e = refl
visit_old next (suc f) s d e = rw e

visit_deep : (next : ℕ → List ℕ) (f s : ℕ) (d : List ℕ) → is_in s d ≡ false →
    visit next (suc f) s d ≡ s ∷ last_first (visit next f) (next s) d
unfolding visit
visit_deep next f s d e = rw e

module _ (next : ℕ → List ℕ) (n : ℕ) (within : (s t : ℕ) → Mem t (next s) → t < n) where
  arc_within : (s t : ℕ) → arc next s t ≡ true → t < n
  arc_within s t h = within s t (arc_mem next s t h)

  -- ---- rank: how many states are reached
  pub rank : ℕ → ℕ
  rank s = many n (λ u. via (arc next) n s u)

  module _ (acyclic : Cycle next → ⊥) where
    rank_less : (s t : ℕ) → s < n → Mem t (next s) → rank t < rank s
    unfolding rank
    rank_less s t l m = go (cases (ltb (rank t) (rank s)))
      where
        e : arc next s t ≡ true
        e = mem_arc next s t m

        imp : (k : ℕ) → k < n → via (arc next) n t k ≡ true → via (arc next) n s k ≡ true
        imp k h v = walk_via (arc next) n arc_within (along e (via_walk (arc next) n t k v))

        go : (ltb (rank t) (rank s) ≡ true) ⊎ (ltb (rank t) (rank s) ≡ false) → rank t < rank s
        go (inl h) = ltb-true _ _ h
        go (inr h) =
            absurd (acyclic (cycle e (via_walk (arc next) n t s
            (many_full n (λ u. via (arc next) n t u) (λ u. via (arc next) n s u) imp (ltb-false (rank t) (rank s) h) s l
            (walk_via (arc next) n arc_within stop)))))

    rank_some : (s : ℕ) → s < n → 0 < rank s
    unfolding rank
    rank_some s l = omega (arith, many_strict s n (λ u. via (arc next) n s u) l (walk_via (arc next) n arc_within stop))

    pub rank_le : (s : ℕ) → rank s ≤ n
    unfolding rank
    rank_le s = many-le n (λ u. via (arc next) n s u)

    -- fuel from the rank on is all the same
    visit_stable : (f g s : ℕ) → s < n → rank s ≤ f → rank s ≤ g → (d : List ℕ) → visit next f s d ≡ visit next g s d
    unfolding visit
    visit_stable zero g s l a b d = absurd (omega (arith, rank_some s l))
    visit_stable (suc f) zero s l a b d = absurd (omega (arith, rank_some s l))
    visit_stable (suc f) (suc g) s l a b d =
        rw (last_first_cong (visit next f) (visit next g) (next s) d
        (λ t m. visit_stable f g t (within s t m) (omega (arith, rank_less s t l m)) (omega (arith, rank_less s t l m))))

    -- a new state: all its successors, the last listed first, and then itself
    visit_new : (f s : ℕ) → s < n → rank s ≤ f → (d : List ℕ) → is_in s d ≡ false →
        visit next f s d ≡ s ∷ last_first (visit next f) (next s) d
    unfolding visit
    visit_new zero s l a d e = absurd (omega (arith, rank_some s l))
    visit_new (suc f) s l a d e =
        rw e (ap (λ (x : List ℕ). s ∷ x) (last_first_cong (visit next f) (visit next (suc f)) (next s) d
        (λ t m. visit_stable f (suc f) t (within s t m) (omega (arith, rank_less s t l m)) (omega (arith, rank_less s t l m)))))

    pub visit_fresh : (s : ℕ) → s < n → (d : List ℕ) → is_in s d ≡ false → visit next n s d ≡ s ∷ last_first (visit next n) (next s) d
    visit_fresh s l d e = visit_new n s l (rank_le s) d e

    -- ---- what a visit leaves
    pub record Visited (l d r : List ℕ) : Type 0 where
      pub order : Ordered next n r
      pub has : (t : ℕ) → Mem t l → Mem t r
      pub keeps : (t : ℕ) → Mem t d → Mem t r
      pub from : (t : ℕ) → Mem t r → Mem t d ⊎ ((s : ℕ) × Mem s l × Walk (arc next) s t)

    abbrev pub One : ℕ → Type 0
    One f = (s : ℕ) → s < n → rank s ≤ f → (d : List ℕ) → Ordered next n d → Visited (s ∷ []) d (visit next f s d)

    each : (f : ℕ) → One f → (l : List ℕ) → ((t : ℕ) → Mem t l → t < n) → ((t : ℕ) → Mem t l → rank t ≤ f) → (d : List ℕ) →
        Ordered next n d → Visited l d (last_first (visit next f) l d)
    unfolding last_first
    each f one [] b r d o = record { order = o; has = λ t m. absurd (Memᴰ.not-nil m); keeps = λ t m. m; from = λ t m. inl m }
    each f one (x ∷ xs) b r d o = go (each f one xs (λ t m. b t (Memᴰ.tail m)) (λ t m. r t (Memᴰ.tail m)) d o)
      where
        d' : List ℕ
        d' = last_first (visit next f) xs d

        go : Visited xs d d' → Visited (x ∷ xs) d (visit next f x d')
        go v = record {
          order = w.order;
          has = λ t m. ⊎_elim (λ e. w.has t (Memᴰ.head e)) (λ k. w.keeps t (v.has t k)) (Memᴰ.cases_cons m);
          keeps = λ t m. w.keeps t (v.keeps t m);
          from = λ t m. ⊎_elim (λ k. back t (v.from t k)) (λ p. inr (x, Memᴰ.head refl, single t p)) (w.from t m);
        }
          where
            w : Visited (x ∷ []) d' (visit next f x d')
            w = one x (b x (Memᴰ.head refl)) (r x (Memᴰ.head refl)) d' v.order

            single : (t : ℕ) → (s : ℕ) × Mem s (x ∷ []) × Walk (arc next) s t → Walk (arc next) x t
            single t p = subst (λ (u : ℕ). Walk (arc next) u t)
                (⊎_elim (λ e. e) (λ k. absurd (Memᴰ.not-nil k)) (Memᴰ.cases_cons p.1)) p.2

            back : (t : ℕ) → Mem t d ⊎ ((s : ℕ) × Mem s xs × Walk (arc next) s t) →
                Mem t d ⊎ ((s : ℕ) × Mem s (x ∷ xs) × Walk (arc next) s t)
            back t (inl m) = inl m
            back t (inr p) = inr (p.0, Memᴰ.tail p.1, p.2)

    pub visit_good : (f : ℕ) → One f
    visit_good zero s l a d o = absurd (omega (arith, rank_some s l))
    visit_good (suc f) s l a d o = go (visit_good f) (cases (is_in s d))
      where
        go : One f → (is_in s d ≡ true) ⊎ (is_in s d ≡ false) → Visited (s ∷ []) d (visit next (suc f) s d)
        go ih (inl e) = subst (λ (r : List ℕ). Visited (s ∷ []) d r) (sym (visit_old next (suc f) s d e)) record {
          order = o;
          has = λ t m. ⊎_elim (λ q. rw q (is_in_mem s d e)) (λ k. absurd (Memᴰ.not-nil k)) (Memᴰ.cases_cons m);
          keeps = λ t m. m;
          from = λ t m. inl m;
        }
        go ih (inr e) = subst (λ (r : List ℕ). Visited (s ∷ []) d r) (sym (visit_deep next f s d e)) record {
          order = more new l (λ t m. v.has t m) v.order;
          has = λ t m. ⊎_elim (λ q. Memᴰ.head q) (λ k. absurd (Memᴰ.not-nil k)) (Memᴰ.cases_cons m);
          keeps = λ t m. Memᴰ.tail (v.keeps t m);
          from = λ t m. ⊎_elim (λ q. inr (s, Memᴰ.head refl, subst (λ (u : ℕ). Walk (arc next) s u) (sym q) stop))
              (λ k. back t (v.from t k)) (Memᴰ.cases_cons m);
        }
          where
            d' : List ℕ
            d' = last_first (visit next f) (next s) d

            v : Visited (next s) d d'
            v = each f ih (next s) (within s) (λ t m. omega (arith, rank_less s t l m)) d o

            step : (t : ℕ) → (u : ℕ) × Mem u (next s) × Walk (arc next) u t → Walk (arc next) s t
            step t p = along (mem_arc next s p.0 p.1) p.2

            back : (t : ℕ) → Mem t d ⊎ ((u : ℕ) × Mem u (next s) × Walk (arc next) u t) →
                Mem t d ⊎ ((u : ℕ) × Mem u (s ∷ []) × Walk (arc next) u t)
            back t (inl m) = inl m
            back t (inr p) = inr (s, Memᴰ.head refl, step t p)

            new : Mem s d' → ⊥
            new m = ⊎_elim (λ k. is_in-not s d e k) (λ p. acyclic (cycle (mem_arc next s p.0 p.1) p.2)) (v.from s m)

    pub record Sweeping (r : ℕ) : Type 0 where
      pub order : Ordered next n (sweep next n r)
      pub has : (t : ℕ) → t < r → Mem t (sweep next n r)

    pub sweep_good : (r : ℕ) → r ≤ n → Sweeping r
    unfolding sweep
    sweep_good zero h = record { order = none; has = λ t l. absurd (not-suc-le-zero l) }
    sweep_good (suc r) h = go (sweep_good r (omega arith))
      where
        go : Sweeping r → Sweeping (suc r)
        go w = record {
          order = v.order;
          has = λ t l. ⊎_elim (λ e. v.has t (Memᴰ.head e)) (λ k. v.keeps t (w.has t k))
              (top_or-below l);
        }
          where
            v : Visited (r ∷ []) (sweep next n r) (visit next n r (sweep next n r))
            v = visit_good n r (omega arith) (rank_le r) (sweep next n r) w.order
