-- The members of one set that another has not: they ascend, none is in the other, and with the other they are the union.
use Rattle.std.specs.Prelude.{◌≡◌, Bool, true, false, cond, List, [], ◌∷◌, ◌++◌}
use mathlib.Core.Path.{refl, ap, sym, ◌∙◌, subst}
use mathlib.Core.Logic.{⊎_elim}
use mathlib.Core.List.Memᴰ
use mathlib.Core.List.{append-nil}
use Rattle.columns.specs.Sets.{Mem, Pair, pair_lt, insert, add_all, Ascending}
use Rattle.columns.proofs.Bools.{contra}
use Rattle.columns.proofs.Orders.{pair_order}
use Rattle.columns.proofs.Sets.{insert_there, add_all_right, add_all_ascending}
use Rattle.pairs.specs.Subset.{has_pair}
use Rattle.pairs.proofs.Subsets.{has_in, has_out}
use Rattle.pairs_merge.specs.Union.{without}

-- ---- the test
-- ---- one more at the end
module _ (m : List Pair) where
  snoc_without : (l : List Pair) (x : Pair) → without m (l ++ (x ∷ [])) ≡ without m l ++ cond (has_pair m x) [] (x ∷ [])
  unfolding without
  snoc_without [] x = refl
  snoc_without (y ∷ l) x = go (snoc_without l x) (has_pair m y)
    where
      go : without m (l ++ (x ∷ [])) ≡ without m l ++ cond (has_pair m x) [] (x ∷ []) → (b : Bool)
          → cond b (without m (l ++ (x ∷ []))) (y ∷ without m (l ++ (x ∷ []))) ≡ cond b (without m l) (y ∷ without m l) ++
          cond (has_pair m x) [] (x ∷ [])
      go ih true = ih
      go ih false = ap (λ (t : List Pair). y ∷ t) ih

  pub without_old : (l : List Pair) (x : Pair) → has_pair m x ≡ true → without m (l ++ (x ∷ [])) ≡ without m l
  without_old l x h = snoc_without l x ∙ ap (λ (b : Bool). without m l ++ cond b [] (x ∷ [])) h ∙ append-nil (without m l)

  pub without_new : (l : List Pair) (x : Pair) → has_pair m x ≡ false → without m (l ++ (x ∷ [])) ≡ without m l ++ (x ∷ [])
  without_new l x h = snoc_without l x ∙ ap (λ (b : Bool). without m l ++ cond b [] (x ∷ [])) h

  -- ---- its members
  pub without_out : (l : List Pair) (z : Pair) → Mem z (without m l) → Mem z l × (has_pair m z ≡ false)
  unfolding without
  without_out [] z k = absurd (Memᴰ.not-nil k)
  without_out (x ∷ l) z k = go (without_out l z) (has_pair m x) refl k
    where
      up : Mem z l × (has_pair m z ≡ false) → Mem z (x ∷ l) × (has_pair m z ≡ false)
      up t = (Memᴰ.tail t.0, t.1)

      go : (Mem z (without m l) → Mem z l × (has_pair m z ≡ false)) → (b : Bool) → has_pair m x ≡ b
          → Mem z (cond b (without m l) (x ∷ without m l)) → Mem z (x ∷ l) × (has_pair m z ≡ false)
      go ih true e k = up (ih k)
      go ih false e k =
          ⊎_elim (λ (q : z ≡ x). (Memᴰ.head q, ap (has_pair m) q ∙ e)) (λ (i : Mem z (without m l)). up (ih i)) (Memᴰ.cases_cons k)

  pub without_apart : (l : List Pair) (z : Pair) → Mem z (without m l) → Mem z m → ⊥
  without_apart l z k i = contra (has_in m z i) (without_out l z k).1

  pub without_ascending : (l : List Pair) → Ascending pair_lt l → Ascending pair_lt (without m l)
  unfolding without Ascending
  without_ascending [] a = tt
  without_ascending (x ∷ l) a = go (without_ascending l a.1) (has_pair m x)
    where
      go : Ascending pair_lt (without m l) → (b : Bool) → Ascending pair_lt (cond b (without m l) (x ∷ without m l))
      go ih true = ih
      go ih false = (λ z k. a.0 z (without_out l z k).0, ih)

-- ---- the union
pub union_without : (m : List Pair) → Ascending pair_lt m → (l : List Pair) → add_all pair_lt (without m l) m ≡ add_all pair_lt l m
unfolding without add_all
union_without m a [] = refl
union_without m a (x ∷ l) = go (union_without m a l) (has_pair m x) refl
  where
    go : add_all pair_lt (without m l) m ≡ add_all pair_lt l m → (b : Bool) → has_pair m x ≡ b
        → add_all pair_lt (cond b (without m l) (x ∷ without m l)) m ≡ insert pair_lt x (add_all pair_lt l m)
    go ih true e = ih ∙ sym (insert_there pair_lt pair_order x (add_all pair_lt l m) (add_all_ascending pair_lt pair_order l m a)
        (add_all_right pair_lt pair_order x l m (has_out m x e)))
    go ih false e = ap (insert pair_lt x) ih

-- ---- k is what l has and m has not
module _ (m l k : List Pair) (e : k ≡ without m l) where
  pub kept_ascending : Ascending pair_lt l → Ascending pair_lt k
  kept_ascending a = subst (Ascending pair_lt) (sym e) (without_ascending m l a)

  pub kept_apart : (x : Pair) → Mem x k → Mem x m → ⊥
  kept_apart x i j = without_apart m l x (subst (λ (t : List Pair). Mem x t) e i) j

  pub kept_union : Ascending pair_lt m → add_all pair_lt k m ≡ add_all pair_lt l m
  kept_union a = ap (λ (t : List Pair). add_all pair_lt t m) e ∙ union_without m a l
