-- Two stored signatures are one exactly if they have as many pairs, and the same ones.
use mathlib.Core.Path.{◌≡◌, sym, ap, ◌∙◌}
use mathlib.Core.Bool.{true, false}
use Prim.Native.Nat.{ℕ, ◌+◌, ◌-◌}
use native.Mathlib.Omega.{arith}
use lib.ListN.{length, get_or}
use Rattle.columns.specs.Columns.{listed}
use Rattle.columns.specs.Sets.{Pair, pair_eq, same}
use Rattle.columns.proofs.All.{all_at, all_of}
use Rattle.columns.proofs.Bools.{fails, bool_ext}
use Rattle.columns.proofs.Lists.{length-listed, listed_cong, listed_same}
use Rattle.columns.proofs.Sets.{same_eq, same_refl, pair_eq_eq, pair_eq_refl}
use Rattle.columns.specs.Rows.{pairs_between}
use Rattle.columns.specs.Counting.{all}
use Rattle.refinement_signing.specs.Stored.{Store, start_of, stored_end, stored, alike, pair_same}

-- ---- lists given by index
module _ (f g : ℕ → Pair) where
  pub same-listed : (k : ℕ) → same pair_eq (listed k f) (listed k g) ≡ all k (λ i. pair_eq (f i) (g i))
  same-listed k =
      bool_ext (same pair_eq (listed k f) (listed k g)) (all k (λ i. pair_eq (f i) (g i)))
      (λ e.
      all_of (λ i. pair_eq (f i) (g i)) k
      (λ i l. rw (listed_same f g k (same_eq pair_eq pair_eq_eq (listed k f) (listed k g) e) i l) (pair_eq_refl (g i))))
      (λ e.
      rw (listed_cong k f g (λ i l. pair_eq_eq (f i) (g i) (all_at (λ i. pair_eq (f i) (g i)) k i e l)))
      (same_refl pair_eq pair_eq_refl (listed k g)))

-- ---- equality of two stored signatures
module _ (σ : Store) where
  pub alike_in : (s u : ℕ) → stored σ s ≡ stored σ u → alike σ s u ≡ true
  unfolding alike
  alike_in s u e = rw e (same_refl pair_eq pair_eq_refl (stored σ u))

  pub alike_out : (s u : ℕ) → alike σ s u ≡ true → stored σ s ≡ stored σ u
  unfolding alike
  alike_out s u e = same_eq pair_eq pair_eq_eq (stored σ s) (stored σ u) e

  length_stored : (s : ℕ) → length (stored σ s) ≡ stored_end σ s - start_of σ s
  unfolding stored pairs_between
  length_stored s =
      length-listed (stored_end σ s - start_of σ s) (λ k. (get_or σ.labels (start_of σ s + k) 0, get_or σ.blocks (start_of σ s + k) 0))

  -- with the bounds as they are read
  module _ (s u x z v w : ℕ) (ex : x ≡ start_of σ s) (ez : z ≡ stored_end σ s) (ev : v ≡ start_of σ u) (ew : w ≡ stored_end σ u) where
    pub alike_shorter : (w - v ≡ z - x → ⊥) → false ≡ alike σ s u
    alike_shorter h = sym (fails (λ e. h (omega (arith, ex, ez, ev, ew, lengths e))))
      where
        lengths : alike σ s u ≡ true → stored_end σ s - start_of σ s ≡ stored_end σ u - start_of σ u
        lengths e = sym (length_stored s) ∙ ap length (alike_out s u e) ∙ length_stored u

    pub alike_pairs : w - v ≡ z - x → all (z - x) (λ i. pair_same σ.labels σ.blocks (x + i) (v + i)) ≡ alike σ s u
    unfolding alike stored pairs_between pair_same
    alike_pairs h =
        sym (same-listed (pair_from x) (pair_from v) (z - x))
        ∙ ap (λ (k : ℕ). same pair_eq (listed (z - x) (pair_from x)) (listed k (pair_from v))) (sym h)
        ∙ rw (ex, ez, ev, ew)
      where
        pair_from : ℕ → ℕ → Pair
        pair_from x i = (get_or σ.labels (x + i) 0, get_or σ.blocks (x + i) 0)
