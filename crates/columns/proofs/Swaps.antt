-- Laws of `swapped`: two cells of a column exchanged, and what holds of each cell before and after.
use native.Mathlib.Omega.{arith}
use Prim.Native.Nat.{ℕ, ◌<◌, ◌≤◌}
use mathlib.Core.Path.{◌≡◌, ap, ◌∙◌, sym, subst}
use mathlib.Core.Logic.{⊎_elim}
use mathlib.Core.List.{List}
use lib.ListN.{length, get_or, set, length-set}
use lib.Seq.{get_or-set_same, get_or-set_other}
use Rattle.columns.specs.Columns.{swapped}
use Rattle.columns.proofs.All.{same_or_not}

-- a cell after two stores, the later one at j
module _ (l : List ℕ) (i j x y : ℕ) where
  pub two_last : j < length l → get_or (set (set l i x) j y) j 0 ≡ y
  two_last h = get_or-set_same (set l i x) j y 0 (simp length-set h)

  pub two_first : i < length l → (i ≡ j → ⊥) → get_or (set (set l i x) j y) i 0 ≡ x
  two_first h n = get_or-set_other (set l i x) j i y 0 n ∙ get_or-set_same l i x 0 h

  pub two_other : (k : ℕ) → (k ≡ i → ⊥) → (k ≡ j → ⊥) → get_or (set (set l i x) j y) k 0 ≡ get_or l k 0
  two_other k n m = get_or-set_other (set l i x) j k y 0 m ∙ get_or-set_other l i k x 0 n

pub length-swapped : (i j : ℕ) (e : List ℕ) → length (swapped i j e) ≡ length e
unfolding swapped
length-swapped i j e = simp length-set

module _ (e : List ℕ) (i j : ℕ) (hi : i < length e) (hj : j < length e) where
  pub swapped_j : get_or (swapped i j e) j 0 ≡ get_or e i 0
  unfolding swapped
  swapped_j = two_last e i j _ _ hj

  pub swapped_i : get_or (swapped i j e) i 0 ≡ get_or e j 0
  unfolding swapped
  swapped_i =
      ⊎_elim (λ (q : i ≡ j). ap (λ (k : ℕ). get_or (swapped i j e) k 0) q ∙ two_last e i j _ _ hj ∙ ap (λ (k : ℕ). get_or e k 0) q)
      (λ (n : i ≡ j → ⊥). two_first e i j _ _ hi n)
      (same_or_not i j)

  pub swapped_other : (k : ℕ) → (k ≡ i → ⊥) → (k ≡ j → ⊥) → get_or (swapped i j e) k 0 ≡ get_or e k 0
  unfolding swapped
  swapped_other k n m = two_other e i j _ _ k n m

-- what holds of the first z cells still does once two of them are exchanged
pub swapped_holds :
    (P : ℕ → Type 0) (l : List ℕ) (i j z : ℕ) → z ≤ length l → i < z → j < z → ((k : ℕ) → k < z → P (get_or l k 0)) → (k : ℕ) → k < z →
    P (get_or (swapped i j l) k 0)
swapped_holds P l i j z long wi wj h k wk =
    let li : i < length l = omega arith in
    let lj : j < length l = omega arith in
    ⊎_elim (λ (q : k ≡ i). subst P (sym (ap (λ (y : ℕ). get_or (swapped i j l) y 0) q ∙ swapped_i l i j li lj)) (h j wj))
    (λ (m : k ≡ i → ⊥).
    ⊎_elim (λ (q : k ≡ j). subst P (sym (ap (λ (y : ℕ). get_or (swapped i j l) y 0) q ∙ swapped_j l i j li lj)) (h i wi))
    (λ (m' : k ≡ j → ⊥). subst P (sym (swapped_other l i j li lj k m m')) (h k wk)) (same_or_not k j))
    (same_or_not k i)
