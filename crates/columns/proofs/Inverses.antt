-- Laws of `Inverse`: its test, two cells of a permutation exchanged and its inverse with it, sums over a permutation, and that
-- what is an inverse one way is an inverse the other way.
use Prim.Native.Nat.{ℕ, ◌≤◌, ◌<◌}
use native.Mathlib.Omega.{arith}
use borrow.Author.Tests.{ltb-true, eqb-true, lt-ltb, eq-eqb}
use mathlib.Core.Bool.{Bool, true, cond}
use mathlib.Core.Path.{◌≡◌, ap, sym, subst, ◌∙◌}
use mathlib.Core.Logic.{⊎_elim}
use mathlib.Core.List.{List}
use lib.ListN.{length, get_or, length-set}
use lib.Dec.{ltb, eqb}
use Rattle.columns.specs.Counting.{sum, many, bit}
use Rattle.columns.specs.Columns.{swapped}
use Rattle.columns.specs.Inverse.{Inverse, inverse_at, inverseb, swapped_inverse}
use Rattle.columns.proofs.Bools.{and_left, and_right, and_both}
use Rattle.columns.proofs.All.{all_at, all_of, same_or_not}
use Rattle.columns.proofs.Sums.{sum_cong, sum-swap, sum_tight, sum_one, sum_pick, hit, hits_one}
use Rattle.columns.proofs.Counting.{many-sum, many_once, many-some, Found, eqb_same}
use Rattle.columns.proofs.Swaps.{two_last, two_first, two_other, swapped_i, swapped_j, swapped_other}

pub inverse_of : (a b : List ℕ) (n : ℕ) → inverseb a b n ≡ true → Inverse a b n
unfolding inverseb inverse_at
inverse_of a b n t =
    record {
      below = λ k l. ltb-true _ _ (and_left (ltb (get_or a k 0) n) (eqb (get_or b (get_or a k 0) 0) k) (all_at (inverse_at a b n) n k t l));
      back = λ k l. eqb-true _ _ (and_right (ltb (get_or a k 0) n) (eqb (get_or b (get_or a k 0) 0) k) (all_at (inverse_at a b n) n k t l));
    }

pub of_inverse : (a b : List ℕ) (n : ℕ) → Inverse a b n → inverseb a b n ≡ true
unfolding inverseb inverse_at
of_inverse a b n h = all_of (inverse_at a b n) n (λ k l. and_both (lt-ltb _ _ (h.below k l)) (eq-eqb _ _ (h.back k l)))

-- a number stands at one place only
pub only_once : (a b : List ℕ) (n : ℕ) → Inverse a b n → (k l : ℕ) → k < n → l < n → get_or a k 0 ≡ get_or a l 0 → k ≡ l
only_once a b n h k l wk wl q = sym (h.back k wk) ∙ ap (λ (x : ℕ). get_or b x 0) q ∙ h.back l wl

-- ---- a permutation only reorders what is added up
module _ (o e : List ℕ) (n : ℕ) (io : Inverse o e n) (ie : Inverse e o n) where
  pub sum_perm : (f : ℕ → ℕ) → sum (λ s. f (get_or o s 0)) n ≡ sum f n
  sum_perm f =
      sum_cong (λ s. f (get_or o s 0)) (λ s. sum (λ k. cond (eqb (get_or o s 0) k) (f k) 0) n) n
      (λ s w. sym (sum_pick (get_or o s 0) n f (io.below s w)))
      ∙ sum-swap (λ s k. cond (eqb (get_or o s 0) k) (f k) 0) n n
      ∙ sum_cong (λ k. sum (λ s. cond (eqb (get_or o s 0) k) (f k) 0) n) f n
      (λ k w.
      sum_cong (λ s. cond (eqb (get_or o s 0) k) (f k) 0) (λ s. cond (eqb (get_or e k 0) s) (f k) 0) n
      (λ s ws.
      ap (λ (t : Bool). cond t (f k) 0)
      (eqb_same (get_or o s 0) k (get_or e k 0) s (λ q. ap (λ (x : ℕ). get_or e x 0) (sym q) ∙ io.back s ws)
      (λ q. ap (λ (x : ℕ). get_or o x 0) (sym q) ∙ ie.back k w)))
      ∙ sum_pick (get_or e k 0) n (λ _. f k) (ie.below k w))

-- what sends each number below n to one below n, with a way back, has every number below n as a value: the way back is the inverse
module _ (o e : List ℕ) (n : ℕ) (io : Inverse o e n) where
  hits : ℕ → ℕ
  hits k = many n (λ s. eqb (get_or o s 0) k)

  few : (k : ℕ) → hits k ≤ 1
  unfolding hits
  few k =
      many_once n (λ s. eqb (get_or o s 0) k)
      (λ i j a c p q. only_once o e n io i j a c (eqb-true (get_or o i 0) k p ∙ sym (eqb-true (get_or o j 0) k q)))

  all_hits : sum hits n ≡ n
  unfolding hits hit
  all_hits =
      sum_cong (λ k. many n (λ s. eqb (get_or o s 0) k)) (λ k. sum (λ s. bit (eqb (get_or o s 0) k)) n) n
      (λ k w. many-sum n (λ s. eqb (get_or o s 0) k))
      ∙ sum-swap (λ k s. bit (eqb (get_or o s 0) k)) n n
      ∙ sum_cong (λ s. sum (λ k. bit (eqb (get_or o s 0) k)) n) (λ _. 1) n (λ s w. hits_one (get_or o s 0) n (io.below s w))
      ∙ sum_one n

  one : (k : ℕ) → k < n → hits k ≡ 1
  unfolding hits
  one k w = sum_tight hits (λ _. 1) n (λ j _. few j) (all_hits ∙ sym (sum_one n)) k w

  pub other_way : Inverse e o n
  unfolding hits
  other_way =
      record {
        below = λ k w.
            let r = src k w in
            let z : get_or e (get_or o r.at 0) 0 < n = omega (arith, io.back r.at r.below, r.below) in
            subst (λ (x : ℕ). get_or e x 0 < n) (eqb-true _ _ r.passes) z;
        back = λ k w.
            let r = src k w in
            let q : get_or o r.at 0 ≡ k = eqb-true _ _ r.passes in
            ap (λ (x : ℕ). get_or o (get_or e x 0) 0) (sym q) ∙ ap (λ (x : ℕ). get_or o x 0) (io.back r.at r.below) ∙ q;
      }
    where
      src : (k : ℕ) → k < n → Found n (λ s. eqb (get_or o s 0) k)
      src k w = many-some n (λ s. eqb (get_or o s 0) k) (λ z. omega (arith, one k w, z))

-- ---- two cells exchanged
pub length-swapped_inverse : (i j : ℕ) (e o : List ℕ) → length (swapped_inverse i j e o) ≡ length o
unfolding swapped_inverse
length-swapped_inverse i j e o = simp length-set

module _ (e o : List ℕ) (n i j : ℕ) (h : Inverse e o n) (le : n ≤ length e) (lo : n ≤ length o) (hi : i < n) (hj : j < n) where
  -- the offset of what now stands at j, at i and elsewhere
  pub offset_i : get_or (swapped_inverse i j e o) (get_or e i 0) 0 ≡ j
  unfolding swapped_inverse
  offset_i = two_last o (get_or e j 0) (get_or e i 0) i j (omega (arith, h.below i hi))

  pub offset_j : (i ≡ j → ⊥) → get_or (swapped_inverse i j e o) (get_or e j 0) 0 ≡ i
  unfolding swapped_inverse
  offset_j m = two_first o (get_or e j 0) (get_or e i 0) i j (omega (arith, h.below j hj)) (λ q. m (sym (only_once e o n h j i hj hi q)))

  pub offset_other : (s : ℕ) → (s ≡ get_or e i 0 → ⊥) → (s ≡ get_or e j 0 → ⊥) → get_or (swapped_inverse i j e o) s 0 ≡ get_or o s 0
  unfolding swapped_inverse
  offset_other s a b = two_other o (get_or e j 0) (get_or e i 0) i j s b a

  ii : i < length e
  ii = omega arith

  jj : j < length e
  jj = omega arith

  order_at :
      (k : ℕ) → k < n
      → (get_or (swapped i j e) k 0 < n) × (get_or (swapped_inverse i j e o) (get_or (swapped i j e) k 0) 0 ≡ k)
  order_at k w =
      ⊎_elim
      (λ (q : k ≡ j).
      let s : get_or (swapped i j e) k 0 ≡ get_or e i 0 = ap (λ (x : ℕ). get_or (swapped i j e) x 0) q ∙ swapped_j e i j ii jj in
      (omega (arith, h.below i hi), ap (λ (x : ℕ). get_or (swapped_inverse i j e o) x 0) s ∙ offset_i ∙ sym q))
      (λ (m : k ≡ j → ⊥).
      ⊎_elim
      (λ (q : k ≡ i).
      let s : get_or (swapped i j e) k 0 ≡ get_or e j 0 = ap (λ (x : ℕ). get_or (swapped i j e) x 0) q ∙ swapped_i e i j ii jj in
      (omega (arith, h.below j hj), ap (λ (x : ℕ). get_or (swapped_inverse i j e o) x 0) s ∙ offset_j (λ r. m (q ∙ r)) ∙ sym q))
      (λ (m' : k ≡ i → ⊥).
      let s : get_or (swapped i j e) k 0 ≡ get_or e k 0 = swapped_other e i j ii jj k m' m in (
        omega (arith, h.below k w),
        ap (λ (x : ℕ). get_or (swapped_inverse i j e o) x 0) s
            ∙ offset_other (get_or e k 0) (λ r. m' (only_once e o n h k i w hi r)) (λ r. m (only_once e o n h k j w hj r))
            ∙ h.back k w,
      ))
      (same_or_not k i))
      (same_or_not k j)

  pub swap_order : Inverse (swapped i j e) (swapped_inverse i j e o) n
  swap_order = record { below = λ k w. (order_at k w).0; back = λ k w. (order_at k w).1 }

  pub swap_places : Inverse (swapped_inverse i j e o) (swapped i j e) n
  swap_places = other_way (swapped i j e) (swapped_inverse i j e o) n swap_order
