-- Pairs in two columns: how many, one more at the end, those between two places, and pairs written over the front of both or behind it.
use Prim.Native.Nat.{ℕ, ◌+◌, ◌≤◌, ◌<◌, suc, ◌-◌}
use native.Mathlib.Numerals.{add-one}
use native.Mathlib.Omega.{arith}
use mathlib.Core.Path.{◌≡◌, refl, ap, ap₂, sym, ◌∙◌}
use mathlib.Core.Logic.{⊎_elim}
use mathlib.Core.List.{List, [], ◌∷◌, ◌++◌}
use lib.ListN.{length, get_or, set, length-map, take, get_or-append}
use lib.Seq.{get_or-set_same, get_or-set_other, ext_get_or, get_or-append-add, get_or-take, length-take-le}
use Rattle.columns.specs.Columns.{listed, over, written}
use Rattle.columns.specs.Rows.{pairs_of, first_of, last_of, pair_at, pairs_between}
use Rattle.columns.specs.Sets.{Pair}
use Rattle.columns.proofs.All.{lt-or-le}
use Rattle.columns.proofs.Lists.{
  length-listed,
  listed_cong,
  listed_cons,
  map-listed,
  over_front,
  length-written,
  written_at,
  written_after,
  listed-split,
}

pub length_pairs : (d : ℕ) (a b : List ℕ) → length (pairs_of d a b) ≡ d
unfolding pairs_of
length_pairs d a b = length-listed d _

pub pairs-none : (a b : List ℕ) → pairs_of 0 a b ≡ []
unfolding pairs_of listed
pairs-none a b = refl

pub pairs_more :
    (d : ℕ) (a b : List ℕ) (x y : ℕ) → d < length a → d < length b → pairs_of (d + 1) (set a d x) (set b d y) ≡ pairs_of d a b ++
    ((x, y) ∷ [])
unfolding pairs_of listed
pairs_more d a b x y ha hb =
    rw add-one
    (ap₂ (λ (l : List Pair) (p : Pair). l ++ (p ∷ []))
    (listed_cong {A = Pair} d _ _ (λ i w. ap₂ (λ (j k : ℕ). (j, k)) (get_or-set_other a d i x 0 (λ e. omega arith))
    (get_or-set_other b d i y 0 (λ e. omega arith))))
    (ap₂ (λ (j k : ℕ). (j, k)) (get_or-set_same a d x 0 ha) (get_or-set_same b d y 0 hb)))

-- ---- written over the front
pairs_back : (l : List Pair) → listed (length l) (λ i. (get_or (first_of l) i 0, get_or (last_of l) i 0)) ≡ l
unfolding listed
pairs_back [] = refl
pairs_back (x ∷ l) =
    listed_cons (length l) (λ i. (get_or (first_of (x ∷ l)) i 0, get_or (last_of (x ∷ l)) i 0)) ∙ ap (λ (t : List Pair). x ∷ t) (pairs_back l)

pub pairs-over : (l : List Pair) (a b : List ℕ) → pairs_of (length l) (over (first_of l) a) (over (last_of l) b) ≡ l
unfolding pairs_of
pairs-over l a b =
    listed_cong (length l) (λ i. (get_or (over (first_of l) a) i 0, get_or (over (last_of l) b) i 0))
    (λ i. (get_or (first_of l) i 0, get_or (last_of l) i 0))
    (λ i w.
    ap₂ (λ (x y : ℕ). (x, y)) (over_front (first_of l) a i (rw (length-map l (λ (r : Pair). r.0)) w))
    (over_front (last_of l) b i (rw (length-map l (λ (r : Pair). r.1)) w)))
    ∙ pairs_back l

-- a column with r of the pairs, the other cells as they were
module _ (r : ℕ) (x x₀ : List ℕ) (e : length x ≡ length x₀) (h : r ≤ length x) (kept : (i : ℕ) → r ≤ i → get_or x i 0 ≡ get_or x₀ i 0) where
  as_written : x ≡ over (listed r (λ i. get_or x i 0)) x₀
  unfolding written
  as_written =
      ext_get_or 0 x (written r (λ i. get_or x i 0) x₀) (e ∙ sym (length-written r (λ i. get_or x i 0) x₀ (omega (arith, e))))
      (λ i w. ⊎_elim (λ (l : i < r). sym (written_at r (λ k. get_or x k 0) x₀ i l))
      (λ (l : r ≤ i). kept i l ∙ sym (written_after r (λ k. get_or x k 0) x₀ i l)) (lt-or-le i r))

  pub firsts_over : (b : List ℕ) (w : List Pair) → pairs_of r x b ≡ w → x ≡ over (first_of w) x₀
  unfolding pairs_of
  firsts_over b w q = as_written ∙ ap (λ (l : List ℕ). over l x₀)
      (sym (map-listed (λ (t : Pair). t.0) r (λ i. (get_or x i 0, get_or b i 0))) ∙ ap first_of q)

  pub lasts_over : (a : List ℕ) (w : List Pair) → pairs_of r a x ≡ w → x ≡ over (last_of w) x₀
  unfolding pairs_of
  lasts_over a w q = as_written ∙ ap (λ (l : List ℕ). over l x₀)
      (sym (map-listed (λ (t : Pair). t.1) r (λ i. (get_or a i 0, get_or x i 0))) ∙ ap last_of q)

-- the pairs from p to before q
module _ (a b : List ℕ) (p q : ℕ) where
  pub between_none : q ≤ p → pairs_between a b p q ≡ []
  unfolding pairs_between listed
  between_none h =
      let e : q - p ≡ 0 = omega arith in
      ap (λ (n : ℕ). listed n (λ i. pair_at a b (p + i))) e

  pub between_more : p < q → pairs_between a b p q ≡ pair_at a b p ∷ pairs_between a b (p + 1) q
  unfolding pairs_between
  between_more h =
      let e : q - p ≡ suc (q - (p + 1)) = omega arith in
      let z : p + 0 ≡ p = omega arith in
      ap (λ (n : ℕ). listed n (λ i. pair_at a b (p + i))) e
      ∙ listed_cons (q - (p + 1)) (λ i. pair_at a b (p + i))
      ∙ ap₂ ◌∷◌ (ap (pair_at a b) z)
      (listed_cong (q - (p + 1)) (λ i. pair_at a b (p + suc i)) (λ i. pair_at a b (p + 1 + i))
      (λ i w. ap (pair_at a b) (shift i)))
    where
      shift : (i : ℕ) → p + suc i ≡ p + 1 + i
      shift i = omega arith

-- pairs written behind the first d
pub pairs-behind :
    (d : ℕ) (w : List Pair) (a b x y : List ℕ) → d ≤ length a → d ≤ length b
    → pairs_of (d + length w) (take d a ++ over (first_of w) x) (take d b ++ over (last_of w) y) ≡ pairs_of d a b ++ w
unfolding pairs_of
pairs-behind d w a b x y ha hb =
    listed-split d (length w) (λ i. (get_or (take d a ++ over (first_of w) x) i 0, get_or (take d b ++ over (last_of w) y) i 0))
    ∙ ap₂ (λ (l m : List Pair). l ++ m)
    (listed_cong {A = Pair} d _ _
    (λ i l. ap₂ (λ (j k : ℕ). (j, k)) (front d a (over (first_of w) x) i ha l) (front d b (over (last_of w) y) i hb l)))
    (listed_cong {A = Pair} (length w) _ _
    (λ i l. ap₂ (λ (j k : ℕ). (j, k)) (back d a (over (first_of w) x) i ha) (back d b (over (last_of w) y) i hb))
    ∙ pairs-over w x y)
  where
    front : (d : ℕ) (a z : List ℕ) (i : ℕ) → d ≤ length a → i < d → get_or (take d a ++ z) i 0 ≡ get_or a i 0
    front d a z i h l = get_or-append (take d a) z 0 i (rw (length-take-le d a h) l) ∙ get_or-take d a i 0 l

    back : (d : ℕ) (a z : List ℕ) (i : ℕ) → d ≤ length a → get_or (take d a ++ z) (d + i) 0 ≡ get_or z i 0
    back d a z i h =
        ap (λ (k : ℕ). get_or (take d a ++ z) (k + i) 0) (sym (length-take-le d a h)) ∙ get_or-append-add (take d a) z i 0
