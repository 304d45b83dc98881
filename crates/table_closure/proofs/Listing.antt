-- The inner rows of a block's states, listed state by state.
use Rattle.std.specs.Prelude.{◌≡◌, ℕ, ◌+◌, ◌-◌, ◌<◌, ◌≤◌, Bool, true, false, cond, ◌&&◌, eqb, List, [], ◌++◌, length, get_or, take}
use native.Mathlib.Omega.{arith}
use borrow.Author.Tests.{eqb-true, eqb-false, ne_eqb}
use mathlib.Core.Path.{refl, ap, sym, ◌∙◌}
use lib.ListN.{length-append}
use Rattle.columns.specs.Columns.{laid}
use Rattle.columns.specs.Counting.{many}
use Rattle.columns.proofs.Bools.{and_no_left, and_no_right}
use Rattle.columns.proofs.Counting.{many-le, many_strict}
use Rattle.columns.proofs.Laid.{laid_none, laid_more, length-laid, laid_up}
use Rattle.columns.proofs.Listing.{Listing}
use Rattle.columns.proofs.Members.{length-members}
use Rattle.columns.proofs.Owners.{owned_few}
use Rattle.columns.proofs.Sums.{sum_cong}
use Rattle.table.specs.Lts.{Lts, Valid}
use Rattle.table.proofs.RowsOf.{RowsFrom}
use Rattle.table.proofs.Stretches.{label_up}
use Rattle.table_closure.specs.Closure.{silentb}
use Rattle.table_closure.specs.Inner.{innerb, inner_rows, Stands}

pub length_inner : (t : Lts) (home : List ℕ) (b s : ℕ) →
    length (inner_rows t home b s) ≡ many t.m (λ i. eqb (get_or t.source i 0) s && innerb t home b i)
unfolding inner_rows
length_inner t home b s = length-members (λ i. eqb (get_or t.source i 0) s && innerb t home b i) t.m

-- row j is one of state s that is listed
abbrev pub own_inner : Lts → List ℕ → ℕ → ℕ → ℕ → Bool
own_inner t home b s j = eqb (get_or t.source j 0) s && innerb t home b j

module _ (t : Lts) (home : List ℕ) (b s : ℕ) where
  -- a state has no more of them than the table has rows
  pub inner_most : length (inner_rows t home b s) ≤ t.m
  inner_most = omega (arith, length_inner t home b s, many-le t.m (own_inner t home b s))

  -- and where one more comes there is room for it
  pub inner_fits :
      (first end h : ℕ) (l₀ : List ℕ) (i k : ℕ) (l : List ℕ) → Listing (own_inner t home b s) first end h l₀ i k l → i < t.m
      → own_inner t home b s i ≡ true → k < h + length (inner_rows t home b s)
  inner_fits first end h l₀ i k l p w e =
      omega (arith, p.exact, many_strict i t.m (own_inner t home b s) w e, length_inner t home b s)

-- a row of state s that is not listed, and if it is visible all behind it
pub row_skipped :
    (t : Lts) → Valid t → (home : List ℕ) (b s first end : ℕ) → RowsFrom t s first end → (i r : ℕ) → first ≤ i → i < end
    → innerb t home b i ≡ false → r ≡ cond (eqb (get_or t.label i 0) 0) (i + 1) end
    → (i < r) × (r ≤ end) × ((j : ℕ) → i ≤ j → j < r → (eqb (get_or t.source j 0) s && innerb t home b j) ≡ false)
unfolding innerb silentb
row_skipped t v home b s first end f i r low w e q = go (eqb (get_or t.label i 0) 0) refl
  where
    same : (j : ℕ) → i ≤ j → j < end → get_or t.source i 0 ≡ get_or t.source j 0
    same j a c = eqb-true _ _ (f.own i low w) ∙ sym (eqb-true _ _ (f.own j (omega (arith, low, a)) c))

    visible : {x y : ℕ} → x ≤ y → (x ≡ 0 → ⊥) → y ≡ 0 → ⊥
    visible h n z = omega (arith, h, n, z)

    one : {j : ℕ} → i ≤ j → j < i + 1 → j ≡ i
    one a c = omega arith

    go : (c : Bool) → eqb (get_or t.label i 0) 0 ≡ c
        → (i < r) × (r ≤ end) × ((j : ℕ) → i ≤ j → j < r → (eqb (get_or t.source j 0) s && innerb t home b j) ≡ false)
    go true h =
        let n : r ≡ i + 1 = q ∙ ap (λ (c : Bool). cond c (i + 1) end) h in (
          omega (arith, n),
          omega (arith, n, w),
          λ j a c.
              ap (λ (k : ℕ). eqb (get_or t.source k 0) s && innerb t home b k) (one a (omega (arith, n, c)))
              ∙ and_no_right (eqb (get_or t.source i 0) s) (innerb t home b i) e,
        )
    go false h =
        let n : r ≡ end = q ∙ ap (λ (c : Bool). cond c (i + 1) end) h in (
          omega (arith, n, w),
          omega (arith, n),
          λ j a c.
              let up = label_up t v i j a (omega (arith, n, c, f.most)) (same j a (omega (arith, n, c))) in
              and_no_right (eqb (get_or t.source j 0) s) (innerb t home b j)
              (and_no_left (silentb t home b j) (eqb (get_or home (get_or t.target j 0) 0) b)
              (and_no_left (eqb (get_or t.label j 0) 0) (eqb (get_or home (get_or t.source j 0) 0) b)
              (ne_eqb (get_or t.label j 0) 0 (visible up (eqb-false (get_or t.label i 0) 0 h))))),
        )

-- the inner rows of the states at the first k positions from x on
abbrev pub inner_of : Lts → List ℕ → ℕ → List ℕ → ℕ → ℕ → List ℕ
inner_of t home b elements x k = laid (λ j. inner_rows t home b (get_or elements (x + j) 0)) k

-- the states before position k are done: their rows are the first h cells
pub record Gathered (t : Lts) (home : List ℕ) (b : ℕ) (elements : List ℕ) (x z : ℕ) (l₀ : List ℕ) (h k : ℕ) (l : List ℕ) : Type 0 where
  pub low : x ≤ k
  pub high : k ≤ z
  pub exact : h ≡ length (inner_of t home b elements x (k - x))
  pub cells : take h l ≡ inner_of t home b elements x (k - x)
  pub size : length l ≡ length l₀
  pub rest : (j : ℕ) → h ≤ j → get_or l j 0 ≡ get_or l₀ j 0

module _ (t : Lts) (home : List ℕ) (b : ℕ) (elements : List ℕ) (x z : ℕ) (s : Stands t.n elements home b x z) where
  abbrev rows : ℕ → List ℕ
  rows j = inner_rows t home b (get_or elements (x + j) 0)

  pub inner_few : (k : ℕ) → x + k ≤ z → length (inner_of t home b elements x k) ≤ t.m
  inner_few k w =
      let state : ℕ → ℕ = λ j. get_or elements (x + j) 0 in
      omega (
        arith,
        length-laid rows k
            ∙ sum_cong (λ j. length (rows j)) (λ j. many t.m (λ i. eqb (get_or t.source i 0) (state j) && innerb t home b i)) k
            (λ j w. length_inner t home b (state j)),
        owned_few t.m (λ i. get_or t.source i 0) (innerb t home b) state k
            (λ i j a c e. s.stand.once i j (omega (arith, w, a)) (omega (arith, w, c)) e),
      )

  pub gather_start : (l₀ : List ℕ) → Gathered t home b elements x z l₀ 0 x l₀
  gather_start l₀ =
      let none : x - x ≡ 0 = omega arith in
      let e : inner_of t home b elements x (x - x) ≡ [] = ap (laid rows) none ∙ laid_none rows in
      record { low = omega arith; high = s.low; exact = sym (ap length e); cells = sym e; size = refl; rest = λ j w. refl }

  module _ (l₀ : List ℕ) (h k : ℕ) (l : List ℕ) (p : Gathered t home b elements x z l₀ h k l) where
    whole : x + (k - x) ≡ k
    whole = omega (arith, p.low)

    here : rows (k - x) ≡ inner_rows t home b (get_or elements k 0)
    here = ap (λ (j : ℕ). inner_rows t home b (get_or elements j 0)) whole

    pub gather_few : h ≤ t.m
    gather_few = omega (arith, p.exact, inner_few (k - x) (omega (arith, p.low, p.high)))

    module _ (w : k < z) where
      -- there is room for the rows of the next state
      pub gather_room : h + length (inner_rows t home b (get_or elements k 0)) ≤ t.m
      gather_room =
          omega (
            arith,
            p.exact,
            ap length here,
            laid_up rows (k - x) ((k - x) + 1) (omega arith),
            inner_few ((k - x) + 1) (omega (arith, p.low, w)),
          )

      pub gather_more :
          (r : ℕ) (y : List ℕ) → take r y ≡ take h l ++ inner_rows t home b (get_or elements k 0) →
          r ≡ h + length (inner_rows t home b (get_or elements k 0))
          → length y ≡ length l → ((j : ℕ) → r ≤ j → get_or y j 0 ≡ get_or l j 0) → Gathered t home b elements x z l₀ r (k + 1) y
      gather_more r y c e q n =
          let next : (k + 1) - x ≡ (k - x) + 1 = omega (arith, p.low) in
          let more : inner_of t home b elements x ((k + 1) - x) ≡ inner_of t home b elements x (k - x) ++
          inner_rows t home b (get_or elements k 0)
          = ap (laid rows) next ∙ laid_more rows (k - x) ∙ ap (λ (a : List ℕ). inner_of t home b elements x (k - x) ++ a) here in
          let all : take r y ≡ inner_of t home b elements x ((k + 1) - x)
          = c ∙ ap (λ (a : List ℕ). a ++ inner_rows t home b (get_or elements k 0)) p.cells ∙ sym more in
          record {
            low = omega (arith, p.low);
            high = omega arith;
            exact = omega (
              arith,
              e,
              p.exact,
              ap length more,
              length-append (inner_of t home b elements x (k - x)) (inner_rows t home b (get_or elements k 0)),
            );
            cells = all;
            size = q ∙ p.size;
            rest = λ j g. n j g ∙ p.rest j (omega (arith, g, e));
          }

    pub gather_done : z ≤ k → take h l ≡ inner_of t home b elements x (z - x)
    gather_done w = let e : k ≡ z = omega (arith, p.high, w) in p.cells ∙ ap (λ (j : ℕ). inner_of t home b elements x (j - x)) e
