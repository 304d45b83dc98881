-- The laws of `rows_of`, and the only place that knows how its stretch is counted: row i of the first m has source s exactly if
-- first_row s <= i < first_row (s + 1).
use Rattle.std.specs.Prelude.{◌≡◌, ℕ, ◌+◌, ◌<◌, ◌≤◌, Bool, true, false, eqb, ltb, List, get_or}
use native.Mathlib.Omega.{arith}
use borrow.Author.Tests.{eqb-true, eq-eqb}
use mathlib.Core.Path.{subst, sym}
use Rattle.columns.specs.Counting.{many}
use Rattle.columns.proofs.Bools.{fails}
use Rattle.table.specs.Lts.{Lts, Valid}
use Rattle.columns.specs.Columns.{NeverFalls}
use Rattle.table.specs.Stretch.{StretchOf, first_row}
use Rattle.table.proofs.Finds.{FoundFrom}
use Rattle.table.proofs.Counted.{below-is, below_most, below_up, below_next, place_before, place_from, end-found, stretch}
use Rattle.table.proofs.Stretches.{rising}

module _ (source : List ℕ) (m : ℕ) where
  abbrev from : ℕ → ℕ
  from i = get_or source i 0

  -- ---- what the search for a stretch goes by
  pub first_row_is :
      (s r : ℕ) → r ≤ m → ((i : ℕ) → i < r → get_or source i 0 < s) → ((i : ℕ) → r ≤ i → i < m → s ≤ get_or source i 0) →
      r ≡ first_row source m s
  unfolding first_row
  first_row_is = below-is from m

  pub first_row_most : (s : ℕ) → first_row source m s ≤ m
  unfolding first_row
  first_row_most = below_most from m

  pub first_row_up : (s u : ℕ) → s ≤ u → first_row source m s ≤ first_row source m u
  unfolding first_row
  first_row_up = below_up from m

  module _ (up : NeverFalls source m) where
    -- a row is before the first row of s exactly if its source is below s
    pub before_row : (s i : ℕ) → i < m → get_or source i 0 < s → i < first_row source m s
    unfolding first_row
    before_row = place_before from m up

    pub from_row : (s i : ℕ) → i < m → s ≤ get_or source i 0 → first_row source m s ≤ i
    unfolding first_row
    from_row = place_from from m up

    -- the rows of s end at the next row whose source is above s
    pub rows_end : (s a r : ℕ) → a ≤ first_row source m (s + 1) → FoundFrom a m m (λ i. ltb s (get_or source i 0)) r →
        r ≡ first_row source m (s + 1)
    unfolding first_row
    rows_end = end-found from m up

    own_stretch : (s : ℕ) → StretchOf from m s (first_row source m s) (first_row source m (s + 1))
    unfolding first_row
    own_stretch = stretch from m up

    -- ---- what a caller goes by: the rows of s are those from `first` to before `end`
    pub rows-stretch :
        (s first end : ℕ) → first ≡ first_row source m s → end ≡ first_row source m (s + 1)
        → StretchOf (λ i. get_or source i 0) m s first end
    rows-stretch s first end ef ee =
        subst (λ (x : ℕ). StretchOf from m s x end) (sym ef)
        (subst (λ (z : ℕ). StretchOf from m s (first_row source m s) z) (sym ee) (own_stretch s))

  -- the stretches of two states lie apart, in the order of the states
  pub rows_apart : (s u : ℕ) → s < u → first_row source m (s + 1) ≤ first_row source m u
  rows_apart s u h = first_row_up (s + 1) u (omega arith)

  -- a stretch is as long as the state has rows
  pub rows_count : (s : ℕ) → first_row source m (s + 1) ≡ first_row source m s + many m (λ i. eqb (get_or source i 0) s)
  unfolding first_row
  rows_count = below_next from m

-- ---- of a checked table, as a test of every row
-- row i is one of state s
abbrev pub own_row : Lts → ℕ → ℕ → Bool
own_row t s i = eqb (get_or t.source i 0) s

-- first and end bound the rows of s
pub record RowsFrom (t : Lts) (s first end : ℕ) : Type 0 where
  pub stretch : StretchOf (λ i. get_or t.source i 0) t.m s first end
  pub up : first ≤ end
  pub most : end ≤ t.m
  pub before : (i : ℕ) → i < first → own_row t s i ≡ false
  pub own : (i : ℕ) → first ≤ i → i < end → own_row t s i ≡ true
  pub after : (i : ℕ) → end ≤ i → i < t.m → own_row t s i ≡ false

pub rows_from :
    (t : Lts) → Valid t → (s first end : ℕ) → first ≡ first_row t.source t.m s → end ≡ first_row t.source t.m (s + 1)
    → RowsFrom t s first end
rows_from t v s first end ef ee =
    let r = rows-stretch t.source t.m (rising t v) s first end ef ee in
    record {
      stretch = r;
      up = r.low;
      most = r.most;
      before = λ i l. fails (λ e. omega (arith, l, (r.exactly i (omega (arith, l, r.low, r.most))).0 (eqb-true _ _ e)));
      own = λ i a b. eq-eqb _ _ ((r.exactly i (omega (arith, b, r.most))).1 (a, b));
      after = λ i a b. fails (λ e. omega (arith, a, (r.exactly i b).0 (eqb-true _ _ e)));
    }

-- a row between the bounds
pub record Own (t : Lts) (s i : ℕ) : Type 0 where
  pub below : i < t.m
  pub own : get_or t.source i 0 ≡ s

pub own_row_in : {t : Lts} {s first end : ℕ} → RowsFrom t s first end → (i : ℕ) → first ≤ i → i < end → Own t s i
own_row_in {t = t} r i a b =
    let h : i < t.m = omega (arith, b, r.most) in
    record { below = h; own = (r.stretch.exactly i h).1 (a, b) }
