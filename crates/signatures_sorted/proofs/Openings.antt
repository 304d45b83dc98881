-- The lists that a state takes: how many there are, whose they are, and that once opened they can be merged.
use Rattle.std.specs.Prelude.{◌≡◌, ℕ, ◌+◌, ◌-◌, ◌<◌, ◌≤◌, true, eqb, ltb, List, length, get_or}
use native.Mathlib.Omega.{arith}
use borrow.Author.Tests.{ltb-true, eqb-true}
use mathlib.Core.Path.{ap₂, sym, ◌∙◌}
use mathlib.Core.Logic.{⊎_elim}
use Rattle.columns.specs.Columns.{listed}
use Rattle.columns.specs.Counting.{many}
use Rattle.columns.specs.Sets.{Pair, pair_lt, row_lt}
use Rattle.columns.proofs.Bools.{and_left, and_right}
use Rattle.columns.proofs.Chosen.{length-chosen, chosen_of, few_rising}
use Rattle.columns.proofs.Counting.{Ranked, many_onto}
use Rattle.columns.proofs.Facts.{at_mem, mem_at}
use Rattle.columns.proofs.Lists.{length-listed}
use Rattle.columns.proofs.Orders.{lex-split, ltb_order, pair_order}
use Rattle.columns.specs.Rows.{row_in, pair_at, pairs_between}
use Rattle.pairs_merge.specs.Merged.{heads, head_place, end_at}
use Rattle.pairs_merge.specs.Rest.{rest_of, left_of, Mergeable}
use Rattle.table.specs.Hidden.{hidden_in}
use Rattle.pairs.specs.Lists.{start_at, list_at, Lists}
use Rattle.pairs.proofs.Refusals.{shorter-left, shorter_right}
use Rattle.table.specs.Lts.{Lts, row_at, Valid}
use Rattle.signatures.specs.Strong.{own_rows}
use Rattle.signatures_sorted.specs.Joining.{Opened}
use Rattle.signatures_sorted.specs.Taking.{inner_row, inner_targets, Takes}
use Rattle.signatures_sorted.proofs.Pushed.{own_few, few_rows}

-- ---- what is left of a list that is opened is all of it
module _ {starts states : List ℕ} {k : ℕ} {high low end_high end_low : List ℕ} (labels blocks : List ℕ)
    (o : Opened starts states k high low end_high end_low) (j : ℕ) (h : j < k) where
  pub rest_opened : rest_of (heads labels blocks high low end_high end_low) j ≡ list_at starts labels blocks (get_or states j 0)
  unfolding rest_of pairs_between head_place end_at list_at
  rest_opened = ap₂ (λ (p q : ℕ). listed (q - p) (λ i. pair_at labels blocks (p + i))) (o.place j h) (o.end j h)

  pub left_opened : left_of (heads labels blocks high low end_high end_low) j ≡ length (list_at starts labels blocks (get_or states j 0))
  unfolding left_of head_place end_at list_at
  left_opened =
      ap₂ (λ (p q : ℕ). q - p) (o.place j h) (o.end j h)
      ∙ sym (length-listed {A = Pair} (start_at starts (get_or states j 0 + 1) - start_at starts (get_or states j 0))
      (λ i. pair_at labels blocks (start_at starts (get_or states j 0) + i)))

-- ---- the lists that state s takes
module _ (t : Lts) (home : List ℕ) (s : ℕ) where
  length_inner : length (inner_targets t home s) ≡ many t.m (inner_row t home s)
  unfolding inner_targets
  length_inner = length-chosen (inner_row t home s) (λ i. get_or t.target i 0) t.m

  -- list j is that of the row of rank j
  inner_of : (j : ℕ) (r : Ranked t.m (inner_row t home s) j) → get_or (inner_targets t home s) j 0 ≡ get_or t.target r.at 0
  unfolding inner_targets
  inner_of j r = chosen_of (inner_row t home s) (λ i. get_or t.target i 0) t.m j r

  inner_source : (i : ℕ) → inner_row t home s i ≡ true → get_or t.source i 0 ≡ s
  unfolding inner_row
  inner_source i e = eqb-true _ _ (and_left (eqb (get_or t.source i 0) s) (hidden_in t.label t.target home (get_or home s 0) i) e)

  inner_label : (i : ℕ) → inner_row t home s i ≡ true → get_or t.label i 0 ≡ 0
  unfolding inner_row hidden_in
  inner_label i e =
      eqb-true _ _
      (and_left (eqb (get_or t.label i 0) 0) (eqb (get_or home (get_or t.target i 0) 0) (get_or home s 0))
      (and_right (eqb (get_or t.source i 0) s) (hidden_in t.label t.target home (get_or home s 0) i) e))

  module _ (v : Valid t) where
    pub inner_below : (j : ℕ) → j < length (inner_targets t home s) → get_or (inner_targets t home s) j 0 < t.n
    inner_below j h = let r = many_onto t.m (inner_row t home s) j (omega (arith, length_inner)) in
        omega (arith, inner_of j r, (v.fields r.at r.below).target)

    -- rows of one state under one label have rising targets
    inner_rising : (i j : ℕ) → i < j → j < t.m → inner_row t home s i ≡ true → inner_row t home s j ≡ true →
        get_or t.target i 0 < get_or t.target j 0
    unfolding row_lt pair_lt row_in
    inner_rising i j h w p q =
        ⊎_elim (λ (l : ltb (get_or t.source i 0) (get_or t.source j 0) ≡ true). absurd
        (same_source (ltb-true (get_or t.source i 0) (get_or t.source j 0) l)))
        (λ (r : (get_or t.source i 0 ≡ get_or t.source j 0) ×
        (pair_lt (get_or t.label i 0, get_or t.target i 0) (get_or t.label j 0, get_or t.target j 0) ≡ true)).
        ⊎_elim (λ (l : ltb (get_or t.label i 0) (get_or t.label j 0) ≡ true). absurd
        (same_label (ltb-true (get_or t.label i 0) (get_or t.label j 0) l)))
        (λ (e : (get_or t.label i 0 ≡ get_or t.label j 0) × (ltb (get_or t.target i 0) (get_or t.target j 0) ≡ true)).
        ltb-true (get_or t.target i 0) (get_or t.target j 0) e.1)
        (lex-split ltb ltb ltb_order ltb_order (get_or t.label i 0, get_or t.target i 0) (get_or t.label j 0, get_or t.target j 0)
        r.1))
        (lex-split ltb pair_lt ltb_order pair_order (row_at t i) (row_at t j) (v.ascending i j h w))
      where
        same_source : get_or t.source i 0 < get_or t.source j 0 → ⊥
        same_source l = omega (arith, inner_source i p, inner_source j q)

        same_label : get_or t.label i 0 < get_or t.label j 0 → ⊥
        same_label l = omega (arith, inner_label i p, inner_label j q)

-- they are as many as the rows of s at most
pub few_inner : (t : Lts) (home : List ℕ) (s : ℕ) → length (inner_targets t home s) ≤ length (own_rows t s)
unfolding inner_row
few_inner t home s = omega (arith, length_inner t home s, own_few t s (hidden_in t.label t.target home (get_or home s 0)))

pub few_lists : (t : Lts) → Valid t → (home : List ℕ) (s : ℕ) → (length (inner_targets t home s) ≤ t.n) ×
    (length (inner_targets t home s) ≤ t.m)
few_lists t v home s = (
  omega (
    arith,
    length_inner t home s,
    few_rising (inner_row t home s) (λ i. get_or t.target i 0) t.m (inner_rising t home s v) t.n (λ i h e. (v.fields i h).target),
  ),
  omega (arith, few_inner t home s, few_rows t s),
)

-- ---- the lists that s takes
module _ (t : Lts) (home : List ℕ) (s : ℕ) (starts labels blocks : List ℕ) where
  -- of lists that are all checked, those can be taken
  pub lists_taken : Valid t → Lists starts t.n labels blocks → Takes t home starts labels blocks s
  lists_taken v g u m =
      let a = mem_at (inner_targets t home s) u m in
      let below : u < t.n = omega (arith, inner_below t home s v a.0 a.1, a.2) in
      record { inside = g.bounds.inside (u + 1) (omega (arith, below)); ascending = g.ascending u below }

  -- once opened they can be merged
  pub lists_ready :
      Takes t home starts labels blocks s → (k : ℕ) (high low end_high end_low : List ℕ)
      → Opened starts (inner_targets t home s) k high low end_high end_low → k ≤ length high → k ≤ length low → k ≤ length end_high
      → k ≤ length end_low → Mergeable (heads labels blocks high low end_high end_low) k
  unfolding end_at
  lists_ready g k high low end_high end_low o h l eh el = record {
    fit = λ j w.
        let inside = (g (get_or (inner_targets t home s) j 0) (at_mem (inner_targets t home s) j (omega (arith, o.count)))).inside in
        record {
          high = omega arith;
          low = omega arith;
          end_high = omega arith;
          end_low = omega arith;
          labels = omega (arith, o.end j w, inside, shorter-left (length labels) (length blocks));
          blocks = omega (arith, o.end j w, inside, shorter_right (length labels) (length blocks));
        };
    ascending = λ j w.
        rw (rest_opened labels blocks o j w)
        (g (get_or (inner_targets t home s) j 0) (at_mem (inner_targets t home s) j (omega (arith, o.count)))).ascending;
  }
