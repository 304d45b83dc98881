-- A walk that finds no bottom state comes back to a state, and one that comes back finds none.
use Rattle.std.specs.Prelude.{◌≡◌, ℕ, zero, suc, ◌+◌, ◌<◌, ◌≤◌, Bool, true, false, eqb, ◌⊎◌, ◌↔◌, List}
use native.Mathlib.Omega.{arith}
use borrow.Author.Tests.{eqb-true, eq-eqb}
use mathlib.Core.Path.{refl, sym, ap, ◌∙◌}
use mathlib.Core.Logic.{inl, inr, ⊎_elim}
use Rattle.columns.specs.Counting.{many, some}
use Rattle.columns.proofs.All.{top_or-below, lt-or-le}
use Rattle.columns.proofs.Bools.{bool_ext, contra, fails}
use Rattle.columns.proofs.Counting.{many_nothing, many_one_more, many-le}
use Rattle.columns.proofs.Firsts.{some_in, some_out, some-none}
use Rattle.quotient_block.specs.Bottom.{bottom, next_on, walked, bottom_from}
use Rattle.quotient_block.proofs.Walks.{walked-suc, walked_state, walked_still, bottom_lost}
use Rattle.table.specs.Lts.{Lts, Valid}

-- ---- more values than there is room for
-- two numbers below k have one value
pub record Meets (f : ℕ → ℕ) (k : ℕ) : Type 0 where
  pub early : ℕ
  pub late : ℕ
  pub later : early < late
  pub below : late < k
  pub same : f early ≡ f late

module _ (n : ℕ) (f : ℕ → ℕ) (h : (i : ℕ) → f i < n) where
  -- u is one of the first k values
  abbrev seen : ℕ → ℕ → Bool
  seen k u = some k (λ i. eqb (f i) u)

  seen_more : (k : ℕ) → seen k (f k) ≡ false → many n (seen (suc k)) ≡ suc (many n (seen k))
  seen_more k e =
      many_one_more n (f k) (seen k) (seen (suc k)) (h k) e
      (some_in (suc k) (λ i. eqb (f i) (f k)) k (omega arith) (eq-eqb (f k) (f k) refl))
      (λ u d.
      bool_ext (seen (suc k) u) (seen k u)
      (λ z.
      let g = some_out (suc k) (λ i. eqb (f i) u) z in
      ⊎_elim (λ (q : g.at ≡ k). absurd (d (sym (eqb-true _ _ g.passes) ∙ ap f q)))
      (λ (l : g.at < k). some_in k (λ i. eqb (f i) u) g.at l g.passes) (top_or-below g.below))
      (λ z.
      let g = some_out k (λ i. eqb (f i) u) z in
      some_in (suc k) (λ i. eqb (f i) u) g.at (omega (arith, g.below)) g.passes))

  meets_or : (k : ℕ) → Meets f k ⊎ (many n (seen k) ≡ k)
  meets_or zero = inr (many_nothing n (seen 0) (λ u w. some-none 0 (λ i. eqb (f i) u) (λ i z. absurd (omega (arith, z)))))
  meets_or (suc k) = ⊎_elim (λ m. inl (more m)) (λ (e : many n (seen k) ≡ k). go e (seen k (f k)) refl) (meets_or k)
    where
      more : Meets f k → Meets f (suc k)
      more m = record { early = m.early; late = m.late; later = m.later; below = omega (arith, m.below); same = m.same }

      go : many n (seen k) ≡ k → (b : Bool) → seen k (f k) ≡ b → Meets f (suc k) ⊎ (many n (seen (suc k)) ≡ suc k)
      go e true q =
          let g = some_out k (λ i. eqb (f i) (f k)) q in
          inl (record { early = g.at; late = k; later = g.below; below = omega arith; same = eqb-true _ _ g.passes })
      go e false q = inr (seen_more k q ∙ ap suc e)

  meets : Meets f (suc n)
  meets =
      ⊎_elim (λ (m : Meets f (suc n)). m)
      (λ (e : many n (seen (suc n)) ≡ suc n). absurd (omega (arith, many-le n (seen (suc n))))) (meets_or (suc n))

-- ---- the walk comes back to a state, each step up to there being one along a row
pub record Returning (t : Lts) (home : List ℕ) (s : ℕ) : Type 0 where
  pub early : ℕ
  pub late : ℕ
  pub later : early < late
  pub same : walked t home early s ≡ walked t home late s
  pub on : (j : ℕ) → j < late → bottom t home (walked t home j s) ≡ false

module _ (t : Lts) (home : List ℕ) (s : ℕ) where
  -- then it never meets a bottom state
  module _ (r : Returning t home s) where
    round : (k : ℕ) → (j : ℕ) × (j < r.late) × (walked t home k s ≡ walked t home j s)
    round zero = (0, omega (arith, r.later), refl)
    round (suc k) =
        let q = round k in
        let e : walked t home (suc k) s ≡ walked t home (q.0 + 1) s
        = ap (λ (i : ℕ). walked t home i s) (omega arith)
        ∙ (walked-suc t home s k ∙ ap (next_on t home) q.2 ∙ sym (walked-suc t home s q.0)) in
        ⊎_elim (λ (l : q.0 + 1 < r.late). (q.0 + 1, l, e))
        (λ (l : r.late ≤ q.0 + 1).
        (r.early, r.later, e ∙ ap (λ (i : ℕ). walked t home i s) (omega (arith, q.1, l)) ∙ sym r.same))
        (lt-or-le (q.0 + 1) r.late)

    never_bottom : (k : ℕ) → bottom t home (walked t home k s) ≡ false
    never_bottom k = let q = round k in ap (bottom t home) q.2 ∙ r.on q.0 q.1

  -- no bottom state is found exactly if the walk comes back to a state
  pub lost_exactly : Valid t → s < t.n → (bottom_from t home s ≡ t.n) ↔ Returning t home s
  unfolding bottom_from
  lost_exactly v h = (
    λ e.
        let m = meets t.n (λ k. walked t home k s) (walked_state t home s v h) in
        record {
          early = m.early;
          late = m.late;
          later = m.later;
          same = m.same;
          on = λ j w.
              fails (λ q.
              contra (ap (bottom t home) (walked_still t home s j t.n (omega (arith, w, m.below)) q) ∙ q)
              (bottom_lost t home s v h e));
        },
    λ r. rw (never_bottom r t.n) refl,
  )
