-- A loop that opens a list for each number that passes.
use Rattle.std.specs.Prelude.{◌≡◌, ℕ, suc, ◌+◌, ◌<◌, ◌≤◌, Bool, true, false, List, map, length}
use native.Mathlib.Omega.{arith}
use mathlib.Core.Path.{refl, ap, sym, ◌∙◌}
use mathlib.Core.Logic.{⊎_elim}
use Rattle.columns.specs.Counting.{many, members}
use Rattle.columns.proofs.All.{top_or-below, lt-or-le, not-below}
use Rattle.columns.proofs.Bools.{contra}
use Rattle.columns.proofs.Chosen.{length-chosen, chosen_of}
use Rattle.columns.proofs.Counting.{bit_true, bit_false, many-suc, many_nothing, many_up, many_strict, Ranked, many_onto}
use Rattle.pairs_merge.specs.Merged.{wide}
use Rattle.pairs.specs.Lists.{start_at}
use Rattle.signatures_sorted.specs.Joining.{Opened}

-- of the numbers from `first` to before `end`, those below i are seen; k of them passed, and the head at the rank of each is the list
-- of its state, which g gives; the heads behind are as they were
pub record Opening
    (starts : List ℕ) (g : ℕ → ℕ) (f : ℕ → Bool) (first end : ℕ) (high₀ low₀ endHigh₀ endLow₀ : List ℕ) (i k : ℕ)
    (high low end_high end_low : List ℕ) :
    Type 0 where
  pub from : first ≤ i
  pub upto : i ≤ end
  pub count : k ≡ many i f
  pub places : (r : ℕ) → r < i → f r ≡ true → wide high low (many r f) ≡ start_at starts (g r)
  pub ends : (r : ℕ) → r < i → f r ≡ true → wide end_high end_low (many r f) ≡ start_at starts (g r + 1)
  pub behind : (j : ℕ) → k ≤ j → (wide high low j ≡ wide high₀ low₀ j) × (wide end_high end_low j ≡ wide endHigh₀ endLow₀ j)
  pub same_high : length high ≡ length high₀
  pub same_low : length low ≡ length low₀
  pub same_end_high : length end_high ≡ length endHigh₀
  pub same_end_low : length end_low ≡ length endLow₀

module _ {starts : List ℕ} {g : ℕ → ℕ} {f : ℕ → Bool} {first end : ℕ} {high₀ low₀ endHigh₀ endLow₀ : List ℕ} where
  pub opening_start :
      first ≤ end → ((k : ℕ) → k < first → f k ≡ false)
      → Opening starts g f first end high₀ low₀ endHigh₀ endLow₀ first 0 high₀ low₀ endHigh₀ endLow₀
  opening_start h n = record {
    from = omega arith;
    upto = h;
    count = sym (many_nothing first f n);
    places = λ r w e. absurd (contra e (n r w));
    ends = λ r w e. absurd (contra e (n r w));
    behind = λ j l. (refl, refl);
    same_high = refl;
    same_low = refl;
    same_end_high = refl;
    same_end_low = refl;
  }

  module _ {i k : ℕ} {high low end_high end_low : List ℕ}
      (p : Opening starts g f first end high₀ low₀ endHigh₀ endLow₀ i k high low end_high end_low) where
    module _ (h : i < end) where
      -- head k becomes a list, the others stay
      pub opening_more :
          {a b c d : List ℕ} → f i ≡ true → (wide a b k ≡ start_at starts (g i)) × (wide c d k ≡ start_at starts (g i + 1))
          → ((j : ℕ) → (j ≡ k → ⊥) → (wide a b j ≡ wide high low j) × (wide c d j ≡ wide end_high end_low j)) → length a ≡ length high
          → length b ≡ length low → length c ≡ length end_high → length d ≡ length end_low
          → Opening starts g f first end high₀ low₀ endHigh₀ endLow₀ (i + 1) (k + 1) a b c d
      opening_more {a} {b} {c} {d} t new old la lb lc ld = record {
        from = omega (arith, p.from);
        upto = omega arith;
        count = omega (arith, p.count, many-suc i f, bit_true (f i) t);
        places = λ r w e.
            ⊎_elim (λ (q : r ≡ i). ap (wide a b) (rank r q) ∙ new.0 ∙ ap (λ (s : ℕ). start_at starts (g s)) (sym q))
            (λ (l : r < i). (old (many r f) (other r l e)).0 ∙ p.places r l e) (top_or-below (seen r w));
        ends = λ r w e.
            ⊎_elim (λ (q : r ≡ i). ap (wide c d) (rank r q) ∙ new.1 ∙ ap (λ (s : ℕ). start_at starts (g s + 1)) (sym q))
            (λ (l : r < i). (old (many r f) (other r l e)).1 ∙ p.ends r l e) (top_or-below (seen r w));
        behind = λ j l.
            let o = old j (λ e. omega (arith, e, l)) in
            let q = p.behind j (omega (arith, l)) in (o.0 ∙ q.0, o.1 ∙ q.1);
        same_high = la ∙ p.same_high;
        same_low = lb ∙ p.same_low;
        same_end_high = lc ∙ p.same_end_high;
        same_end_low = ld ∙ p.same_end_low;
      }
        where
          seen : (r : ℕ) → r < i + 1 → r < suc i
          seen r w = omega arith

          rank : (r : ℕ) → r ≡ i → many r f ≡ k
          rank r q = ap (λ (s : ℕ). many s f) q ∙ sym p.count

          other : (r : ℕ) → r < i → f r ≡ true → many r f ≡ k → ⊥
          other r l e q = omega (arith, many_strict r i f l e, p.count)

      pub opening_pass : f i ≡ false → Opening starts g f first end high₀ low₀ endHigh₀ endLow₀ (i + 1) k high low end_high end_low
      opening_pass t = record {
        from = omega (arith, p.from);
        upto = omega arith;
        count = omega (arith, p.count, many-suc i f, bit_false (f i) t);
        places = λ r w e. p.places r (below r w e) e;
        ends = λ r w e. p.ends r (below r w e) e;
        behind = p.behind;
        same_high = p.same_high;
        same_low = p.same_low;
        same_end_high = p.same_end_high;
        same_end_low = p.same_end_low;
      }
        where
          seen : (r : ℕ) → r < i + 1 → r < suc i
          seen r w = omega arith

          below : (r : ℕ) → r < i + 1 → f r ≡ true → r < i
          below r w e = ⊎_elim (λ (q : r ≡ i). absurd (contra e (ap f q ∙ t))) (λ (l : r < i). l) (top_or-below (seen r w))

    pub opening_done :
        (m : ℕ) → end ≤ i → end ≤ m → ((r : ℕ) → end ≤ r → r < m → f r ≡ false)
        → Opened starts (map g (members m f)) k high low end_high end_low
    opening_done m h w n = record {
      count = omega (arith, length-chosen f g m, p.count, all_seen);
      place = λ j l.
          let r = ranked j l in
          ap (wide high low) (sym r.rank) ∙ p.places r.at (seen r.at r.below r.passes) r.passes
          ∙ ap (start_at starts) (sym (chosen_of f g m j r));
      end = λ j l.
          let r = ranked j l in
          ap (wide end_high end_low) (sym r.rank) ∙ p.ends r.at (seen r.at r.below r.passes) r.passes
          ∙ ap (λ (u : ℕ). start_at starts (u + 1)) (sym (chosen_of f g m j r));
    }
      where
        seen : (r : ℕ) → r < m → f r ≡ true → r < i
        seen r l e = ⊎_elim (λ (q : r < i). q) (λ (q : i ≤ r). absurd (contra e (n r (omega arith) l))) (lt-or-le r i)

        none_more : many i f < many m f → ⊥
        none_more l = let r = many_onto m f (many i f) l in
            omega (arith, r.rank, many_strict r.at i f (seen r.at r.below r.passes) r.passes)

        all_seen : many i f ≡ many m f
        all_seen = omega (arith, many_up i m f (omega (arith, p.upto)), not-below none_more)

        ranked : (j : ℕ) → j < k → Ranked m f j
        ranked j l = many_onto m f j (omega (arith, p.count, all_seen))
