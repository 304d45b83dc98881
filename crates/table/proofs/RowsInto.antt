-- The laws of `incoming_rows_of`, and the only place that knows how its stretch is counted: of h rows listed by target, the one at k leads
-- to u exactly if first_into u <= k < first_into (u + 1).
use Rattle.std.specs.Prelude.{◌≡◌, ℕ, ◌+◌, ◌<◌, ◌≤◌, ltb, List}
use mathlib.Core.Path.{subst, sym}
use Rattle.table.specs.Stretch.{StretchOf, listed_target, ByTarget, first_into}
use Rattle.table.proofs.Finds.{FoundFrom}
use Rattle.table.proofs.Counted.{below-is, below_up, end-found, stretch}

module _ (target order : List ℕ) (h : ℕ) where
  abbrev to : ℕ → ℕ
  to k = listed_target target order k

  -- ---- what the search for a stretch goes by
  pub first_into_is :
      (u r : ℕ) → r ≤ h → ((k : ℕ) → k < r → listed_target target order k < u) → ((k : ℕ) → r ≤ k → k < h → u ≤ listed_target target order k)
      → r ≡ first_into target order h u
  unfolding first_into
  first_into_is = below-is to h

  pub first_into_up : (u v : ℕ) → u ≤ v → first_into target order h u ≤ first_into target order h v
  unfolding first_into
  first_into_up = below_up to h

  module _ (by : ByTarget target order h) where
    -- the rows into u end at the next place whose row leads above u
    pub into_end : (u a r : ℕ) → a ≤ first_into target order h (u + 1) → FoundFrom a h h (λ k. ltb u (listed_target target order k)) r →
        r ≡ first_into target order h (u + 1)
    unfolding first_into
    into_end = end-found to h by.rising

    own_stretch : (u : ℕ) → StretchOf to h u (first_into target order h u) (first_into target order h (u + 1))
    unfolding first_into
    own_stretch = stretch to h by.rising

    -- ---- what a caller goes by: the rows into u are listed from `first` to before `end`
    pub into_stretch :
        (u first end : ℕ) → first ≡ first_into target order h u → end ≡ first_into target order h (u + 1)
        → StretchOf (listed_target target order) h u first end
    into_stretch u first end ef ee =
        subst (λ (x : ℕ). StretchOf to h u x end) (sym ef)
        (subst (λ (z : ℕ). StretchOf to h u (first_into target order h u) z) (sym ee) (own_stretch u))
