-- The loop that lists the rows that stay, as it stands between two turns.
use Rattle.std.specs.Prelude.{◌≡◌, ℕ, ◌+◌, ◌-◌, ◌<◌, ◌≤◌, true, false, not, List, length, get_or, set}
use mathlib.Core.Path.{ap, ◌∙◌}
use native.Mathlib.Omega.{arith}
use Rattle.columns.proofs.Listing.{Listing, list_start, list_more, list_skip}
use Rattle.table.specs.Lts.{Lts}
use Rattle.table.specs.Marks.{marks_from}
use Rattle.quotient_redundant.specs.Redundant.{redundant, remains}

-- the rows before i are seen, and those that stay are listed in k cells; the forward marks are of the row before
pub record Remaining (t : Lts) (order₀ forward order : List ℕ) (i k : ℕ) : Type 0 where
  pub few : k ≤ i
  pub marks : 0 < i → forward ≡ marks_from t (get_or t.source (i - 1) 0)
  pub listing : Listing (remains t) 0 t.m 0 order₀ i k order

module _ (t : Lts) (order₀ : List ℕ) where
  pub remain_start : (forward : List ℕ) → Remaining t order₀ forward order₀ 0 0
  remain_start forward = record {
    few = omega arith;
    marks = λ h. absurd (omega (arith, h));
    listing = list_start (remains t) 0 t.m 0 order₀ (omega arith) (λ j h. absurd (omega (arith, h)));
  }

  module _ (forward order : List ℕ) (i k : ℕ) (p : Remaining t order₀ forward order i k) where
    module _ (h : i < t.m) (marks : List ℕ) (e : marks ≡ marks_from t (get_or t.source i 0)) where
      again : 0 < i + 1 → marks ≡ marks_from t (get_or t.source ((i + 1) - 1) 0)
      again w = let q : i ≡ (i + 1) - 1 = omega arith in e ∙ ap (λ (j : ℕ). marks_from t (get_or t.source j 0)) q

      pub remain_go : redundant t i ≡ true → Remaining t order₀ marks order (i + 1) k
      unfolding remains
      remain_go r = record {
        few = omega (arith, p.few);
        marks = again;
        listing =
            list_skip (remains t) 0 t.m 0 order₀ i k order p.listing (i + 1) (omega arith) (omega arith)
            (λ j a b. let q : j ≡ i = omega (arith, a, b) in ap (λ (x : ℕ). remains t x) q ∙ ap not r);
      }

      pub remain_stay : redundant t i ≡ false → k < length order → Remaining t order₀ marks (set order k i) (i + 1) (k + 1)
      unfolding remains
      remain_stay r w = record {
        few = omega (arith, p.few);
        marks = again;
        listing = list_more (remains t) 0 t.m 0 order₀ i k order p.listing h (ap not r) w;
      }
