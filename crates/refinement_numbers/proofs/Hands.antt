-- The loop that hands out the numbers by least member.
use mathlib.Core.Path.{◌≡◌, refl, sym, ap, ◌∙◌}
use mathlib.Core.List.{List}
use Prim.Native.Nat.{ℕ, ◌+◌, ◌-◌, ◌≤◌, ◌<◌}
use native.Mathlib.Omega.{arith}
use lib.ListN.{length, get_or, set}
use Rattle.columns.specs.Blocks.{block_of}
use Rattle.columns.specs.Columns.{listed, over, zeros}
use Rattle.columns.specs.Counting.{many}
use Rattle.columns.specs.Number.{leads, number}
use Rattle.columns.proofs.Lists.{Painted, painted_none, painted_more, painted_done, zeros_at}
use Rattle.refinement.specs.Blocks.{share, block_count, by_least}
use Rattle.refinement.proofs.Handing.{Handed, hand_none, hand_next, hand_more, hand_number, hand_known}

-- the states below s have their numbers
pub record Hand (n : ℕ) (p block₀ notes₀ : List ℕ) (s : ℕ) (block notes : List ℕ) (next : ℕ) : Type 0 where
  pub handed : Handed p s next notes
  pub few : next ≤ s
  pub painted : Painted (number (share p)) n block₀ s block

module _ {n : ℕ} {p block₀ notes₀ : List ℕ} where
  pub give_none : notes₀ ≡ zeros (length notes₀) → Hand n p block₀ notes₀ 0 block₀ notes₀ 0
  give_none z = record {
    handed = hand_none p notes₀ (λ b. ap (λ (l : List ℕ). get_or l b 0) z ∙ zeros_at (length notes₀) b);
    few = omega arith;
    painted = painted_none (number (share p)) n block₀;
  }

  module _ {s : ℕ} {block notes : List ℕ} {next : ℕ} (h : Hand n p block₀ notes₀ s block notes next) where
    module _ (room : n ≤ length block₀) (w : s < n) {b k : ℕ} (eb : b ≡ get_or p s 0) (ek : k ≡ get_or notes b 0) where
      here : get_or notes (block_of p s) 0 ≡ k
      here = ap (λ (x : ℕ). get_or notes x 0) (sym eb) ∙ sym ek

      -- a block without a number
      pub give_new : k ≡ 0 → b < length notes → Hand n p block₀ notes₀ (s + 1) (set block s next) (set notes b (next + 1)) (next + 1)
      give_new z l = record {
        handed = rw eb (hand_more p s next notes h.handed (here ∙ z) (rw eb at l));
        few = omega (arith, h.few);
        painted =
            painted_more (number (share p)) n block₀ s block next room w (hand_next p s next notes h.handed (here ∙ z))
            h.painted;
      }

      -- one that has its number
      pub give_old : (k ≡ 0 → ⊥) → Hand n p block₀ notes₀ (s + 1) (set block s (k - 1)) notes next
      give_old m =
          let e : get_or notes (block_of p s) 0 ≡ number (share p) s + 1 = hand_number p s next notes h.handed (λ z. m (sym here ∙ z)) in
          record {
            handed = hand_known p s next notes h.handed (λ z. m (sym here ∙ z));
            few = omega (arith, h.few);
            painted = painted_more (number (share p)) n block₀ s block (k - 1) room w (omega (arith, e, here)) h.painted;
          }

    pub give_done : n ≤ s → (next ≡ block_count n p) × (block ≡ over (by_least n p) block₀)
    unfolding block_count by_least
    give_done l =
        let e : s ≡ n = omega (arith, l, h.painted.0) in (
          h.handed.exact ∙ ap (λ (k : ℕ). many k (leads (share p))) e,
          painted_done (number (share p)) n block₀ s block (listed n (number (share p))) h.painted l refl,
        )
