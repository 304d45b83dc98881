-- The number of blocks, where a partition's numbers are below a bound: at most the bound, and the bound where each of them has a state.
use mathlib.Core.Path.{◌≡◌, refl, sym, ◌∙◌}
use mathlib.Core.Bool.{Bool, true, false, cond, ◌&&◌}
use mathlib.Core.List.{List}
use Prim.Native.Nat.{ℕ, ◌≤◌, ◌<◌}
use native.Mathlib.Nat.{le_antisymm}
use native.Mathlib.Omega.{arith}
use borrow.Author.Tests.{eqb-true, eq-eqb}
use lib.Dec.{eqb}
use Rattle.columns.specs.Blocks.{block_of}
use Rattle.columns.specs.Counting.{sum, many, bit}
use Rattle.columns.specs.Number.{least, leads}
use Rattle.columns.proofs.Bools.{and_left, and_right, and_both}
use Rattle.columns.proofs.Counting.{many-sum, many_once, many_strict}
use Rattle.columns.proofs.Numbering.{least_le, least_eq, least_same, least_leads, leads_least}
use Rattle.columns.proofs.Owners.{by_numbers}
use Rattle.columns.proofs.Sums.{sum_cong, sum_mono, sum_one, sum_pick}
use Rattle.refinement.specs.Blocks.{share, block_count}
use Rattle.refinement.proofs.Blocks.{share_in, share_out, share_equivalence, Member}

-- each block has one least member
module _ (n c : ℕ) (p : List ℕ) (below : (s : ℕ) → s < n → block_of p s < c) where
  -- the least member of block b
  heads : ℕ → ℕ → Bool
  heads b s = eqb (block_of p s) b && leads (share p) s

  one_head : (b : ℕ) → many n (heads b) ≤ 1
  unfolding heads
  one_head b = many_once n (heads b) only
    where
      lead : (s : ℕ) → heads b s ≡ true → least (share p) s ≡ s
      lead s e = leads_least (share p) (share_equivalence p) s (and_right (eqb (block_of p s) b) (leads (share p) s) e)

      home : (s : ℕ) → heads b s ≡ true → block_of p s ≡ b
      home s e = eqb-true _ _ (and_left (eqb (block_of p s) b) (leads (share p) s) e)

      only : (s t : ℕ) → s < n → t < n → heads b s ≡ true → heads b t ≡ true → s ≡ t
      only s t hs ht e f =
          sym (lead s e) ∙ least_same (share p) (share_equivalence p) s t (share_in p s t (home s e ∙ sym (home t f))) ∙ lead t f

  in_one : (s : ℕ) → s < n → many c (λ b. heads b s) ≡ bit (leads (share p) s)
  unfolding heads
  in_one s h =
      many-sum c (λ b. heads b s)
      ∙ sum_cong (λ b. bit (heads b s)) (λ b. cond (eqb (block_of p s) b) (bit (leads (share p) s)) 0) c
      (λ b _. pull (eqb (block_of p s) b) (leads (share p) s))
      ∙ sum_pick (block_of p s) c (λ _. bit (leads (share p) s)) (below s h)
    where
      pull : (x o : Bool) → bit (x && o) ≡ cond x (bit o) 0
      pull true o = refl
      pull false o = refl

  by_heads : block_count n p ≡ sum (λ b. many n (heads b)) c
  unfolding block_count heads
  by_heads =
      many-sum n (leads (share p))
      ∙ sum_cong (λ s. bit (leads (share p) s)) (λ s. many c (λ b. heads b s)) n (λ s h. sym (in_one s h))
      ∙ sym (by_numbers n (block_of p) (leads (share p)) (λ b. b) c)

  pub blocks-below : block_count n p ≤ c
  blocks-below = omega (arith, by_heads, sum_mono (λ b. many n (heads b)) (λ _. 1) c (λ b _. one_head b), sum_one c)

  module _ (onto : (b : ℕ) → b < c → Member n p b) where
    some_head : (b : ℕ) → b < c → 0 < many n (heads b)
    unfolding heads
    some_head b h = omega (arith, many_strict at n (heads b) at_below at_heads)
      where
        some : Member n p b
        some = onto b h

        at : ℕ
        at = least (share p) some.state

        at_below : at < n
        at_below = omega (arith, least_le (share p) (share_equivalence p) some.state, some.below)

        at_heads : heads b at ≡ true
        at_heads =
            and_both (eq-eqb _ _ (share_out p at some.state (least_eq (share p) (share_equivalence p) some.state) ∙ some.home))
            (least_leads (share p) (share_equivalence p) some.state)

    pub dense_blocks : block_count n p ≡ c
    dense_blocks =
        by_heads ∙ sum_cong (λ b. many n (heads b)) (λ _. 1) c (λ b h. le_antisymm (one_head b) (some_head b h)) ∙ sum_one c
