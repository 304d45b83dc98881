-- Of which block the state at each place is: each place is one of one block's, and within that block's bounds.
use Prim.Native.Nat.{ℕ, ◌-◌, ◌≤◌, ◌<◌}
use native.Mathlib.Omega.{arith}
use mathlib.Core.Path.{◌≡◌, ◌∙◌}
use lib.ListN.{get_or}
use Rattle.columns.specs.Counting.{sum}
use Rattle.columns.specs.Inverse.{Inverse}
use Rattle.columns.proofs.Sums.{sum_cong, sum_one, sum-swap, hit, hits_one, ins, sum_ins}
use Rattle.partition.specs.Partition.{Partition, home_of, Within, Lies}

-- the block of the state at place k
unfoldable pub home_at : Partition → ℕ → ℕ
home_at p k = home_of p (get_or p.elements k 0)

-- a stretch has as many places as it is long
pub stretch_long : (x m z n : ℕ) → Within x m z n → sum (ins x z) n ≡ z - x
stretch_long x m z n w = omega (arith, sum_ins x z n (omega (arith, w.some)), w.some, w.most)

module _ (p : Partition) (order : Inverse p.elements p.element_offset p.n) (lies : (s : ℕ) → s < p.n → Lies p s) where
  pub home_known : (k : ℕ) → k < p.n → home_at p k < p.count
  unfolding home_at
  home_known k l = (lies _ (order.below k l)).known

  pub home_holds : (k : ℕ) → k < p.n → (get_or p.begin (home_at p k) 0 ≤ k) × (k < get_or p.end (home_at p k) 0)
  unfolding home_at
  home_holds k l =
      let w = lies _ (order.below k l) in
      let e = order.back k l in
      (omega (arith, w.from, e), omega (arith, w.to, e))

  -- the states of each block, counted and added up
  pub all_homes : sum (λ b. sum (λ k. hit (home_at p k) b) p.n) p.count ≡ p.n
  all_homes =
      sum-swap (λ b k. hit (home_at p k) b) p.count p.n
      ∙ sum_cong (λ k. sum (hit (home_at p k)) p.count) (λ _. 1) p.n (λ k l. hits_one (home_at p k) p.count (home_known k l))
      ∙ sum_one p.n
