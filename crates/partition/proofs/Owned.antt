-- In a consistent partition the blocks' stretches do not overlap: each place of a block's stretch holds a state of that block.
-- The states of a block lie in its stretch, so there are at most as many as it is long; both add up to n, so they are as many.
use Prim.Native.Nat.{ℕ, ◌-◌, ◌≤◌, ◌<◌}
use native.Mathlib.Omega.{arith}
use mathlib.Core.Path.{◌≡◌, refl, ap, sym, ◌∙◌}
use mathlib.Core.Logic.{⊎_elim}
use mathlib.Core.List.{List}
use lib.ListN.{get_or}
use Rattle.columns.specs.Counting.{sum}
use Rattle.columns.proofs.All.{same_or_not}
use Rattle.columns.proofs.Sums.{hit, sum_mono, sum_tight, hit_same, hit_other, hit_of, ins, ins_in}
use Rattle.partition.specs.Partition.{Partition, Consistent, lengths}
use Rattle.partition.proofs.Places.{home_at, stretch_long, home_holds, all_homes}

pub lengths-sum : (bg en : List ℕ) (m : ℕ) → lengths bg en m ≡ sum (λ b. get_or en b 0 - get_or bg b 0) m
unfolding lengths
lengths-sum bg en m = refl

module _ (p : Partition) (h : Consistent p) where
  inside : (b k : ℕ) → b < p.count → k < p.n → hit (home_at p k) b ≤ ins (get_or p.begin b 0) (get_or p.end b 0) k
  inside b k l m =
      let w = home_holds p h.order h.lies k m in
      ⊎_elim
      (λ e.
      omega (
        arith,
        hit_same (home_at p k) b e,
        ins_in (get_or p.begin b 0) (get_or p.end b 0) k
            (omega (arith, w.0, ap (λ (x : ℕ). get_or p.begin x 0) e))
            (omega (arith, w.1, ap (λ (x : ℕ). get_or p.end x 0) e)),
      ))
      (λ n. omega (arith, hit_other (home_at p k) b n)) (same_or_not (home_at p k) b)

  states : ℕ → ℕ
  states b = sum (λ k. hit (home_at p k) b) p.n

  as_many : (b : ℕ) → b < p.count → states b ≡ get_or p.end b 0 - get_or p.begin b 0
  unfolding states
  as_many =
      sum_tight states (λ b. get_or p.end b 0 - get_or p.begin b 0) p.count
      (λ b l. omega (
        arith,
        stretch_long _ _ _ _ (h.bounds b l),
        sum_mono (λ k. hit (home_at p k) b) (ins (get_or p.begin b 0) (get_or p.end b 0)) p.n
            (λ k m. inside b k l m),
      ))
      (all_homes p h.order h.lies ∙ sym h.whole ∙ lengths-sum p.begin p.end p.count)

  pub owned : (b k : ℕ) → b < p.count → get_or p.begin b 0 ≤ k → k < get_or p.end b 0 →
      get_or p.element_to_block (get_or p.elements k 0) 0 ≡ b
  unfolding home_at states
  owned b k l from to =
      let m : k < p.n = omega (arith, (h.bounds b l).most) in
      let e = sum_tight (λ j. hit (home_at p j) b) (ins (get_or p.begin b 0) (get_or p.end b 0)) p.n (λ j w. inside b j l w)
      (as_many b l ∙ sym (stretch_long _ _ _ _ (h.bounds b l))) k m in
      hit_of (home_at p k) b (e ∙ ins_in (get_or p.begin b 0) (get_or p.end b 0) k from to)
