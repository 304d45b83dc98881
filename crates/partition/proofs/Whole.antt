-- Two counts of blocks: stretches that hold just their own states add up to n; and a long block leaves room for few others.
use Prim.Native.Nat.{ℕ, ◌+◌, ◌-◌, ◌≤◌, ◌<◌}
use native.Mathlib.Omega.{arith}
use mathlib.Core.Path.{◌≡◌, sym, subst, ◌∙◌}
use mathlib.Core.Logic.{⊎_elim}
use lib.ListN.{get_or}
use Rattle.columns.specs.Counting.{sum}
use Rattle.columns.specs.Inverse.{Inverse}
use Rattle.columns.proofs.All.{lt-or-le}
use Rattle.columns.proofs.Sums.{hit, sum_cong, hit_same, hit_other, ins, ins_in, ins_before, ins_after, sum_least}
use Rattle.partition.specs.Partition.{Partition, Consistent, Within, Lies, lengths}
use Rattle.partition.proofs.Places.{home_at, stretch_long, home_holds, all_homes}
use Rattle.partition.proofs.Owned.{lengths-sum}

module _ (q : Partition) (order : Inverse q.elements q.element_offset q.n)
    (bounds : (b : ℕ) → b < q.count → Within (get_or q.begin b 0) (get_or q.marked_split b 0) (get_or q.end b 0) q.n)
    (lies : (s : ℕ) → s < q.n → Lies q s)
    (own : (b k : ℕ) → b < q.count → get_or q.begin b 0 ≤ k → k < get_or q.end b 0 →
    get_or q.element_to_block (get_or q.elements k 0) 0 ≡ b) where
  same : (b k : ℕ) → b < q.count → k < q.n → ins (get_or q.begin b 0) (get_or q.end b 0) k ≡ hit (home_at q k) b
  unfolding home_at
  same b k wb w =
      ⊎_elim
      (λ (l : k < get_or q.begin b 0). ins_before _ _ k l ∙ sym (hit_other (home_at q k) b (λ e. bad e (λ f t. omega (arith, l, f)))))
      (λ (g : get_or q.begin b 0 ≤ k).
      ⊎_elim (λ (l : k < get_or q.end b 0). ins_in _ _ k g l ∙ sym (hit_same (home_at q k) b (own b k wb g l)))
      (λ (g' : get_or q.end b 0 ≤ k). ins_after _ _ k g g' ∙ sym (hit_other (home_at q k) b (λ e. bad e (λ f t. omega (arith, g', t)))))
      (lt-or-le k (get_or q.end b 0)))
      (lt-or-le k (get_or q.begin b 0))
    where
      bad : home_at q k ≡ b → (get_or q.begin b 0 ≤ k → k < get_or q.end b 0 → ⊥) → ⊥
      bad e no' =
          let i = home_holds q order lies k w in
          no' (subst (λ (x : ℕ). get_or q.begin x 0 ≤ k) e i.0) (subst (λ (x : ℕ). k < get_or q.end x 0) e i.1)

  pub whole_of : lengths q.begin q.end q.count ≡ q.n
  whole_of =
      lengths-sum q.begin q.end q.count
      ∙ sum_cong (λ b. get_or q.end b 0 - get_or q.begin b 0) (λ b. sum (λ k. hit (home_at q k) b) q.n) q.count
      (λ b w.
      sym (stretch_long _ _ _ _ (bounds b w))
      ∙ sum_cong (ins (get_or q.begin b 0) (get_or q.end b 0)) (λ k. hit (home_at q k) b) q.n (λ k wk. same b k w wk))
      ∙ all_homes q order lies

pub room : (p : Partition) → Consistent p → (b : ℕ) → b < p.count → (p.count - 1) + (get_or p.end b 0 - get_or p.begin b 0) ≤ p.n
room p h b w =
    omega (
      arith,
      h.whole,
      lengths-sum p.begin p.end p.count,
      sum_least (λ j. get_or p.end j 0 - get_or p.begin j 0) p.count b (λ j l. omega (arith, (h.bounds j l).some)) w,
    )
