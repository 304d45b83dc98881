-- Numbers counted owner by owner: where no owner stands twice, they are no more than there are.
use Prim.Native.Nat.{ℕ, ◌≤◌, ◌<◌}
use native.Mathlib.Omega.{arith}
use borrow.Author.Tests.{eqb-true}
use mathlib.Core.Path.{◌≡◌, sym, ◌∙◌}
use mathlib.Core.Bool.{Bool, ◌&&◌}
use lib.Dec.{eqb}
use Rattle.columns.specs.Counting.{sum, many, bit}
use Rattle.columns.proofs.Bools.{and_left}
use Rattle.columns.proofs.Counting.{many-sum, many_once}
use Rattle.columns.proofs.Sums.{sum_cong, sum_mono, sum_one, sum-swap}

-- of the first m numbers those that pass, and whose owner is one of the first k
module _ (m : ℕ) (owner : ℕ → ℕ) (f : ℕ → Bool) (owners : ℕ → ℕ) (k : ℕ) where
  abbrev own : ℕ → ℕ → Bool
  own j i = eqb (owner i) (owners j) && f i

  pub by_numbers : sum (λ j. many m (own j)) k ≡ sum (λ i. many k (λ j. own j i)) m
  by_numbers =
      sum_cong (λ j. many m (own j)) (λ j. sum (λ i. bit (own j i)) m) k (λ j w. many-sum m (own j))
      ∙ sum-swap (λ j i. bit (own j i)) k m
      ∙ sum_cong (λ i. sum (λ j. bit (own j i)) k) (λ i. many k (λ j. own j i)) m (λ i w. sym (many-sum k (λ j. own j i)))

  module _ (once : (i j : ℕ) → i < k → j < k → owners i ≡ owners j → i ≡ j) where
    pub one_owner : (x : ℕ) (o : Bool) → many k (λ j. eqb x (owners j) && o) ≤ 1
    one_owner x o =
        many_once k (λ j. eqb x (owners j) && o)
        (λ i j a c p q.
        once i j a c (sym (eqb-true x (owners i) (and_left (eqb x (owners i)) o p)) ∙
        eqb-true x (owners j) (and_left (eqb x (owners j)) o q)))

    pub owned_few : sum (λ j. many m (own j)) k ≤ m
    owned_few =
        omega (
          arith,
          by_numbers,
          sum_mono (λ i. many k (λ j. own j i)) (λ _. 1) m (λ i w. one_owner (owner i) (f i)),
          sum_one m,
        )
