-- Two columns that are each other's inverse on the numbers below n: a permutation and where each number stands in it.
use Rattle.std.specs.Prelude.{ℕ, ◌<◌, ◌≡◌, Bool, ◌&&◌, List, ltb, eqb, get_or, set}
use Rattle.columns.specs.Counting.{all}

-- b is a's inverse: each of a's first n cells is below n, and b has its place there
pub record Inverse (a b : List ℕ) (n : ℕ) : Type 0 where
  pub below : (k : ℕ) → k < n → get_or a k 0 < n
  pub back : (k : ℕ) → k < n → get_or b (get_or a k 0) 0 ≡ k

-- `Inverse` as a test
unfoldable pub inverse_at : List ℕ → List ℕ → ℕ → ℕ → Bool
inverse_at a b n k = ltb (get_or a k 0) n && eqb (get_or b (get_or a k 0) 0) k

unfoldable pub inverseb : List ℕ → List ℕ → ℕ → Bool
inverseb a b n = all n (inverse_at a b n)

-- the inverse of a with its cells i and j exchanged, where b is the inverse of a
unfoldable pub swapped_inverse : ℕ → ℕ → List ℕ → List ℕ → List ℕ
swapped_inverse i j a b = set (set b (get_or a j 0) i) (get_or a i 0) j
