-- What document 01 says of the order, in terms of steps.
use Rattle.std.specs.Prelude.{◌≡◌, ℕ, ◌<◌, Bool, true, false, ◌≢◌}
use Rattle.table.specs.Lts.{Lts, Step}
use Rattle.table.specs.Reach.{Way, takes}

-- a cycle longer than a self-loop: a state reaches itself through another one by accepted rows
pub record LongCycle (t : Lts) (hidden : Bool) : Type 0 where
  pub from : ℕ
  pub through : ℕ
  pub other : from ≡ through → ⊥
  pub there : Way t hidden from through
  pub back : Way t hidden through from

-- p is a permutation of the numbers below n
pub record Permutation (n : ℕ) (p : ℕ → ℕ) : Type 0 where
  pub below : (s : ℕ) → s < n → p s < n
  pub one : (s u : ℕ) → s < n → u < n → p s ≡ p u → s ≡ u
  pub onto : (k : ℕ) → k < n → (s : ℕ) × (s < n) × (p s ≡ k)

-- reversed: the target first; otherwise the source
abbrev pub Comes : Bool → ℕ → ℕ → Type 0
Comes true s u = u < s
Comes false s u = s < u

-- the two ends of each accepted row to another state stand in this order
pub record Topological (t : Lts) (hidden reversed : Bool) (p : ℕ → ℕ) : Type 0 where
  pub along : (s a u : ℕ) → Step t s a u → takes hidden a ≡ true → (s ≢ u) → Comes reversed (p s) (p u)
