-- Loop invariants of the search for the states that a state reaches: what the proofs go by, nothing that a contract of an operation says.
use Rattle.std.specs.Prelude.{◌≡◌, ℕ, ◌+◌, ◌<◌, ◌≤◌, Bool, true, cond, List, length, ◌==◌, nat_eq, slice_index, slice_index_or, slice_set}
use Rattle.columns.specs.Counting.{many}
use Rattle.table.specs.Reach.{Walk}

-- A found state has mark 1 and stands once among the first `tail` cells of the queue; all that the first `head` of them
-- lead to is found.
pub record Search (edge : ℕ → ℕ → Bool) (n start : ℕ) (marks queue : List ℕ) (head tail : ℕ) : Type 0 where
  pub size : length marks ≡ n
  pub room : n ≤ length queue
  pub some : 0 < tail
  pub low : head ≤ tail
  pub first : slice_index_or queue 0 0 ≡ start
  pub flags : (u : ℕ) → slice_index marks u ≤ 1
  pub counted : tail ≡ many n (λ u. nat_eq (slice_index marks u) 1)
  pub state : (k : ℕ) → k < tail → slice_index queue k < n
  pub once : (i j : ℕ) → i < tail → j < tail → slice_index queue i ≡ slice_index queue j → i ≡ j
  pub marked : (k : ℕ) → k < tail → slice_index marks (slice_index queue k) ≡ 1
  pub queued : (u : ℕ) → slice_index marks u ≡ 1 → (k : ℕ) × (k < tail) × (slice_index queue k ≡ u)
  pub sound : (u : ℕ) → slice_index marks u ≡ 1 → Walk edge start u
  pub closed : (k : ℕ) → k < head → (u : ℕ) → edge (slice_index queue k) u ≡ true → slice_index marks u ≡ 1

-- state u is marked and stands behind the first `tail` cells of the queue, unless it is marked already: the queue's length,
-- marks and queue
unfoldable pub appended : ℕ → List ℕ → List ℕ → ℕ → ℕ × (List ℕ × List ℕ)
appended u marks queue tail = cond (slice_index marks u == 0) (tail + 1, (slice_set marks u 1, slice_set queue tail u)) (tail, (marks, queue))
