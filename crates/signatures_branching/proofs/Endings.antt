-- The end of the search: the queue lists the states that are reached in the block, each once, and no other is marked.
use Rattle.std.specs.Prelude.{◌≡◌, ℕ, ◌<◌, ◌≤◌, true, ◌⊎◌, List, get_or}
use native.Mathlib.Omega.{arith}
use mathlib.Core.Logic.{inl, inr}
use Rattle.columns.proofs.All.{same_or_not}
use Rattle.table.specs.Lts.{Lts, Valid}
use Rattle.table.specs.Reach.{Walk}
use Rattle.table.specs.Search.{Search}
use Rattle.table.proofs.Searching.{search_found}
use Rattle.table.proofs.Walks.{via_walk, walk_via}
use Rattle.signatures_branching.specs.Branching.{inert_edge, inertly}
use Rattle.signatures_branching.proofs.InertSteps.{inert_state}

-- the first k cells of a column name the states that s reaches in its block, each once
pub record ListsReached (t : Lts) (home : List ℕ) (s : ℕ) (queue : List ℕ) (k : ℕ) : Type 0 where
  pub state : (j : ℕ) → j < k → get_or queue j 0 < t.n
  pub reached : (j : ℕ) → j < k → inertly t home s (get_or queue j 0) ≡ true
  pub once : (i j : ℕ) → i < k → j < k → get_or queue i 0 ≡ get_or queue j 0 → i ≡ j
  pub all : (u : ℕ) → u < t.n → inertly t home s u ≡ true → (j : ℕ) × (j < k) × (get_or queue j 0 ≡ u)

module _ (t : Lts) (v : Valid t) (home : List ℕ) (s : ℕ) where
  -- a state is reached exactly if there is a walk along hidden rows that stay in the block
  pub inertly_of : (u : ℕ) → Walk (inert_edge t home (get_or home s 0)) s u → inertly t home s u ≡ true
  unfolding inertly
  inertly_of u w = walk_via (inert_edge t home (get_or home s 0)) t.n (λ x y. inert_state t home (get_or home s 0) x y v) w

  pub of_inertly : (u : ℕ) → inertly t home s u ≡ true → Walk (inert_edge t home (get_or home s 0)) s u
  unfolding inertly
  of_inertly u e = via_walk (inert_edge t home (get_or home s 0)) t.n s u e

  module _ (marks queue : List ℕ) (k : ℕ) (h : Search (inert_edge t home (get_or home s 0)) t.n s marks queue k k) where
    pub search_lists : ListsReached t home s queue k
    search_lists = record {
      state = h.state;
      reached = λ j w. inertly_of (get_or queue j 0) (h.sound (get_or queue j 0) (h.marked j w));
      once = h.once;
      all = λ u w e. h.queued u ((search_found (inert_edge t home (get_or home s 0)) t.n s marks queue k k h (omega arith) u).1
          (of_inertly u e));
    }

    -- a state is not marked, or stands in the queue
    pub search_marks : (u : ℕ) → (get_or marks u 0 ≡ 0) ⊎ ((j : ℕ) × (j < k) × (get_or queue j 0 ≡ u))
    search_marks u = go (same_or_not (get_or marks u 0) 1)
      where
        none : {x : ℕ} → x ≤ 1 → (x ≡ 1 → ⊥) → x ≡ 0
        none l n = omega (arith, l, n)

        go : (get_or marks u 0 ≡ 1) ⊎ (get_or marks u 0 ≡ 1 → ⊥) → (get_or marks u 0 ≡ 0) ⊎ ((j : ℕ) × (j < k) × (get_or queue j 0 ≡ u))
        go (inl e) = inr (h.queued u e)
        go (inr n) = inl (none (h.flags u) n)
