-- Search states of the branching signature: what the proofs go by, nothing that the contract of an operation says.
use Rattle.std.specs.Prelude.{◌≡◌, ℕ, ◌≤◌, List, slice_index}
use Rattle.columns.specs.Columns.{laid}
use Rattle.columns.specs.Rows.{pairs_of}
use Rattle.columns.specs.Sets.{Pair}
use Rattle.table.specs.Lts.{Lts}
use Rattle.table.specs.Search.{Search}
use Rattle.signatures_branching.specs.Branching.{inert_edge, outer_pairs}

-- the pairs of the rows of the first k states of a queue that are visible or lead to another block than b, state by state
abbrev pub outer_of : Lts → List ℕ → ℕ → List ℕ → ℕ → List Pair
outer_of t home b queue k = laid (λ j. outer_pairs t home b (slice_index queue j)) k

-- a search in block b, with nothing in the queue behind the last state, and the d pairs of the first `head` states pushed
pub record Visits (t : Lts) (home : List ℕ) (b start : ℕ) (marks queue : List ℕ) (head tail : ℕ) (labels blocks : List ℕ) (d : ℕ) : Type 0
  where
    pub search : Search (inert_edge t home b) t.n start marks queue head tail
    pub rest : (k : ℕ) → tail ≤ k → slice_index queue k ≡ 0
    pub pushed : pairs_of d labels blocks ≡ outer_of t home b queue head
