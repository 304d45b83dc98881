-- Loop invariants of the turns of the search with a stack (Machine): what the proofs go by, nothing that a contract of an operation says.
use Rattle.std.specs.Prelude.{◌≡◌, ℕ, suc, ◌+◌, ◌-◌, ◌<◌, Bool, true, false, cond, Option, Some, None, List, length, ◌≢◌, slice_index}
use Rattle.columns.specs.Sets.{Mem}
use Rattle.table_order.specs.declared.cores.Next.{Next}
use Rattle.table_order.specs.Order.{counts}
use Rattle.table_order.specs.Machine.{stack_of, push_all, keep, new_in, left, Cycle, Machine, Idle}

-- the mark of the target u of a row of s that counts; 2 of any other row
unfoldable pub seen_of : Bool → ℕ → List ℕ → ℕ → ℕ → ℕ
unfolding counts
seen_of hidden s marks a u = cond (counts hidden s a u) (slice_index marks u) 2

-- none of the successors l is on the way, and the new ones were pushed up to r
pub record AllPushed (l marks before after : List ℕ) (top r : ℕ) : Type 0 where
  pub clean : (t : ℕ) → Mem t l → slice_index marks t ≢ 1
  pub pushed : stack_of r after ≡ push_all (keep (new_in marks) l) (stack_of top before)

-- the new top, or none if a successor is on the way
abbrev pub Pushed : List ℕ → List ℕ → List ℕ → List ℕ → ℕ → Option ℕ → Type 0
Pushed l marks before after top None = (t : ℕ) × Mem t l × (slice_index marks t ≡ 1)
Pushed l marks before after top (Some r) = AllPushed l marks before after top r

-- what falls with each turn
unfoldable pub measure : (ℕ → List ℕ) → ℕ → List ℕ → List ℕ → ℕ
unfolding left
measure next n marks st = length st + left (λ s. suc (length (next s))) marks n

-- a turn that met no cycle: the search goes on
pub record Onward (next : ℕ → List ℕ) (n m bound : ℕ) (goal marks st marks' st' : List ℕ) (count' : ℕ) : Type 0 where
  pub machine : Machine next n m bound goal marks' st' count'
  pub less : measure next n marks' st' < measure next n marks st

-- where the search stands after a turn, or none for a cycle
abbrev pub Turned : (ℕ → List ℕ) → ℕ → ℕ → ℕ → List ℕ → List ℕ → List ℕ → List ℕ → List ℕ → Option Next → Type 0
Turned next n m bound goal marks st marks' stack' None = Cycle next
Turned next n m bound goal marks st marks' stack' (Some e) = Onward next n m bound goal marks st marks' (stack_of e.top stack') e.count

-- a search is under way, whatever it is for
pub record Standing (next : ℕ → List ℕ) (n m : ℕ) (marks st : List ℕ) (count : ℕ) : Type 0 where
  pub bound : ℕ
  pub goal : List ℕ
  pub machine : Machine next n m bound goal marks st count

-- a search has ended: how many states are finished, or none for a cycle
abbrev pub Searched : (ℕ → List ℕ) → ℕ → ℕ → ℕ → List ℕ → Option ℕ → Type 0
Searched next n m r marks None = Cycle next
Searched next n m r marks (Some count) = Idle next n m r marks count

-- all searches have ended
pub record Swept (next : ℕ → List ℕ) (n m : ℕ) (marks : List ℕ) (free : Bool) : Type 0 where
  pub cycle : free ≡ false → Cycle next
  pub idle : free ≡ true → (k : ℕ) × Idle next n m n marks k

-- the place that a mark says
unfoldable pub mark_place : ℕ → Bool → ℕ → ℕ
mark_place n reversed k = cond reversed (k - 2) ((n + 1) - k)
