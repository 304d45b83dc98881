-- Loop invariants of the search with a stack: what the proofs go by, nothing that a contract of an operation says. They say what the stack,
-- the marks and the count have to do with the visits between two turns.
-- A mark is 0 for a state not yet visited, 1 for one on the way, and 2 and its place for a finished one.
use Rattle.std.specs.Prelude.{◌≡◌, ℕ, zero, suc, ◌+◌, ◌<◌, ◌≤◌, Bool, true, cond, ◌⊎◌, List, [], ◌∷◌, length, ◌==◌, slice_index}
use Rattle.columns.specs.Counting.{sum}
use Rattle.columns.specs.Sets.{Mem}
use Rattle.table.specs.Reach.{Walk}
use Rattle.table_order.specs.Order.{is_in, behind, visit, sweep}

-- the first cells of the lent slice as a stack, the top first
unfoldable pub stack_of : ℕ → List ℕ → List ℕ
stack_of zero a = []
stack_of (suc i) a = slice_index a i ∷ stack_of i a

-- one push for each, in order
unfoldable pub push_all : List ℕ → List ℕ → List ℕ
push_all [] st = st
push_all (c ∷ cs) st = push_all cs (c ∷ st)

-- the members that pass
unfoldable pub keep : (ℕ → Bool) → List ℕ → List ℕ
keep p [] = []
keep p (t ∷ ts) = cond (p t) (t ∷ keep p ts) (keep p ts)

-- t is not yet visited
unfoldable pub new_in : List ℕ → ℕ → Bool
new_in marks t = slice_index marks t == 0

-- the mark of a state, where `gray` are on the way and `done` finished
unfoldable pub mark_for : List ℕ → List ℕ → ℕ → ℕ
unfolding is_in behind
mark_for gray done s = cond (is_in s done) (2 + behind s done) (cond (is_in s gray) 1 0)

-- the weights of the states below n that are not yet visited, added up
unfoldable pub left : (ℕ → ℕ) → List ℕ → ℕ → ℕ
unfolding sum new_in
left w marks n = sum (λ s. cond (new_in marks s) (w s) 0) n

-- what is done once the stack is empty: an entry that equals the last state on the way finishes it, any other one is visited
unfoldable pub rest : (ℕ → List ℕ → List ℕ) → List ℕ → List ℕ → List ℕ → List ℕ
rest v gray [] done = done
rest v [] (x ∷ st) done = rest v [] st (v x done)
rest v (g ∷ gs) (x ∷ st) done = cond (x == g) (rest v gs st (x ∷ done)) (rest v (g ∷ gs) st (v x done))

-- t is a successor of the last state on the way, if there is one
abbrev pub Child : (ℕ → List ℕ) → List ℕ → ℕ → Type 0
Child next [] t = Unit {0}
Child next (g ∷ gs) t = Mem t (next g)

-- t is a successor of s
unfoldable pub arc : (ℕ → List ℕ) → ℕ → ℕ → Bool
unfolding is_in
arc next s t = is_in t (next s)

-- some state has a successor that leads back to it
pub data Cycle (next : ℕ → List ℕ) : Type 0 where
  cycle : {s t : ℕ} → arc next s t ≡ true → Walk (arc next) t s → Cycle next

-- a list of finished states, the last one first: no state twice, each below n, and behind each state all its successors
pub data Ordered (next : ℕ → List ℕ) (n : ℕ) : List ℕ → Type 0 where
  none : Ordered next n []
  more : {x : ℕ} {xs : List ℕ} → (Mem x xs → ⊥) → x < n → ((t : ℕ) → Mem t (next x) → Mem t xs) → Ordered next n xs →
      Ordered next n (x ∷ xs)

-- the shape of a stack: an entry waits for its visit, or ends a state on the way, all of whose successors are done or above it
pub data Stacked (next : ℕ → List ℕ) (n : ℕ) : List ℕ → List ℕ → List ℕ → Type 0 where
  bottom : {known : List ℕ} → Stacked next n known [] []
  waits : {known gray st : List ℕ} {t : ℕ} → t < n → (Mem t gray → ⊥) → Child next gray t → Stacked next n (t ∷ known) gray st →
      Stacked next n known gray (t ∷ st)
  ends : {known gray st : List ℕ} {g : ℕ} → g < n → (Mem g gray → ⊥) → Child next gray g → ((t : ℕ) → Mem t (next g) → Mem t known)
      → Stacked next n (g ∷ known) gray st → Stacked next n known (g ∷ gray) (g ∷ st)

-- m + 1 bounds the stack, the states below `bound` are done or to come, and `goal` is what a search without a cycle leaves
pub record Machine (next : ℕ → List ℕ) (n m bound : ℕ) (goal marks st : List ℕ) (k : ℕ) : Type 0 where
  pub gray : List ℕ
  pub done : List ℕ
  pub marked : (s : ℕ) → s < n → slice_index marks s ≡ mark_for gray done s
  pub stacked : Stacked next n done gray st
  pub order : Ordered next n done
  pub apart : (s : ℕ) → Mem s gray → Mem s done → ⊥
  pub covers : (s : ℕ) → s < bound → Mem s done ⊎ Mem s st
  pub count : k ≡ length done
  pub room : length st + left (λ s. length (next s)) marks n ≤ suc m
  pub spare : left (λ s. length (next s)) marks n ≤ m
  pub result : (Cycle next → ⊥) → rest (visit next n) gray st done ≡ goal

-- between two searches: all states below r are finished, and what these led to
pub record Idle (next : ℕ → List ℕ) (n m r : ℕ) (marks : List ℕ) (k : ℕ) : Type 0 where
  pub done : List ℕ
  pub marked : (s : ℕ) → s < n → slice_index marks s ≡ mark_for [] done s
  pub order : Ordered next n done
  pub covers : (s : ℕ) → s < r → Mem s done
  pub count : k ≡ length done
  pub spare : left (λ s. length (next s)) marks n ≤ m
  pub result : (Cycle next → ⊥) → done ≡ sweep next n r
