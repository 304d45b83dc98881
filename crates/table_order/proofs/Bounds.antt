-- How much stack and how many turns a sort takes: at most m + 1 entries at any moment, and at most 2n + m turns. A turn that visits
-- a state finds its stretch, in log m steps, and reads it, and each state is visited once: all in all (n + m) log m.
use Rattle.std.specs.Prelude.{◌≡◌, ℕ, suc, ◌+◌, ◌<◌, ◌≤◌, Bool, true, false, cond, List, [], ◌∷◌, length, get_or}
use native.Mathlib.Omega.{arith}
use Rattle.columns.proofs.Sums.{sum-add, sum_mono, sum_one}
use Rattle.table.specs.Lts.{Lts, Valid}
use Rattle.table_order.specs.Order.{next}
use Rattle.table_order.specs.Machine.{new_in, left, Machine}
use Rattle.table_order.specs.Turn.{measure}
use Rattle.table_order.proofs.Machine.{weight}
use Rattle.table_order.proofs.Turns.{enter_room}
use Rattle.table_order.proofs.Successors.{inside, irreflexive, total_rows}

module _ (t : Lts) (hidden : Bool) where
  -- between two turns
  pub stack_most : {bound : ℕ} {goal marks st : List ℕ} {k : ℕ} → Machine (next t hidden) t.n t.m bound goal marks st k →
      length st ≤ t.m + 1
  stack_most i = omega (arith, i.room)

  -- while a new state, which is on top, is pushed again and its successors above it, even if all of them are new
  pub stack_visit :
      {bound : ℕ} {goal marks st : List ℕ} {x k : ℕ} → Valid t → Machine (next t hidden) t.n t.m bound goal marks (x ∷ st) k →
      get_or marks x 0 ≡ 0
      → x < length marks → length (x ∷ st) + length (next t hidden x) ≤ t.m + 1
  stack_visit {bound} {goal} v i e b = omega (
    arith,
    enter_room (next t hidden) t.n t.m bound goal (inside t hidden v)
        (irreflexive t hidden) i e b,
  )

  -- what is left to do with an empty stack
  pub left_most : (marks : List ℕ) → measure (next t hidden) t.n marks [] ≤ t.n + t.m
  unfolding measure left
  left_most marks =
      omega (
        arith,
        total_rows marks t.n t hidden,
        sum_mono (weight (λ s. suc (length (next t hidden s))) marks) (λ s. weight (λ s. length (next t hidden s)) marks s + 1) t.n
            (λ s h. one s (new_in marks s)),
        sum-add (weight (λ s. length (next t hidden s)) marks) (λ _. 1) t.n,
        sum_one t.n,
      )
    where
      one : (s : ℕ) (b : Bool) → cond b (suc (length (next t hidden s))) 0 ≤ cond b (length (next t hidden s)) 0 + 1
      one s true = omega arith
      one s false = omega arith

  -- searches that were started, at most n, and turns that were made, each of which lessens the measure (`Turned`)
  pub data SearchRun : ℕ → ℕ → List ℕ → List ℕ → Type 0 where
    begun : {marks : List ℕ} → SearchRun 0 0 marks []
    started : {a b : ℕ} {marks : List ℕ} {root : ℕ} → SearchRun a b marks [] → SearchRun (suc a) b marks (root ∷ [])
    turned : {a b : ℕ} {marks st marks' st' : List ℕ} → SearchRun a b marks st
        → measure (next t hidden) t.n marks' st' < measure (next t hidden) t.n marks st → SearchRun a (suc b) marks' st'

  paid : {a b : ℕ} {marks st : List ℕ} → SearchRun a b marks st → b + measure (next t hidden) t.n marks st ≤ a + (t.n + t.m)
  unfolding measure
  paid (begun {marks}) = omega (arith, left_most marks)
  paid (started {a} {b} {marks} {root} r) = omega (arith, paid r)
  paid (turned r l) = omega (arith, paid r, l)

  pub turns_most : {a b : ℕ} {marks st : List ℕ} → SearchRun a b marks st → a ≤ t.n → b ≤ (t.n + t.n) + t.m
  turns_most r h = omega (arith, paid r, h)
