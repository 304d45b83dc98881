-- The naive quotient of a table by any numbers, as a table: its steps, that it is valid, and, where sharing a number is a bisimulation,
-- that it answers for every state.
use mathlib.Core.Path.{◌≡◌, refl, sym, ap, subst}
use mathlib.Core.List.{List}
use Prim.Native.Nat.{ℕ, ◌≤◌, ◌<◌}
use Rattle.bisimulation.specs.Bisimulation.{Bisimulation}
use Rattle.bisimulation.specs.Quotient.{quotient, Shares, Belongs}
use Rattle.columns.specs.Blocks.{block_of}
use Rattle.bisimulation.proofs.Quotients as Q
use Rattle.bisimulation.proofs.Tables.{quotient_valid}
use Rattle.columns.specs.Sets.{Row, StepIn}
use Rattle.refinement_strong.specs.Reduction.{quotient_of}
use Rattle.refinement_strong.proofs.Bisimulations.{valid_range}
use Rattle.table.specs.Lts.{Lts, rows, Step, Valid}
use Rattle.table.specs.Tables.{table_of}
use Rattle.table.proofs.Tables.{table_of-rows}

module _ (t : Lts) (count : ℕ) (p : List ℕ) where
  pub quotient_of-rows : rows (quotient_of t count p) ≡ quotient (block_of p) (rows t)
  unfolding quotient_of
  quotient_of-rows = table_of-rows count t.labels (block_of p t.initial) (quotient (block_of p) (rows t))

  -- it is the table of its rows
  pub quotient_of_table :
      let q = quotient_of t count p in
      table_of q.n q.labels q.initial (rows q) ≡ q
  unfolding quotient_of table_of
  quotient_of_table = ap (table_of count t.labels (block_of p t.initial)) quotient_of-rows

  -- where the numbers change neither the initial state nor the rows, it is the table of the same rows
  pub quotient_of_own :
      count ≡ t.n → block_of p t.initial ≡ t.initial → quotient (block_of p) (rows t) ≡ rows t
      → quotient_of t count p ≡ table_of t.n t.labels t.initial (rows t)
  unfolding quotient_of
  quotient_of_own c i r = rw (c, i, r)

  pub quotient_of-start : (quotient_of t count p).initial ≡ block_of p t.initial
  unfolding quotient_of table_of
  quotient_of-start = refl

  pub quotient_of_step : (s a u : ℕ) → Step t s a u → Step (quotient_of t count p) (block_of p s) a (block_of p u)
  quotient_of_step s a u k =
      subst (λ (l : List Row). StepIn l (block_of p s) a (block_of p u)) (sym quotient_of-rows) (Q.quotient_in (block_of p) (rows t) s a u k)

  module _ (v : Valid t) where
    pub quotient_of_valid : count ≤ t.n → ((s : ℕ) → s < t.n → block_of p s < count) → Valid (quotient_of t count p)
    unfolding quotient_of
    quotient_of_valid few below = quotient_valid t v count few (block_of p) below

    -- each state and its block are related by a bisimulation between the table and its quotient
    pub quotient_of_bisimulation :
        Bisimulation (rows t) (rows t) (Shares t.n (block_of p))
        → Bisimulation (rows t) (rows (quotient_of t count p)) (Belongs t.n (block_of p))
    quotient_of_bisimulation b =
        subst (λ (l : List Row). Bisimulation (rows t) l (Belongs t.n (block_of p))) (sym quotient_of-rows)
        (Q.quotient_bisimulation (block_of p) (rows t) t.n (valid_range t v) b)
