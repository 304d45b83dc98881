-- A table with its rows turned round: a walk in it is a walk back.
use Rattle.std.specs.Prelude.{◌≡◌, ℕ, ◌≤◌, ◌↔◌, length, drop}
use Rattle.table.specs.Lts.{Lts, Step, Valid}
use Rattle.table.specs.Stretch.{StartsOf}

-- b has the states of t, and a step from u to s for each step of t from s to u
pub record RowsTurned (t b : Lts) : Type 0 where
  pub given : Valid t
  pub turned : Valid b
  pub states : b.n ≡ t.n
  pub steps : (s a u : ℕ) → Step b u a s ↔ Step t s a u

-- the same, with where the rows of each state begin: those of t behind the first m cells of b's targets, m being the rows of t, and those
-- of b behind the first m cells of its labels
pub record TurnedWithStarts (t b : Lts) : Type 0 where
  pub rows : RowsTurned t b
  pub label_room : t.m ≤ length b.label
  pub target_room : t.m ≤ length b.target
  pub starts : StartsOf t.source t.m (drop t.m b.target)
  pub back_starts : StartsOf b.source b.m (drop t.m b.label)
