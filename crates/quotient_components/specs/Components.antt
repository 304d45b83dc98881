-- States that reach each other by hidden steps share a number; numbers follow the least member.
use Rattle.std.specs.Prelude.{ℕ, Bool, true, ◌&&◌}
use Rattle.columns.specs.Counting.{many}
use Rattle.columns.specs.Number.{leads, number}
use Rattle.table.specs.Lts.{Lts}
use Rattle.table.specs.Reach.{reaches}

-- s and u reach each other by hidden steps
unfoldable pub linked : Lts → ℕ → ℕ → Bool
unfolding reaches
linked t s u = reaches t true s u && reaches t true u s

-- how many components there are
unfoldable pub components : Lts → ℕ
unfolding linked many leads
components t = many t.n (leads (linked t))

-- the number of a state's component
unfoldable pub component : Lts → ℕ → ℕ
unfolding linked number
component t s = number (linked t) s
