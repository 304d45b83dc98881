-- Kinds of hidden rows: those with label 0.
use Rattle.std.specs.Prelude.{ℕ, Bool, ◌&&◌, List, ◌==◌, slice_index}
use Rattle.columns.specs.Blocks.{block_of}
use Rattle.columns.specs.Sets.{Row}

-- row i is hidden, and the state that it has in the column `ends`, its target or its source, is one of block b; `home` has the block
-- of each state
unfoldable pub hidden_in : List ℕ → List ℕ → List ℕ → ℕ → ℕ → Bool
hidden_in label ends home b i = slice_index label i == 0 && block_of home (slice_index ends i) == b

-- a hidden self-loop of a state
unfoldable pub tau_loop : Row → Bool
tau_loop r = r.1.0 == 0 && r.0 == r.1.1
