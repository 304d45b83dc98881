-- What a contract says of a lent work slice: of what it held at entry, and of what it holds at return.
use Rattle.std.specs.Prelude.{ℕ, List, ◌≡◌}
use Rattle.columns.specs.Columns.{cleared}

-- every cell is zero
abbrev pub Clear : List ℕ → Type 0
Clear x = x ≡ cleared x

-- every cell is zero at return
abbrev pub Cleared : List ℕ → List ℕ → Type 0
Cleared old new = new ≡ cleared old
