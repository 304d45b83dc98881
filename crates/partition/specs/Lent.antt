-- A part of a lent column, as a contract names it.
use Rattle.std.specs.Prelude.{ℕ, ◌+◌, ◌*◌, List, ◌≡◌}
use Rattle.std.specs.Borrow.{Bor}

-- r is a part of the lent column x that begins at its cell k; a cell has two bytes
abbrev pub BeginsAt : Bor (List ℕ) → Bor (List ℕ) → ℕ → Type 0
BeginsAt r x k = r.ref_ptr ≡ (x.ref_ptr.0, k * 2 + x.ref_ptr.1)
