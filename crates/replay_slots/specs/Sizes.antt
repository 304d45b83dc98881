-- Sums of sizes, and sizes of cells.
use Rattle.std.specs.Prelude.{ℕ, ◌+◌, cond, ◌&&◌, ltb, eqb, Option, Some, None}
use Rattle.replay_slots.specs.declared.case.Cell.{Cell}
use Rattle.replay_slots.specs.declared.case.Cell.TheVariants.{Narrow, Wide, Byte}

-- a sum of two that are below a bound, and otherwise the bound
unfoldable pub bounded : ℕ → ℕ → ℕ → ℕ
bounded bound a b = cond (ltb a bound && ltb b bound) (a + b) bound

-- the largest cell of a type
abbrev pub largest_of : Cell → ℕ
largest_of Narrow = 65535
largest_of Wide = 4294967295
largest_of Byte = 255

-- the type whose largest cell is this number, if there is one
unfoldable pub cell_of : ℕ → Option Cell
cell_of most =
    cond (eqb most 65535) (Some Narrow)
    (cond (eqb most 4294967295) (Some Wide)
    (cond (eqb most 255) (Some Byte) None))
