-- Signatures: pairs (label, block), ascending, no pair twice.
use Rattle.std.specs.Prelude.{ℕ, Bool, ◌&&◌, List, length, nat_le}
use Rattle.columns.specs.Columns.{over}
use Rattle.columns.specs.Rows.{first_of, last_of}
use Rattle.columns.specs.Sets.{Pair, pair_lt, collect, set_of}

-- what was pushed, sorted and without duplicates
unfoldable pub signature : List Pair → List Pair
unfolding collect pair_lt
signature pushed = set_of pair_lt pushed

-- two columns, one of labels and one of blocks
abbrev pub Columns : Type 0
Columns = List ℕ × List ℕ

-- room for d pairs: the shorter column counts
unfoldable pub room_for : ℕ → ℕ → ℕ → Bool
room_for d labels blocks = nat_le d labels && nat_le d blocks

unfoldable pub fits : ℕ → Columns → Bool
unfolding room_for
fits d out = room_for d (length out.0) (length out.1)

-- pairs written over their first cells
unfoldable pub pairs_over : List Pair → Columns → Columns
unfolding over
pairs_over pairs out = (over (first_of pairs) out.0, over (last_of pairs) out.1)
