-- What a call refuses, says and leaves that writes a signature.
use Rattle.std.specs.Prelude.{ℕ, Bool, cond, List, [], ◌∷◌, map, length}
use Rattle.columns.specs.Answers.{Refusal}
use Rattle.columns.specs.Answers.{Said, done, refused, unless}
use Rattle.columns.specs.Columns.{zeroed}
use Rattle.columns.specs.Due.{all_long}
use Rattle.columns.specs.Limits.{no_room}
use Rattle.columns.specs.Sets.{Pair}
use Rattle.partition.specs.Partition.{Partition}
use Rattle.table_partition.specs.Checks.{both_argument_refusal}
use Rattle.table.specs.Checks.{works_long}
use Rattle.table.specs.Lts.{Lts}
use Rattle.signatures.specs.Pairs.{Columns, fits, pairs_over}

-- every work slice has n + m + 1 cells
unfoldable pub works_fit : Lts → List (List ℕ) → Bool
unfolding all_long
works_fit t works = works_long t (map (λ w. length w) works)

-- what a call leaves: its two result columns, and its work slices
abbrev pub Left : Type 0
Left = Columns × List (List ℕ)

-- a signature is written over the result columns, or 16 where they have no room for as many pairs as were pushed
unfoldable pub writing : ℕ → List Pair → Columns → Said × Columns
unfolding fits pairs_over
writing pushed pairs out = cond (fits pushed out) (done (length pairs ∷ []), pairs_over pairs out) (refused no_room pushed, out)

-- the same, and the work slices are zero either way
unfoldable pub finishing : ℕ → List Pair → Columns → List (List ℕ) → Said × Left
unfolding writing
finishing pushed pairs out works = ((writing pushed pairs out).0, ((writing pushed pairs out).1, zeroed works))

-- a call whose checks have answered r, with so many pairs pushed and with its signature: a refusal leaves everything as it was
unfoldable pub signing : Refusal → ℕ → List Pair → Columns → List (List ℕ) → Said × Left
unfolding unless finishing
signing r pushed pairs out works = unless r (out, works) (finishing pushed pairs out works)

-- 1, 2, 3, 4, 7 (`room`: the call's other slices are long enough), 5 and 6, 14, 8
unfoldable pub signature_refusal : Lts → Partition → ℕ → Bool → Refusal
unfolding both_argument_refusal
signature_refusal t p s room = both_argument_refusal t p s t.n room
