-- A chain of tests, each with its refusal, in the order in which they are made: the first that fails decides.
use Rattle.std.specs.Prelude.{ℕ, ◌≤◌, Bool, true, cond, ◌&&◌, List, [], ◌∷◌, ltb, leb, eqb}
use Rattle.columns.specs.Answers.{Refusal}
use Rattle.columns.specs.Answers.{refusal, none}
use Rattle.columns.specs.Limits.{max_labels, max_states, out_of_range, wrong_labels, wrong_states, no_room}

-- whether it holds, and the refusal where it fails
abbrev pub Test : Type 0
Test = Bool × Refusal

abbrev pub test : Bool → ℕ → ℕ → Test
test holds number place = (holds, refusal number place)

-- the refusal of the first test that fails, none where all hold
unfoldable pub due : List Test → Refusal
due [] = none
due (t ∷ tests) = cond t.0 (due tests) t.1

-- the first of two refusals, if it is one; else the second
unfoldable pub or_else : Refusal → Refusal → Refusal
or_else r s = cond (eqb r.number 0) s r

-- ---- the tests that calls share
-- x is from low to high
abbrev pub in_range : ℕ → ℕ → ℕ → Bool
in_range low x high = leb low x && leb x high

-- 1 for a number of states outside its range; 2 for a number of labels
abbrev pub states_test : ℕ → Test
states_test n = test (in_range 1 n max_states) wrong_states 0

abbrev pub labels_test : ℕ → Test
labels_test labels = test (in_range 1 labels max_labels) wrong_labels 0

-- for 7: every slice of these lengths has this many cells
unfoldable pub all_long : ℕ → List ℕ → Bool
all_long cells [] = true
all_long cells (l ∷ lengths) = leb cells l && all_long cells lengths

-- the same as a fact
abbrev pub Roomy : ℕ → List ℕ → Type 0
Roomy cells [] = Unit {0}
Roomy cells (l ∷ lengths) = (cells ≤ l) × Roomy cells lengths

-- 16 with the number needed
abbrev pub room_test : ℕ → ℕ → Test
room_test needed room = test (leb needed room) no_room needed

-- 8 for an index that is not below its bound
abbrev pub index_test : ℕ → ℕ → Test
index_test i bound = test (ltb i bound) out_of_range i
