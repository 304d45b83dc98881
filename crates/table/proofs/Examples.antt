-- The rows of a state where there are few or none.
use Rattle.std.specs.Prelude.{◌≡◌, ℕ, List, [], ◌∷◌}
use mathlib.Core.Path.{refl}
use Rattle.columns.specs.Answers.{Said, done, refused}
use Rattle.table.specs.Incoming.{incoming_order}
use Rattle.table.specs.Lts.{Lts}
use Rattle.table.specs.Stretch.{first_into}
use Rattle.table.specs.Transitions.{outgoing_transitions, next_incoming_row}

-- three states and no row
abbrev pub bare : Lts
bare = record { n = 3; labels = 2; m = 0; initial = 0; source = []; label = []; target = [] }

-- three states and the rows (0, 0, 1), (0, 1, 2), (2, 0, 1): none out of state 1, none into state 0
abbrev three : Lts
three =
    record { n = 3; labels = 2; m = 3; initial = 0; source = 0 ∷ 0 ∷ 2 ∷ []; label = 0 ∷ 1 ∷ 0 ∷ []; target = 1 ∷ 2 ∷ 1 ∷ [] }

abbrev run : ℕ → ℕ → Said
run first end = done (first ∷ end ∷ [])

abbrev row : ℕ → Said
row i = done (i ∷ [])

-- no row at all; the rows of each state; a state that is not there
pub outgoing_examples :
    (outgoing_transitions bare 0
    ∷ outgoing_transitions bare 2
    ∷ outgoing_transitions three 0
    ∷ outgoing_transitions three 1
    ∷ outgoing_transitions three 2
    ∷ outgoing_transitions three 3
    ∷ [])
    ≡ (run 0 0 ∷ run 0 0 ∷ run 0 2 ∷ run 2 2 ∷ run 2 3 ∷ refused 8 3 ∷ [])
unfolding outgoing_transitions
outgoing_examples = refl

-- no row at all; none into a state; the rows into state 1, one after the other; from m; from above m; and the state first
pub incoming_examples :
    (next_incoming_row bare 1 0
    ∷ next_incoming_row three 0 0
    ∷ next_incoming_row three 1 0
    ∷ next_incoming_row three 1 1
    ∷ next_incoming_row three 1 3
    ∷ next_incoming_row three 1 4
    ∷ next_incoming_row three 3 4
    ∷ [])
    ≡ (row 0 ∷ row 3 ∷ row 0 ∷ row 2 ∷ row 3 ∷ refused 8 4 ∷ refused 8 3 ∷ [])
unfolding next_incoming_row
incoming_examples = refl

-- the incoming list, and where the rows into each state begin in it: none into state 0, two into state 1, one into state 2
abbrev begins : ℕ → ℕ
begins u = first_into three.target (incoming_order three) 3 u

pub list_examples : incoming_order three ≡ (0 ∷ 2 ∷ 1 ∷ [])
unfolding incoming_order
list_examples = refl

pub into_examples : ◌≡◌ {A = List ℕ} (begins 0 ∷ begins 1 ∷ begins 2 ∷ begins 3 ∷ []) (0 ∷ 0 ∷ 2 ∷ 3 ∷ [])
unfolding first_into incoming_order
into_examples = refl
