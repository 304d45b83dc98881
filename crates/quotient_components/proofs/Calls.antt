-- What a call of `tau_scc_decomposition` is asked.
use Rattle.std.specs.Prelude.{◌≡◌, ℕ, Bool, List, [], ◌∷◌, map, length}
use mathlib.Core.Path.{ap, ◌∙◌}
use Rattle.columns.specs.Answers.{Refusal}
use Rattle.columns.specs.Due.{due}
use Rattle.quotient_components.specs.Call.{decomposition_refusal}
use Rattle.table.specs.Checks.{call_room, table_tests}
use Rattle.table.specs.Lts.{Lts}

-- the check is asked with the room that there is
pub asked :
    (t : Lts) (numbers : List ℕ) (work : List (List ℕ)) (room : Bool) → room ≡ call_room t t.n (length numbers ∷ []) (map length work)
    → (r : Refusal) → r ≡ due (table_tests t room) → r ≡ decomposition_refusal t numbers work
unfolding decomposition_refusal
asked t numbers work room h r e = e ∙ ap (λ (b : Bool). due (table_tests t b)) h
