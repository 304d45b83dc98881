-- What the call goes by once its checks have passed.
use Rattle.std.specs.Prelude.{◌≡◌, ℕ, ◌<◌, Bool, List, map, length}
use mathlib.Core.Path.{ap, ◌∙◌}
use Rattle.columns.specs.Answers.{Refusal}
use Rattle.table.specs.Checks.{call_room, table_argument_refusal}
use Rattle.table.specs.Lts.{Lts}
use Rattle.table.specs.Tables.{Three, lengths_of}
use Rattle.quotient_cycles.specs.Call.{reorder_refusal}
use Rattle.table.proofs.Rooms.{ReadyCall, ready_asked}

abbrev pub ReadyReorder : Lts → ℕ → List ℕ → List ℕ → Type 0
ReadyReorder t state results work = ReadyCall t t.m results work × (state < t.n)

pub ready_reorder :
    (t : Lts) (state : ℕ) (results work : List ℕ) (r : Refusal)
    → r ≡ table_argument_refusal t state t.n (call_room t t.m results work) → r.number ≡ 0 → ReadyReorder t state results work
ready_reorder t state results work r e z = ready_asked t t.m results work state t.n r e z

-- the check is asked with the room that there is
pub asked :
    (t : Lts) (state : ℕ) (out : Three) (work : List (List ℕ)) (room : Bool) → room ≡ call_room t t.m (lengths_of out) (map length work)
    → (r : Refusal) → r ≡ table_argument_refusal t state t.n room → r ≡ reorder_refusal t state out work
unfolding reorder_refusal
asked t state out work room h r e = e ∙ ap (λ (b : Bool). table_argument_refusal t state t.n b) h
