-- What an answer of `outgoing_transitions` says determines it; and a call that says it is done was not refused.
use Rattle.std.specs.Prelude.{◌≡◌, ℕ, List}
use mathlib.Core.Path.{sym}
use Rattle.columns.specs.Answers.{Answer, Refusal}
use Rattle.columns.specs.Answers.{done, answering, leaving}
use Rattle.columns.proofs.Doing.{answering_done, leaving_done}
use Rattle.columns.proofs.Saying.{same_said}
use Rattle.table.specs.declared.cores.Stretch.{Stretch}
use Rattle.table.specs.Transitions.{stretch_values, said_stretch}

same_values : (a b : Stretch) → stretch_values a ≡ stretch_values b → a ≡ b
same_values a b e =
    let p : a.first ≡ b.first = cc in
    let q : a.end ≡ b.end = cc in
    λ i. record { first = p i; end = q i }

pub same-stretch : (a b : Answer Stretch) → said_stretch a ≡ said_stretch b → a ≡ b
same-stretch = same_said stretch_values same_values

-- ---- a call that is done was not refused: `answering_done` and `leaving_done` of columns, turned round
-- one that only asks says its values
pub said_done : (r : Refusal) (values l : List ℕ) → answering r values ≡ done l → (r.number ≡ 0) × (values ≡ l)
said_done r values l e = let d = answering_done r l values (sym e) in (d.0, sym d.1)

-- and one that is lent cells leaves what it is to leave
pub left-said :
    {A : Type 0} (r : Refusal) (before after now : A) (values l : List ℕ) → leaving r before values after ≡ (done l, now)
    → (r.number ≡ 0) × ((values ≡ l) × (after ≡ now))
left-said r before after now values l e =
    let d = leaving_done r before now after l values (sym e) in (d.0, (sym d.1, sym d.2))
