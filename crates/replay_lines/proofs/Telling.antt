-- The text of what an answer says, by its two cases.
use Prim.Native.Nat.{ℕ, min}
use Rattle.std.proofs.lemmas.List.{take_min}
use mathlib.Core.List.{List, ◌∷◌, ◌++◌, append-nil}
use mathlib.Core.Path.{◌≡◌, ap, sym, ◌∙◌}
use lib.ListN.{length, take}
use Rattle.std.specs.Prelude.{Result, Ok, Err, IsErrAnd}
use Rattle.columns.specs.Answers.{Answer, Refusal, refused, refusal_of, said_coded, said_by}
use Rattle.columns.specs.declared.answers.Refusal as code
use Rattle.replay_lines.specs.declared.answers.Numbers as lines
use Rattle.replay_lines.specs.Told.{told, told_by}
use Rattle.replay_lines.specs.Spelling.{spelled, spelled_all, said_text}

pub refused_text : (number place : ℕ)
    → 114 ∷ 101 ∷ 102 ∷ 117 ∷ 115 ∷ 101 ∷ 100 ∷ (spelled number ++ spelled place) ≡ said_text (refused number place)
unfolding said_text
refused_text number place =
    ap (λ l. 114 ∷ 101 ∷ 102 ∷ 117 ∷ 115 ∷ 101 ∷ 100 ∷ (spelled number ++ l)) (sym (append-nil (spelled place)))

-- what is handed on, where `of` gives the number and the place of what refuses
module _ {R : Type 0} (of : R → Refusal) where
  pub coded_refused : (s : Result lines.Numbers R) (r : R) → s ≡ Err r → said_text (refused (of r).number (of r).place) ≡ said_text (told_by of s)
  unfolding told_by
  coded_refused s r e = rw e

  -- the first numbers, as many as are there
  pub coded_done : (s : Result lines.Numbers R) (n : lines.Numbers) (held : ℕ) → s ≡ Ok n
      → held ≡ min n.count 8 → 8 ≡ length n.numbers → 100 ∷ 111 ∷ 110 ∷ 101 ∷ spelled_all (take held n.numbers) ≡ said_text (told_by of s)
  unfolding told_by said_text
  coded_done s n held e f g =
      rw e (ap (λ l. 100 ∷ 111 ∷ 110 ∷ 101 ∷ spelled_all l) (ap (λ k. take k n.numbers) (f ∙ ap (min n.count) g) ∙ take_min n.count n.numbers))

  -- an outcome that is refused is handed on by `?`
  pub coded_on : {T : Type 0} (values : T → List ℕ) (o : Result T R) (x : R) (r : Result lines.Numbers R)
      → o ≡ Err x → IsErrAnd r (λ e. e ≡ x) → told_by of r ≡ said_coded of values o
  unfolding told_by
  coded_on values o x (Ok n) w h = absurd h
  coded_on values o x (Err e) w h = ap (λ (y : R). refused (of y).number (of y).place) h ∙ ap (said_coded of values) (sym w)

-- and where a case of document 01 refuses
pub told_refused : (s : Result lines.Numbers code.Refusal) (r : code.Refusal) → s ≡ Err r
    → said_text (refused (refusal_of r).number (refusal_of r).place) ≡ said_text (told s)
told_refused = coded_refused refusal_of

pub told_done : (s : Result lines.Numbers code.Refusal) (n : lines.Numbers) (held : ℕ) → s ≡ Ok n
    → held ≡ min n.count 8 → 8 ≡ length n.numbers → 100 ∷ 111 ∷ 110 ∷ 101 ∷ spelled_all (take held n.numbers) ≡ said_text (told s)
told_done = coded_done refusal_of

pub told_on : {T : Type 0} (values : T → List ℕ) (a : Answer T) (x : code.Refusal) (r : Result lines.Numbers code.Refusal)
    → a.outcome ≡ Err x → IsErrAnd r (λ e. e ≡ x) → told r ≡ said_by values a
told_on values a x r w h = coded_on refusal_of values a.outcome x r w h
