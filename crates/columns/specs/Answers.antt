-- What an answer says, in document 01's numbers.
use Rattle.std.specs.Prelude.{ℕ, Bool, cond, List, [], ◌∷◌, eqb, Result, Ok, Err}
use Rattle.columns.specs.Counting.{bit}
use Rattle.columns.specs.Limits.{
  wrong_states,
  wrong_labels,
  wrong_rows,
  wrong_initial,
  wrong_field,
  not_above,
  too_short,
  out_of_range,
  nothing_marked,
  not_dense,
  cyclic,
  no_bottom,
  wrong_contents,
  inconsistent,
  wrong_list,
  no_room,
}
use Rattle.columns.specs.declared.answers.Refusal as code
use Rattle.columns.specs.declared.answers.Refusal.TheVariants as R
use Rattle.columns.specs.declared.answers.Answer as coded

-- a refusal by its number and its place; as what tests find, number 0 stands for none
pub record Refusal : Type 0 where
  pub number : ℕ
  pub place : ℕ

abbrev pub refusal : ℕ → ℕ → Refusal
refusal number place = record { number = number; place = place }

-- no refusal
abbrev pub none : Refusal
none = refusal 0 0

-- the number and the place of each case
abbrev pub refusal_of : code.Refusal → Refusal
refusal_of R.WrongStates = refusal wrong_states 0
refusal_of R.WrongLabels = refusal wrong_labels 0
refusal_of R.WrongRows = refusal wrong_rows 0
refusal_of R.WrongInitial = refusal wrong_initial 0
refusal_of (R.WrongField row) = refusal wrong_field row
refusal_of (R.NotAbove row) = refusal not_above row
refusal_of R.TooShort = refusal too_short 0
refusal_of (R.OutOfRange argument) = refusal out_of_range argument
refusal_of (R.NothingMarked block) = refusal nothing_marked block
refusal_of (R.NotDense missing) = refusal not_dense missing
refusal_of R.Cyclic = refusal cyclic 0
refusal_of (R.NoBottom block) = refusal no_bottom block
refusal_of (R.WrongContents offset) = refusal wrong_contents offset
refusal_of R.Inconsistent = refusal inconsistent 0
refusal_of (R.WrongList index) = refusal wrong_list index
refusal_of (R.NoRoom needed) = refusal no_room needed

-- what a check finds: none, or the refusal, whose number and place `of` gives
abbrev pub checked_by : {R : Type 0} → (R → Refusal) → Result (Unit {0}) R → Refusal
checked_by of (Ok _) = none
checked_by of (Err r) = of r

abbrev pub checked : Result (Unit {0}) code.Refusal → Refusal
checked r = checked_by refusal_of r

-- done, with the outcome's numbers; or refused, with a number and a place
pub data Said : Type 0 where
  done : List ℕ → Said
  refused : ℕ → ℕ → Said

-- an answer, refused with a case of document 01
abbrev pub Answer : Type 0 → Type 0
Answer T = coded.Answer T code.Refusal

abbrev pub answer : {T : Type 0} → Result T code.Refusal → Answer T
answer outcome = record { outcome = outcome }

-- what an outcome says, given the number and the place of what refuses, and the numbers of its data
abbrev pub said_coded : {T R : Type 0} → (R → Refusal) → (T → List ℕ) → Result T R → Said
said_coded of values (Ok value) = done (values value)
said_coded of values (Err r) = refused (of r).number (of r).place

abbrev pub said_outcome : {T : Type 0} → (T → List ℕ) → Result T code.Refusal → Said
said_outcome values o = said_coded refusal_of values o

abbrev pub said_by : {T : Type 0} → (T → List ℕ) → Answer T → Said
said_by values a = said_outcome values a.outcome

-- an answer without data, one with a number, and one with a flag
abbrev pub said : Answer (Unit {0}) → Said
said a = said_by (λ _. []) a

abbrev pub said_number : Answer ℕ → Said
said_number a = said_by (λ k. k ∷ []) a

abbrev pub said_flag : Answer Bool → Said
said_flag a = said_by (λ b. bit b ∷ []) a

-- what a call says that asks and changes nothing
unfoldable pub answering : Refusal → List ℕ → Said
answering r values = cond (eqb r.number 0) (done values) (refused r.number r.place)

-- what a call says, with what it leaves: a refusal leaves everything as it was, and any other call does `otherwise`
unfoldable pub unless : {A : Type 0} → Refusal → A → Said × A → Said × A
unless r before otherwise = cond (eqb r.number 0) otherwise (refused r.number r.place, before)

-- the same, where any other call is done
unfoldable pub leaving : {A : Type 0} → Refusal → A → List ℕ → A → Said × A
unfolding unless
leaving r before values after = unless r before (done values, after)
