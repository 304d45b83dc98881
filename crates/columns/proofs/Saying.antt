-- What an answer says determines it: two answers that say the same are equal.
use mathlib.Core.Path.{◌≡◌, refl, ap, sym, ◌∙◌}
use mathlib.Core.Bool.{Bool, true, false, cond}
use lib.Dec.{eqb}
use native.Mathlib.Omega.{arith}
use Prim.Native.Nat.{ℕ}
use mathlib.Core.List.{List}
use borrow.Author.Tests.{eq-eqb, ne_eqb}
use Rattle.std.specs.Prelude.{Result, Ok, Err}
use Rattle.columns.specs.declared.answers.Refusal as code
use Rattle.columns.specs.declared.answers.Refusal.TheVariants as R
use Rattle.columns.specs.Answers.{
  Answer,
  Refusal,
  refusal_of,
  Said,
  done,
  refused,
  said_outcome,
  said_by,
  said,
  said_number,
  said_flag,
  answering,
  unless,
  leaving,
}
use Rattle.columns.specs.Counting.{bit}

-- every case has a number
pub numbered : (r : code.Refusal) → (refusal_of r).number ≡ 0 → ⊥
numbered R.WrongStates e = omega arith
numbered R.WrongLabels e = omega arith
numbered R.WrongRows e = omega arith
numbered R.WrongInitial e = omega arith
numbered (R.WrongField row) e = omega arith
numbered (R.NotAbove row) e = omega arith
numbered R.TooShort e = omega arith
numbered (R.OutOfRange argument) e = omega arith
numbered (R.NothingMarked block) e = omega arith
numbered (R.NotDense missing) e = omega arith
numbered R.Cyclic e = omega arith
numbered (R.NoBottom block) e = omega arith
numbered (R.WrongContents offset) e = omega arith
numbered R.Inconsistent e = omega arith
numbered (R.WrongList index) e = omega arith
numbered (R.NoRoom needed) e = omega arith

-- the case of a number and a place
abbrev case_of : ℕ → ℕ → code.Refusal
case_of n p =
    cond (eqb n 1) R.WrongStates (
    cond (eqb n 2) R.WrongLabels (
    cond (eqb n 3) R.WrongRows (
    cond (eqb n 4) R.WrongInitial (
    cond (eqb n 5) (R.WrongField p) (
    cond (eqb n 6) (R.NotAbove p) (
    cond (eqb n 7) R.TooShort (
    cond (eqb n 8) (R.OutOfRange p) (
    cond (eqb n 9) (R.NothingMarked p) (
    cond (eqb n 10) (R.NotDense p) (
    cond (eqb n 11) R.Cyclic (
    cond (eqb n 12) (R.NoBottom p) (
    cond (eqb n 13) (R.WrongContents p) (
    cond (eqb n 14) R.Inconsistent (
    cond (eqb n 15) (R.WrongList p) (
    R.NoRoom p)))))))))))))))

case_back : (r : code.Refusal) → case_of (refusal_of r).number (refusal_of r).place ≡ r
case_back R.WrongStates = refl
case_back R.WrongLabels = refl
case_back R.WrongRows = refl
case_back R.WrongInitial = refl
case_back (R.WrongField row) = refl
case_back (R.NotAbove row) = refl
case_back R.TooShort = refl
case_back (R.OutOfRange argument) = refl
case_back (R.NothingMarked block) = refl
case_back (R.NotDense missing) = refl
case_back R.Cyclic = refl
case_back (R.NoBottom block) = refl
case_back (R.WrongContents offset) = refl
case_back R.Inconsistent = refl
case_back (R.WrongList index) = refl
case_back (R.NoRoom needed) = refl

pub same-refusal : (r q : code.Refusal) → refused (refusal_of r).number (refusal_of r).place ≡ refused (refusal_of q).number (refusal_of q).place → r ≡ q
same-refusal r q e =
    let n : (refusal_of r).number ≡ (refusal_of q).number = cc in
    let p : (refusal_of r).place ≡ (refusal_of q).place = cc in
    sym (case_back r) ∙ (λ i. case_of (n i) (p i)) ∙ case_back q

pub apart : (l : List ℕ) (n p : ℕ) → done l ≡ refused n p → ⊥
apart l n p e = let z : ◌≡◌ {A = ℕ} 0 1 = cc in omega arith

same_bit : (a b : Bool) → bit a ≡ bit b → a ≡ b
same_bit true true e = refl
same_bit true false e = absurd (omega arith)
same_bit false true e = absurd (omega arith)
same_bit false false e = refl

module _ {T : Type 0} (values : T → List ℕ) (same : (x y : T) → values x ≡ values y → x ≡ y) where
  same_outcome : (a b : Result T code.Refusal) → said_outcome values a ≡ said_outcome values b → a ≡ b
  same_outcome (Ok x) (Ok y) e = let q : values x ≡ values y = cc in ap Ok (same x y q)
  same_outcome (Ok x) (Err q) e = absurd (apart _ _ _ e)
  same_outcome (Err r) (Ok y) e = absurd (apart _ _ _ (sym e))
  same_outcome (Err r) (Err q) e = ap Err (same-refusal r q e)

  -- if the numbers of the data tell what it is
  pub same_said : (a b : Answer T) → said_by values a ≡ said_by values b → a ≡ b
  same_said a b e = λ i. record { outcome = same_outcome a.outcome b.outcome e i }

pub same_answer : (a b : Answer (Unit {0})) → said a ≡ said b → a ≡ b
same_answer = same_said _ (λ x y e. refl)

pub same_number : (a b : Answer ℕ) → said_number a ≡ said_number b → a ≡ b
same_number = same_said _ (λ x y e. cc)

pub same_flag : (a b : Answer Bool) → said_flag a ≡ said_flag b → a ≡ b
same_flag = same_said _ (λ x y e. let q : bit x ≡ bit y = cc in same_bit x y q)

-- ---- the two ways out of a call whose checks have answered t
module _ (r t : Refusal) (e : t ≡ r) where
  pub asked_refused : (values : List ℕ) → (t.number ≡ 0 → ⊥) → refused t.number t.place ≡ answering r values
  unfolding answering
  asked_refused values n = rw (← e, ne_eqb t.number 0 n)

  pub asked_done : (values : List ℕ) → t.number ≡ 0 → done values ≡ answering r values
  unfolding answering
  asked_done values z = rw (← e, eq-eqb t.number 0 z)

  module _ {A : Type 0} (before : A) (otherwise : Said × A) where
    pub unless_refused : (s : Said) → (t.number ≡ 0 → ⊥) → s ≡ refused t.number t.place → (s, before) ≡ unless r before otherwise
    unfolding unless
    unless_refused s n f = rw (← e, ne_eqb t.number 0 n, f)

    pub unless_on : (now : Said × A) → t.number ≡ 0 → now ≡ otherwise → now ≡ unless r before otherwise
    unfolding unless
    unless_on now z f = rw (← e, eq-eqb t.number 0 z, f)

  module _ {A : Type 0} (before after : A) (values : List ℕ) (s : Said) where
    pub left_refused : (t.number ≡ 0 → ⊥) → s ≡ refused t.number t.place → (s, before) ≡ leaving r before values after
    unfolding leaving
    left_refused n f = unless_refused before (done values, after) s n f

    pub left_done : (now : A) → t.number ≡ 0 → s ≡ done values → now ≡ after → (s, now) ≡ leaving r before values after
    unfolding leaving
    left_done now z f g = unless_on before (done values, after) (s, now) z (λ i. (f i, g i))
