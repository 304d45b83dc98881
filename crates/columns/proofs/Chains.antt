-- Laws of a chain of tests: what holds where it refuses nothing, and how two chains make one. Each asks that every refusal of the chain
-- has a number, which computes.
use borrow.Author.Tests.{eq-eqb, ne_eqb, not-true}
use mathlib.Core.Bool.{Bool, true, false, not, cond, ◌&&◌}
use mathlib.Core.List.{List, [], ◌∷◌, ◌++◌}
use mathlib.Core.Path.{◌≡◌, refl, ap, sym, ◌∙◌}
use lib.Dec.{eqb}
use Rattle.std.specs.Prelude.{Result, Ok, Err, IsErrAnd}
use Rattle.std.specs.Result.{result_and}
use Rattle.columns.specs.declared.answers.Refusal as code
use Rattle.columns.specs.Answers.{Refusal}
use Rattle.columns.specs.Answers.{none, refusal_of, checked}
use Rattle.columns.specs.Due.{Test, due, or_else}
use Rattle.columns.proofs.Bools.{contra, and_left, and_right}
use Rattle.columns.proofs.Saying.{numbered}

-- the refusal of a test has number 0, and so is none
abbrev unnumbered : Test → Bool
unnumbered t = eqb t.1.number 0

abbrev pub all_numbered : List Test → Bool
all_numbered [] = true
all_numbered (t ∷ tests) = not (unnumbered t) && all_numbered tests

-- every test of a chain holds
abbrev pub Holds : List Test → Type 0
Holds [] = Unit {0}
Holds (t ∷ tests) = (t.0 ≡ true) × Holds tests

-- where a chain refuses nothing all its tests hold
due-zero : (l : List Test) → all_numbered l ≡ true → (due l).number ≡ 0 → Holds l
unfolding due
due-zero [] n z = tt
due-zero (t ∷ l) n z = by t.0 (due-zero l (and_right (not (unnumbered t)) (all_numbered l) n)) z
  where
    by : (b : Bool) → ((due l).number ≡ 0 → Holds l) → (cond b (due l) t.1).number ≡ 0 → (b ≡ true) × Holds l
    by true f z = (refl, f z)
    by false f z =
        absurd (contra (eq-eqb t.1.number 0 z) (not-true (unnumbered t) (and_left (not (unnumbered t)) (all_numbered l) n)))

-- the checks have answered r
pub passed : (l : List Test) → all_numbered l ≡ true → (r : Refusal) → r ≡ due l → r.number ≡ 0 → Holds l
passed l n r e z = due-zero l n (sym (ap (λ (q : Refusal). q.number) e) ∙ z)

-- two chains that make one
pub holds_both : (l k : List Test) → Holds l → Holds k → Holds (l ++ k)
holds_both [] k h g = g
holds_both (t ∷ l) k h g = (h.0, holds_both l k h.1 g)

pub parted : (l k : List Test) → Holds (l ++ k) → Holds l × Holds k
parted [] k h = (tt, h)
parted (t ∷ l) k h = let p = parted l k h.1 in ((h.0, p.0), p.1)

pub passed_both : (l k : List Test) → all_numbered (l ++ k) ≡ true → (r : Refusal) → r ≡ due (l ++ k) → r.number ≡ 0 → Holds l × Holds k
passed_both l k n r e z = parted l k (passed (l ++ k) n r e z)

-- where all its tests hold a chain refuses nothing
pub none-due : (l : List Test) → Holds l → due l ≡ none
unfolding due
none-due [] h = refl
none-due (t ∷ l) h = ap (λ (b : Bool). cond b (due l) t.1) h.0 ∙ none-due l h.1

-- one chain after another: what the second refuses counts where the first refuses nothing
pub due-append : (l k : List Test) → all_numbered l ≡ true → due (l ++ k) ≡ or_else (due l) (due k)
unfolding due or_else
due-append [] k n = refl
due-append (t ∷ l) k n = by t.0 (due-append l k (and_right (not (unnumbered t)) (all_numbered l) n))
  where
    by : (b : Bool) → due (l ++ k) ≡ or_else (due l) (due k) → cond b (due (l ++ k)) t.1 ≡ or_else (cond b (due l) t.1) (due k)
    by true f = f
    by false f =
        sym (ap (λ (b : Bool). cond b (due k) t.1) (not-true (unnumbered t) (and_left (not (unnumbered t)) (all_numbered l) n)))

-- the checks of the first have answered r
module _ (l k : List Test) (n : all_numbered l ≡ true) (r : Refusal) (e : r ≡ due l) where
  pub chained : (s : Refusal) → s ≡ due k → or_else r s ≡ due (l ++ k)
  chained s f = (λ i. or_else (e i) (f i)) ∙ sym (due-append l k n)

  -- a chain that has passed goes on
  pub goes_on_lem : r.number ≡ 0 → due k ≡ due (l ++ k)
  unfolding or_else
  goes_on_lem z = ap (λ (b : Bool). cond b (due k) r) (sym (eq-eqb r.number 0 z)) ∙ chained (due k) refl

  -- and a refusal ends it
  pub ends : (r.number ≡ 0 → ⊥) → r ≡ due (l ++ k)
  unfolding or_else
  ends f = ap (λ (b : Bool). cond b (due k) r) (sym (ne_eqb r.number 0 f)) ∙ chained (due k) refl

-- the first check of two answers by `?`: it refuses with x, and so does the call, or the second decides
err_checked : (r : Result (Unit {0}) code.Refusal) (x : code.Refusal) → IsErrAnd r (λ e. e ≡ x) → checked r ≡ refusal_of x
err_checked (Ok u) x h = absurd h
err_checked (Err e) x h = ap refusal_of h

module _ (l k : List Test) (n : all_numbered l ≡ true) (r : Result (Unit {0}) code.Refusal) where
  pub refused_first : (x : code.Refusal) → refusal_of x ≡ due l → IsErrAnd r (λ e. e ≡ x) → checked r ≡ due (l ++ k)
  refused_first x e h = err_checked r x h ∙ ends l k n (refusal_of x) e (numbered x)

  pub refused_second : none ≡ due l → checked r ≡ due k → checked r ≡ due (l ++ k)
  refused_second e f = f ∙ goes_on_lem l k n none e refl

-- two checks put together by `and`
pub both_checked : (l k : List Test) → all_numbered l ≡ true → (r s : Result (Unit {0}) code.Refusal) → checked r ≡ due l → checked s ≡ due k
    → checked (result_and r s) ≡ due (l ++ k)
both_checked l k n (Ok u) s e f = f ∙ goes_on_lem l k n none e refl
both_checked l k n (Err x) s e f = ends l k n (refusal_of x) e (numbered x)
