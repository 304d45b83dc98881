-- A call that says done: nothing is refused, and what it says and leaves is what its definition has for that.
use Prim.Native.Nat.{ℕ}
use mathlib.Core.Path.{◌≡◌, refl, ap, sym, ◌∙◌}
use mathlib.Core.Bool.{Bool, true, false, cond}
use mathlib.Core.List.{List, [], ◌∷◌}
use mathlib.Core.Logic.{◌⊎◌, inl, inr, ◌↔◌}
use borrow.Author.Tests.{eqb-true}
use lib.Dec.{eqb}
use Rattle.columns.specs.Answers.{Refusal}
use Rattle.columns.specs.Answers.{Said, done, refused, answering, unless, leaving}
use Rattle.columns.specs.Counting.{bit}
use Rattle.columns.proofs.Saying.{apart}
use native.Mathlib.Omega.{arith}

same_values : (k l : List ℕ) → done k ≡ done l → k ≡ l
same_values k l e = cc

pub answering_done : (r : Refusal) (l values : List ℕ) → done l ≡ answering r values → (r.number ≡ 0) × (l ≡ values)
unfolding answering
answering_done r l values e = go (eqb r.number 0) refl e
  where
    go : (b : Bool) → eqb r.number 0 ≡ b → done l ≡ cond b (done values) (refused r.number r.place)
        → (r.number ≡ 0) × (l ≡ values)
    go true q e = (eqb-true r.number 0 q, same_values l values e)
    go false q e = absurd (apart _ _ _ e)

module _ {A : Type 0} (r : Refusal) (before left : A) where
  pub unless_done : (l : List ℕ) (otherwise : Said × A) → (done l, left) ≡ unless r before otherwise
      → (r.number ≡ 0) × ((done l, left) ≡ otherwise)
  unfolding unless
  unless_done l otherwise e = go (eqb r.number 0) refl e
    where
      go : (b : Bool) → eqb r.number 0 ≡ b
          → ◌≡◌ {A = Said × A} (done l, left) (cond b otherwise (refused r.number r.place, before))
          → (r.number ≡ 0) × ((done l, left) ≡ otherwise)
      go true q e = (eqb-true r.number 0 q, e)
      go false q e = absurd (apart _ _ _ (ap (λ (x : Said × A). x.0) e))

  pub leaving_done : (after : A) (l values : List ℕ) → (done l, left) ≡ leaving r before values after
      → (r.number ≡ 0) × (l ≡ values) × (left ≡ after)
  unfolding leaving
  leaving_done after l values e =
      let d = unless_done l (done values, after) e in
      (d.0, same_values l values (ap (λ (x : Said × A). x.0) d.1), ap (λ (x : Said × A). x.1) d.1)

-- a flag that is said: yes or no, and yes exactly if P
pub record SaysWhether (values : List ℕ) (P : Type 0) : Type 0 where
  pub flag : (values ≡ 1 ∷ []) ⊎ (values ≡ 0 ∷ [])
  pub exactly : (values ≡ 1 ∷ []) ↔ P

pub says_whether : (b : Bool) (values : List ℕ) {P : Type 0} → values ≡ bit b ∷ [] → (b ≡ true) ↔ P → SaysWhether values P
says_whether b values e law =
    record { flag = one_of b e; exactly = (λ q. law.0 (yes b e q), λ p. e ∙ ap (λ (t : Bool). bit t ∷ []) (law.1 p)) }
  where
    one_of : (b : Bool) → values ≡ bit b ∷ [] → (values ≡ 1 ∷ []) ⊎ (values ≡ 0 ∷ [])
    one_of true e = inl e
    one_of false e = inr e

    yes : (b : Bool) → values ≡ bit b ∷ [] → values ≡ 1 ∷ [] → b ≡ true
    yes true e q = refl
    yes false e q = let z : ◌≡◌ {A = ℕ} 0 1 = cc (sym e ∙ q) in absurd (omega (arith, z))
