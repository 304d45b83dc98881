-- Two results that one equation with a definition d allows are equal, since two answers that say the same are equal.
use mathlib.Core.List.{List, [], ◌∷◌}
use mathlib.Core.Path.{◌≡◌, ap, sym, ◌∙◌}
use Prim.Native.Nat.{ℕ, zero, suc}
use Rattle.columns.specs.Answers.{Said}

-- n parameters that are not lent for writing, and behind them c
abbrev pub Skipped : ℕ → Type 0 → Type 0
Skipped zero C = C
Skipped (suc n) C = Unit {0} × Skipped n C

abbrev pub skip : {C : Type 0} (n : ℕ) → C → Skipped n C
skip zero c = c
skip (suc n) c = (tt, skip n c)

-- the last k parameters, work slices that an equation names in a list
abbrev pub Works : ℕ → Type 0
Works zero = Unit {0}
Works (suc k) = List ℕ × Works k

abbrev pub works : (k : ℕ) → List (List ℕ) → Works k
works zero l = tt
works (suc k) [] = ([], works k [])
works (suc k) (w ∷ l) = (w, works k l)

module _ {A : Type 0} {says : A → Said} (same : (r q : A) → says r ≡ says q → r ≡ q) where
  -- a call that only answers
  pub determined_answer : {d : Said} (r q : A) → says r ≡ d → says q ≡ d → r ≡ q
  determined_answer r q e f = same r q (e ∙ sym f)

  -- a call that is lent cells: c and b are those that the equation names, and `held` finds what each parameter holds among them
  pub determined :
      {C X : Type 0} (held : C → X) {d : Said × C} (r q : A) {c b : C} → (says r, c) ≡ d → (says q, b) ≡ d → (r ≡ q) × (held c ≡ held b)
  determined held r q e f = (same r q (ap (λ t. t.0) (e ∙ sym f)), ap (λ t. held t.1) (e ∙ sym f))
