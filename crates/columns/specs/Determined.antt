-- What document 01 asks of a contract: any two results that it allows are equal. A contract equates what the answer says, and every
-- cell that is lent to the call, with a definition d; so d alone is named.
use Rattle.std.specs.Prelude.{◌≡◌}
use Rattle.columns.specs.Answers.{Said}

-- a call that only answers: two answers a and b that it allows are equal
abbrev pub DeterminedAnswer : {A : Type 0} → (A → Said) → Said → Type 0
DeterminedAnswer {A} says d = (a b : A) → says a ≡ d → says b ≡ d → a ≡ b

-- a call that is lent cells: so are its answers, and the cells x and y at return
abbrev pub Determined : {A L : Type 0} → (A → Said) → Said × L → Type 0
Determined {A} {L} says d = (a b : A) (x y : L) → (says a, x) ≡ d → (says b, y) ≡ d → (a ≡ b) × (x ≡ y)
