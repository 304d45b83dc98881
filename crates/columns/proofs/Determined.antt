-- Any two results that a contract allows are equal, whatever its definition: two answers that say the same are equal.
use mathlib.Core.Path.{◌≡◌, ap, sym, ◌∙◌}
use Rattle.columns.specs.Answers.{Said}
use Rattle.columns.specs.Determined.{DeterminedAnswer, Determined}

module _ {A : Type 0} {says : A → Said} (same : (a b : A) → says a ≡ says b → a ≡ b) where
  pub determined_answer : {d : Said} → DeterminedAnswer says d
  determined_answer a b p q = same a b (p ∙ sym q)

  pub determined : {L : Type 0} {d : Said × L} → Determined says d
  determined a b x y p q = (same a b (ap (λ t. t.0) (p ∙ sym q)), ap (λ t. t.1) (p ∙ sym q))
