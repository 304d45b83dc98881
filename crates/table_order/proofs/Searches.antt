-- The searches of the code, on columns.
use Rattle.std.specs.Prelude.{◌≡◌, ℕ, suc, ◌+◌, ◌<◌, false, List, [], ◌∷◌, length, get_or, set}
use mathlib.Core.Path.{refl, sym, ap, ◌∙◌, subst}
use native.Mathlib.Numerals.{add-one}
use Rattle.columns.proofs.Bools.{contra}
use Rattle.table_order.specs.Order.{sweep}
use Rattle.table_order.specs.Machine.{stack_of, Cycle, Machine, Idle}
use Rattle.table_order.specs.Turn.{Swept}
use Rattle.table_order.proofs.Rows.{stack_push}
use Rattle.table_order.proofs.Turns.{idle_skip, search_start, search_end}

stack_none : (a : List ℕ) → stack_of 0 a ≡ []
unfolding stack_of
stack_none a = refl

module _ (next : ℕ → List ℕ) (n m root : ℕ) where
  after : {marks : List ℕ} {k : ℕ} → Idle next n m (suc root) marks k → Idle next n m (root + 1) marks k
  after {marks} {k} i = subst (λ (r : ℕ). Idle next n m r marks k) (sym (add-one root)) i

  pub searched_skip : {marks : List ℕ} {k x : ℕ} → Idle next n m root marks k → root < n → x ≡ get_or marks root 0 → (x ≡ 0 → ⊥) →
      Idle next n m (root + 1) marks k
  searched_skip i h e f = after (idle_skip next n m i h (λ q. f (e ∙ q)))

  pub machine_start : {marks : List ℕ} {k : ℕ} (stack : List ℕ) → Idle next n m root marks k → root < n → 0 < length stack →
      Machine next n m (root + 1) (sweep next n (root + 1)) marks (stack_of 1 (set stack 0 root)) k
  machine_start {marks} {k} stack i h l =
      rw (stack_push 0 root stack l ∙ ap (λ (s : List ℕ). root ∷ s) (stack_none stack), add-one root) (search_start next n m i h)

  pub searched_end : {marks : List ℕ} {k : ℕ} (stack : List ℕ) (top : ℕ) →
      Machine next n m (root + 1) (sweep next n (root + 1)) marks (stack_of top stack) k → top ≡ 0 → Idle next n m (root + 1) marks k
  searched_end {marks} {k} stack top i e =
      after
      (search_end next n m
      (subst (λ (s : List ℕ). Machine next n m (suc root) (sweep next n (suc root)) marks s k)
      (ap (λ (t : ℕ). stack_of t stack) e ∙ stack_none stack)
      (subst (λ (r : ℕ). Machine next n m r (sweep next n r) marks (stack_of top stack) k) (add-one root) i)))

module _ (next : ℕ → List ℕ) (n m : ℕ) where
  pub swept_cycle : {marks : List ℕ} → Cycle next → Swept next n m marks false
  swept_cycle c = record { cycle = λ _. c; idle = λ q. absurd (contra q refl) }
