-- Small tables, by computation.
use Rattle.std.specs.Prelude.{◌≡◌, ℕ, List, [], ◌∷◌}
use mathlib.Core.Path.{refl}
use Rattle.columns.specs.Columns.{listed}
use Rattle.table.specs.Lts.{Lts}
use Rattle.quotient_components.specs.Components.{components, component}

-- four states; two labels
abbrev four : ℕ → List ℕ → List ℕ → List ℕ → Lts
four m source label target =
    record { n = 4; labels = 2; m = m; initial = 0; source = source; label = label; target = target }

-- the number of components, and each state's
abbrev numbers : Lts → ℕ × List ℕ
numbers t = (components t, listed t.n (component t))

-- without hidden rows each state is alone; a visible cycle is none
pub apart : numbers (four 2 (0 ∷ 1 ∷ []) (1 ∷ 1 ∷ []) (1 ∷ 0 ∷ [])) ≡ (4, 0 ∷ 1 ∷ 2 ∷ 3 ∷ [])
unfolding components component listed
apart = refl

-- a hidden self-loop joins nothing
pub self_loop : numbers (four 1 (2 ∷ []) (0 ∷ []) (2 ∷ [])) ≡ (4, 0 ∷ 1 ∷ 2 ∷ 3 ∷ [])
unfolding components component listed
self_loop = refl

-- the hidden cycles 0 to 3 and back, and 1 to 2 and back: numbers follow the least member
pub two_cycles : numbers (four 4 (0 ∷ 1 ∷ 2 ∷ 3 ∷ []) (0 ∷ 0 ∷ 0 ∷ 0 ∷ []) (3 ∷ 2 ∷ 1 ∷ 0 ∷ [])) ≡ (2, 0 ∷ 1 ∷ 1 ∷ 0 ∷ [])
unfolding components component listed
two_cycles = refl
