-- Small tables, by computation.
use Rattle.std.specs.Prelude.{◌≡◌, ℕ, List, [], ◌∷◌}
use mathlib.Core.Path.{refl}
use Rattle.columns.specs.Sets.{Row}
use Rattle.table.specs.Lts.{Lts}
use Rattle.quotient_redundant.specs.Redundant.{remaining_rows}

-- three states; two labels
abbrev three : ℕ → List ℕ → List ℕ → List ℕ → Lts
three m source label target =
    record { n = 3; labels = 2; m = m; initial = 0; source = source; label = label; target = target }

abbrev row : ℕ → ℕ → ℕ → Row
row s a u = (s, (a, u))

pub no_rows : remaining_rows (three 0 [] [] []) ≡ []
unfolding remaining_rows
no_rows = refl

-- a hidden row that two others stand for goes: (0, 0, 1), (0, 0, 2), (1, 0, 2)
pub hidden_chain : remaining_rows (three 3 (0 ∷ 0 ∷ 1 ∷ []) (0 ∷ 0 ∷ 0 ∷ []) (1 ∷ 2 ∷ 2 ∷ [])) ≡ (row 0 0 1 ∷ row 1 0 2 ∷ [])
unfolding remaining_rows
hidden_chain = refl

-- a hidden self-loop is no witness: (0, 0, 0), (0, 0, 1) both stay
pub self_loop : remaining_rows (three 2 (0 ∷ 0 ∷ []) (0 ∷ 0 ∷ []) (0 ∷ 1 ∷ [])) ≡ (row 0 0 0 ∷ row 0 0 1 ∷ [])
unfolding remaining_rows
self_loop = refl

-- every test is against the whole input: on a hidden cycle each row stands for the others, and (0, 0, 1), (0, 1, 2), (1, 0, 0),
-- (1, 1, 2) all go
pub all_go : remaining_rows (three 4 (0 ∷ 0 ∷ 1 ∷ 1 ∷ []) (0 ∷ 1 ∷ 0 ∷ 1 ∷ []) (1 ∷ 2 ∷ 0 ∷ 2 ∷ [])) ≡ []
unfolding remaining_rows
all_go = refl
