-- Small tables, by computation.
use Rattle.std.specs.Prelude.{◌≡◌, ℕ, Bool, true, false, List, [], ◌∷◌}
use mathlib.Core.Path.{refl}
use Rattle.columns.specs.Columns.{listed}
use Rattle.columns.specs.Sets.{Row}
use Rattle.quotient_components.specs.Components.{components}
use Rattle.table.specs.Lts.{Lts}
use Rattle.quotient_cycles.specs.Reordered.{new_number, new_rows}

-- three states; two labels
abbrev three : ℕ → List ℕ → List ℕ → List ℕ → Lts
three m source label target =
    record { n = 3; labels = 2; m = m; initial = 0; source = source; label = label; target = target }

abbrev row : ℕ → ℕ → ℕ → Row
row s a u = (s, (a, u))

-- how many states come out, each state's number, and the rows
abbrev outcome : Lts → Bool → ℕ × (List ℕ × List Row)
outcome t eliminate = (components t, (listed t.n (new_number t eliminate), new_rows t eliminate))

pub no_rows : outcome (three 0 [] [] []) true ≡ (3, (0 ∷ 1 ∷ 2 ∷ [], []))
unfolding components new_number new_rows listed
no_rows = refl

-- 0 and 1 on a hidden cycle, which leads on to 2: with the flag the cycle goes, without it is a self-loop
abbrev cycle : Lts
cycle = three 3 (0 ∷ 1 ∷ 1 ∷ []) (0 ∷ 0 ∷ 0 ∷ []) (1 ∷ 0 ∷ 2 ∷ [])

pub cycle_goes : outcome cycle true ≡ (2, (1 ∷ 1 ∷ 0 ∷ [], row 1 0 0 ∷ []))
unfolding components new_number new_rows listed
cycle_goes = refl

pub cycle_stays : outcome cycle false ≡ (2, (1 ∷ 1 ∷ 0 ∷ [], row 1 0 0 ∷ row 1 0 1 ∷ []))
unfolding components new_number new_rows listed
cycle_stays = refl
