-- Where there is little or nothing to sort.
use Rattle.std.specs.Prelude.{◌≡◌, ℕ, Bool, true, false, List, [], ◌∷◌}
use mathlib.Core.Path.{refl}
use Rattle.columns.specs.Answers.{Said, done, refused}
use Rattle.columns.specs.Columns.{zeros}
use Rattle.table.specs.Lts.{Lts}
use Rattle.table_order.specs.Call.{sort_topological}

-- three states, two labels, and at most two rows
abbrev table : ℕ → List ℕ → List ℕ → List ℕ → Lts
table m source label target = record { n = 3; labels = 2; m = m; initial = 0; source = source; label = label; target = target }

abbrev two : ℕ → ℕ → List ℕ
two a b = a ∷ b ∷ []

-- the result column has a cell too many, and the work slices six
abbrev run : Lts → Bool → Bool → Said × (List ℕ × (List ℕ × List ℕ))
run t hidden reversed = sort_topological t hidden reversed (7 ∷ 7 ∷ 7 ∷ 8 ∷ []) (9 ∷ 9 ∷ 9 ∷ 9 ∷ 9 ∷ 9 ∷ []) (9 ∷ 9 ∷ 9 ∷ 9 ∷ 9 ∷ 9 ∷ [])

abbrev sorted : ℕ → ℕ → ℕ → Said × (List ℕ × (List ℕ × List ℕ))
sorted a b c = (done [], (a ∷ b ∷ c ∷ 8 ∷ [], (zeros 6, zeros 6)))

abbrev cyclic : Said × (List ℕ × (List ℕ × List ℕ))
cyclic = (refused 11 0, (7 ∷ 7 ∷ 7 ∷ 8 ∷ [], (zeros 6, zeros 6)))

-- two hidden rows, not reversed; no row; only self-loops; no hidden row, and a cycle of visible rows, with hidden rows chosen;
-- the same with hidden rows; a cycle that no start reaches
pub examples :
    (run (table 2 (two 0 0) (two 0 0) (two 1 2)) true false
    ∷ run (table 0 [] [] []) true true
    ∷ run (table 2 (two 0 1) (two 0 0) (two 0 1)) false true
    ∷ run (table 2 (two 0 0) (two 1 1) (two 1 2)) true true
    ∷ run (table 2 (two 0 1) (two 1 1) (two 1 0)) true true
    ∷ run (table 2 (two 0 1) (two 1 1) (two 1 0)) false true
    ∷ run (table 2 (two 1 2) (two 0 0) (two 2 1)) true true
    ∷ [])
    ≡ (sorted 0 1 2 ∷ sorted 0 1 2 ∷ sorted 0 1 2 ∷ sorted 0 1 2 ∷ sorted 0 1 2 ∷ cyclic ∷ cyclic ∷ [])
unfolding sort_topological
examples = refl
