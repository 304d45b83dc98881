-- Cells in runs: equal ones, or each one more than the one before.
use Rattle.std.specs.Prelude.{ℕ, zero, suc, ◌+◌, ◌-◌, ◌*◌, Bool, cond, ◌&&◌, ◌||◌, List, [], ◌∷◌, ◌++◌, eqb}
use Rattle.replay_lines.specs.declared.runs.Run.{Run}

-- the last cell of a run
unfoldable pub last_cell : Run → ℕ
last_cell r = r.first + (r.count - 1) * r.step

-- so many cells, from the first on
unfoldable pub cells_from : ℕ → ℕ → ℕ → List ℕ
cells_from first zero step = []
cells_from first (suc count) step = first ∷ cells_from (first + step) count step

-- the cells of runs
unfoldable pub spread : List Run → List ℕ
unfolding cells_from
spread [] = []
spread (r ∷ l) = cells_from r.first r.count r.step ++ spread l

-- no cell, and one cell
abbrev pub none : Run
none = record { first = 0; count = 0; step = 0 }

abbrev pub alone : ℕ → Run
alone x = record { first = x; count = 1; step = 0 }

-- a run with a cell more, each now so much more than the one before
abbrev pub longer : Run → ℕ → Run
longer r step = record { first = r.first; count = r.count + 1; step = step }

-- a run without its first cell
abbrev pub rest : Run → Run
rest r = record { first = r.first + r.step; count = r.count - 1; step = r.step }

-- whether a cell goes on with a run of equal cells, or of one cell: it equals the one before
unfoldable pub repeats : Run → ℕ → Bool
repeats r x = eqb r.step 0 && eqb x r.first

-- whether a cell goes on with a run of ascending cells, or of one cell: it is the one before plus one
unfoldable pub ascends : Run → ℕ → Bool
ascends r x = eqb x (r.first + r.count) && (eqb r.count 1 || eqb r.step 1)

-- the runs of a run and the cells after it
unfoldable pub runs_from : Run → List ℕ → List Run
unfolding repeats ascends
runs_from r [] = r ∷ []
runs_from r (x ∷ l) =
    cond (repeats r x)
    (runs_from (longer r 0) l)
    (cond (ascends r x) (runs_from (longer r 1) l) (r ∷ runs_from (alone x) l))

-- cells in runs, from left to right, each as long as it can be
unfoldable pub runs : List ℕ → List Run
unfolding runs_from
runs [] = []
runs (x ∷ l) = runs_from (alone x) l
