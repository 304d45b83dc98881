-- The text of a slice, as bytes: cell by cell, or in runs; 42 and 43 are `*` and `+`, 124 the bar before a slice.
use Rattle.std.specs.Prelude.{ℕ, ◌+◌, ◌≤◌, Bool, true, false, cond, List, [], ◌∷◌, ◌++◌, ◌≡◌, eqb, length}
use Rattle.spelling.specs.Digits.{digits}
use Rattle.replay_lines.specs.declared.runs.Run.{Run}
use Rattle.replay_lines.specs.declared.slices.Shown.{Shown}
use Rattle.replay_lines.specs.Runs.{runs, runs_from}
use Rattle.replay_lines.specs.Text.{puts}
use Rattle.replay_lines.specs.Spelling.{spelled, spelled_all}

-- a run: its first cell, with a blank before it, and if there are more than one a sign and how many
unfoldable pub run_text : Run → List ℕ
unfolding spelled
run_text r =
    cond (eqb r.count 0) []
    (spelled r.first ++ cond (eqb r.count 1) [] (cond (eqb r.step 0) 42 43 ∷ digits r.count))

unfoldable pub runs_text : List Run → List ℕ
unfolding run_text
runs_text [] = []
runs_text (r ∷ l) = run_text r ++ runs_text l

-- cells, in runs or one by one
unfoldable pub cells_text : Bool → List ℕ → List ℕ
unfolding runs_text runs spelled_all
cells_text true cells = runs_text (runs cells)
cells_text false cells = spelled_all cells

-- a run that is not written yet, and the cells after it
unfoldable pub rest_text : Bool → Run → List ℕ → List ℕ
unfolding run_text runs_text runs_from spelled_all
rest_text true r cells = runs_text (runs_from r cells)
rest_text false r cells = run_text r ++ spelled_all cells

-- a cell more is shown: what is left to write is the same, whatever cells come after it
pub record Showing (short : Bool) (before : Shown) (out : List ℕ) (x : ℕ) (after : Shown) (left : List ℕ) : Type 0 where
  pub text : (l : List ℕ)
      → puts (rest_text short after.run l) (after.used, left) ≡ puts (rest_text short before.run (x ∷ l)) (before.used, out)
  pub longer : after.run.count ≤ before.run.count + 1

-- a slice at return: ` |` and its cells
unfoldable pub column_text : Bool → List ℕ → List ℕ
unfolding cells_text
column_text short cells = 32 ∷ 124 ∷ cells_text short cells

-- a part of a slice: `part`, its length and its cells
unfoldable pub part_text : Bool → List ℕ → List ℕ
unfolding spelled cells_text
part_text short cells = 112 ∷ 97 ∷ 114 ∷ 116 ∷ (spelled (length cells) ++ cells_text short cells)
