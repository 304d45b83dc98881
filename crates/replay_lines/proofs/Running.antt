-- Cells in runs: the last cell of a run, and that no cell is lost.
use Prim.Native.Nat.{ℕ, zero, suc, ◌+◌, ◌-◌, ◌*◌, ◌<◌, ◌≤◌}
use native.Mathlib.Nat.{suc-mul, mul-zero, mul-one}
use native.Mathlib.Numerals.{add-one}
use native.Mathlib.Omega.{arith}
use mathlib.Core.Bool.{Bool, true, false, cond}
use mathlib.Core.List.{List, [], ◌∷◌, ◌++◌, append_assoc}
use mathlib.Core.Logic.{⊎_elim}
use mathlib.Core.Path.{◌≡◌, refl, ap, sym, ◌∙◌}
use lib.Dec.{eqb}
use borrow.Author.Tests.{eqb-true, eq-eqb, ne_eqb}
use Rattle.columns.proofs.Bools.{and_left, and_right, or_split}
use Rattle.replay_lines.specs.declared.runs.Run.{Run}
use Rattle.replay_lines.specs.Runs.{last_cell, cells_from, spread, alone, longer, repeats, ascends, runs_from, runs}

-- the last cell of equal cells, of ascending ones, and of one cell
pub last_equal : (r : Run) (largest : ℕ) → r.step ≡ 0 → r.first ≤ largest → last_cell r ≤ largest
unfolding last_cell
last_equal r largest e h = rw (e, mul-zero) (omega arith)

pub last_ascending : (r : Run) (most largest : ℕ) → r.step ≡ 1 → r.count ≤ most → r.first + most ≤ largest + 1 → r.first ≤ largest
    → last_cell r ≤ largest
unfolding last_cell
last_ascending r most largest e h k g = rw (e, mul-one) (omega arith)

-- of a run without its first cell it is the same
less_one : (count step : ℕ) → 1 < count → (count - 1 - 1) * step + step ≡ (count - 1) * step
less_one count step h = let e : suc (count - 1 - 1) ≡ count - 1 = omega arith in sym (suc-mul (count - 1 - 1) step) ∙ ap (◌* step) e

pub last_rest : (first count step : ℕ) → 1 < count → first + step + (count - 1 - 1) * step ≡ first + (count - 1) * step
last_rest first count step h = omega (arith, less_one count step h)

pub second_last : (r : Run) (largest : ℕ) → 1 < r.count → last_cell r ≤ largest → r.first + r.step ≤ largest
unfolding last_cell
second_last r largest h k = omega (arith, less_one r.count r.step h)

-- whether a cell goes on with ascending cells
pub ascends-not : (r : Run) (x : ℕ) → (x ≡ r.first + r.count → ⊥) → false ≡ ascends r x
unfolding ascends
ascends-not r x h = rw (ne_eqb x (r.first + r.count) h)

pub ascends_one : (r : Run) (x : ℕ) → x ≡ r.first + r.count → r.count ≡ 1 → true ≡ ascends r x
unfolding ascends
ascends_one r x h k = rw (eq-eqb x (r.first + r.count) h, eq-eqb r.count 1 k)

pub ascends_more : (r : Run) (x : ℕ) → x ≡ r.first + r.count → (r.count ≡ 1 → ⊥) → eqb r.step 1 ≡ ascends r x
unfolding ascends
ascends_more r x h k = rw (eq-eqb x (r.first + r.count) h, ne_eqb r.count 1 k)

-- one cell more at the end
cells_more : (first count step : ℕ) → cells_from first (suc count) step ≡ cells_from first count step ++ ((first + count * step) ∷ [])
unfolding cells_from
cells_more first zero step = let e : first ≡ first + zero * step = omega arith in ap (◌∷ []) e
cells_more first (suc count) step =
    let e : first + step + count * step ≡ first + suc count * step = omega (arith, suc-mul count step) in
    ap (first ∷◌) (cells_more (first + step) count step ∙ ap (λ x. cells_from (first + step) count step ++ (x ∷ [])) e)

-- a run by this step, and the cell that goes on with it
grown : (r : Run) (step x : ℕ) (l : List ℕ) → cells_from r.first r.count step ≡ cells_from r.first r.count r.step
    → x ≡ r.first + r.count * step
    → cells_from r.first (r.count + 1) step ++ l ≡ cells_from r.first r.count r.step ++ (x ∷ l)
grown r step x l same e =
    ap (λ n. cells_from r.first n step ++ l) (add-one r.count)
    ∙ ap (◌++ l) (cells_more r.first r.count step)
    ∙ append_assoc (cells_from r.first r.count step) _ l
    ∙ ap (λ y. cells_from r.first r.count step ++ (y ∷ l)) (sym e)
    ∙ ap (◌++ (x ∷ l)) same

repeated : (r : Run) (x : ℕ) (l : List ℕ) → repeats r x ≡ true
    → cells_from r.first (r.count + 1) 0 ++ l ≡ cells_from r.first r.count r.step ++ (x ∷ l)
unfolding repeats
repeated r x l h =
    let s : r.step ≡ 0 = eqb-true r.step 0 (and_left (eqb r.step 0) _ h) in
    let e : x ≡ r.first = eqb-true x r.first (and_right (eqb r.step 0) _ h) in
    grown r 0 x l (ap (cells_from r.first r.count) (sym s)) (omega (arith, mul-zero r.count))

-- one cell, whatever the step
single : (first count step other : ℕ) → count ≡ 1 → cells_from first count step ≡ cells_from first count other
unfolding cells_from
single first count step other e = rw e

ascended : (r : Run) (x : ℕ) (l : List ℕ) → ascends r x ≡ true
    → cells_from r.first (r.count + 1) 1 ++ l ≡ cells_from r.first r.count r.step ++ (x ∷ l)
unfolding ascends
ascended r x l h =
    let e : x ≡ r.first + r.count = eqb-true x (r.first + r.count) (and_left (eqb x (r.first + r.count)) _ h) in
    grown r 1 x l
    (⊎_elim
    (λ one. single r.first r.count 1 r.step (eqb-true r.count 1 one))
    (λ up. ap (cells_from r.first r.count) (sym (eqb-true r.step 1 up)))
    (or_split (eqb r.count 1) (eqb r.step 1) (and_right (eqb x (r.first + r.count)) _ h)))
    (omega (arith, mul-one r.count))

-- a cell goes on with a run, or starts the next
spread-cell : (r : Run) (x : ℕ) (l : List ℕ) (b c : Bool) (equal up next : List Run) → repeats r x ≡ b → ascends r x ≡ c
    → spread equal ≡ cells_from r.first (r.count + 1) 0 ++ l
    → spread up ≡ cells_from r.first (r.count + 1) 1 ++ l
    → spread next ≡ x ∷ l
    → spread (cond b equal (cond c up (r ∷ next))) ≡ cells_from r.first r.count r.step ++ (x ∷ l)
unfolding spread
spread-cell r x l true c equal up next p q f g h = f ∙ repeated r x l p
spread-cell r x l false true equal up next p q f g h = g ∙ ascended r x l q
spread-cell r x l false false equal up next p q f g h = ap (cells_from r.first r.count r.step ++◌) h

spread_from : (r : Run) (l : List ℕ) → spread (runs_from r l) ≡ cells_from r.first r.count r.step ++ l
unfolding spread runs_from
spread_from r [] = refl
spread_from r (x ∷ l) =
    spread-cell r x l (repeats r x) (ascends r x) _ _ _ refl refl
    (spread_from (longer r 0) l)
    (spread_from (longer r 1) l)
    (spread_from (alone x) l)

-- the cells of the runs of a list are the list
pub spread-runs : (l : List ℕ) → spread (runs l) ≡ l
unfolding runs spread
spread-runs [] = refl
spread-runs (x ∷ l) = spread_from (alone x) l
