-- The text of cells, of which the last run is not written yet.
use Prim.Native.Nat.{ℕ, suc, ◌+◌, ◌≤◌, ◌<◌}
use native.Mathlib.Numerals.{add-one}
use native.Mathlib.Omega.{arith}
use mathlib.Core.Bool.{Bool, true, false}
use mathlib.Core.List.{List, [], ◌∷◌, ◌++◌, append-nil}
use mathlib.Core.Path.{◌≡◌, refl, ap, sym, ◌∙◌}
use lib.Dec.{eqb}
use lib.ListN.{length, get_or, drop, drop_of_length-le}
use lib.Seq.{drop-cons}
use borrow.Author.Tests.{eqb-true, eq-eqb, ne_eqb}
use Rattle.spelling.specs.Digits.{digits}
use Rattle.replay_lines.specs.declared.runs.Run.{Run}
use Rattle.replay_lines.specs.declared.slices.Shown.{Shown}
use Rattle.replay_lines.specs.Text.{puts}
use Rattle.replay_lines.specs.Runs.{none, alone, longer, repeats, ascends, runs_from}
use Rattle.replay_lines.specs.Spelling.{spelled, spelled_all}
use Rattle.replay_lines.specs.Slices.{run_text, runs_text, cells_text, rest_text, Showing}
use Rattle.replay_lines.proofs.Putting.{puts-append}

-- the runs of cells after no cell have the text of the runs of the cells
after_none : (x : ℕ) (l : List ℕ) (b : Bool) → eqb x 0 ≡ b → runs_text (runs_from none (x ∷ l)) ≡ runs_text (runs_from (alone x) l)
unfolding runs_text run_text runs_from
after_none x l true e = rw e (ap (λ y. runs_text (runs_from (alone y) l)) (sym (eqb-true x 0 e)))
after_none x l false e = rw e

rest-none : (short : Bool) (l : List ℕ) → rest_text short none l ≡ cells_text short l
unfolding rest_text cells_text
rest-none true [] = refl
rest-none true (x ∷ l) = after_none x l (eqb x 0) refl
rest-none false l = refl

-- no cell comes after the run
rest_end : (short : Bool) (r : Run) → run_text r ≡ rest_text short r []
unfolding rest_text
rest_end true r = sym (append-nil (run_text r))
rest_end false r = sym (append-nil (run_text r))

-- the next cell goes on with it
pub rest-repeats : (short : Bool) (r : Run) (x : ℕ) → short ≡ true → repeats r x ≡ true
    → (l : List ℕ) → rest_text short (longer r 0) l ≡ rest_text short r (x ∷ l)
unfolding rest_text
rest-repeats short r x s h l = rw (s, h)

pub rest-ascends : (short : Bool) (r : Run) (x : ℕ) → short ≡ true → repeats r x ≡ false → ascends r x ≡ true
    → (l : List ℕ) → rest_text short (longer r 1) l ≡ rest_text short r (x ∷ l)
unfolding rest_text
rest-ascends short r x s g h l = rw (s, g, h)

-- or starts the next
pub rest_starts : (short : Bool) (r : Run) (x : ℕ) → short ≡ true → repeats r x ≡ false → ascends r x ≡ false
    → (l : List ℕ) → run_text r ++ rest_text short (alone x) l ≡ rest_text short r (x ∷ l)
unfolding rest_text
rest_starts short r x s g h l = rw (s, g, h)

pub rest_plain : (short : Bool) (r : Run) (x : ℕ) → short ≡ false
    → (l : List ℕ) → run_text r ++ rest_text short (alone x) l ≡ rest_text short r (x ∷ l)
unfolding rest_text spelled_all
rest_plain short r x s l = rw s (ap (λ t. run_text r ++ (t ++ spelled_all l)) (append-nil (spelled x)))

-- the text of a run: no cell, one cell, equal cells and ascending ones
pub text_none : (r : Run) → r.count ≡ 0 → [] ≡ run_text r
unfolding run_text
text_none r h = rw (eq-eqb r.count 0 h)

pub text_one : (r : Run) → r.count ≡ 1 → spelled r.first ≡ run_text r
unfolding run_text
text_one r h = rw h (sym (append-nil (spelled r.first)))

pub text_equal : (r : Run) → (r.count ≡ 0 → ⊥) → (r.count ≡ 1 → ⊥) → r.step ≡ 0
    → spelled r.first ++ (42 ∷ digits r.count) ≡ run_text r
unfolding run_text
text_equal r g h k = rw (ne_eqb r.count 0 g, ne_eqb r.count 1 h, eq-eqb r.step 0 k)

pub text_ascending : (r : Run) → (r.count ≡ 0 → ⊥) → (r.count ≡ 1 → ⊥) → (r.step ≡ 0 → ⊥)
    → spelled r.first ++ (43 ∷ digits r.count) ≡ run_text r
unfolding run_text
text_ascending r g h k = rw (ne_eqb r.count 0 g, ne_eqb r.count 1 h, ne_eqb r.step 0 k)

-- the run goes on
pub showing_goes : (short : Bool) (before : Shown) (run : Run) (x : ℕ) (out : List ℕ) (step : ℕ) → run ≡ longer before.run step
    → ((l : List ℕ) → rest_text short (longer before.run step) l ≡ rest_text short before.run (x ∷ l))
    → Showing short before out x (record { run = run; used = before.used }) out
showing_goes short before run x out step e same =
    record {
      text = λ l. ap (λ t. puts t (before.used, out)) (ap (λ r. rest_text short r l) e ∙ same l);
      longer = omega (arith, ap (λ (r : Run). r.count) e);
    }

-- a cell starts the next
pub showing_starts : (short : Bool) (before after : Shown) (x : ℕ) (out left : List ℕ) → after.run ≡ alone x
    → (after.used, left) ≡ puts (run_text before.run) (before.used, out)
    → ((l : List ℕ) → run_text before.run ++ rest_text short (alone x) l ≡ rest_text short before.run (x ∷ l))
    → Showing short before out x after left
showing_starts short before after x out left e put same =
    record {
      text = λ l.
          ap (λ r. puts (rest_text short r l) (after.used, left)) e
          ∙ ap (puts (rest_text short (alone x) l)) put
          ∙ sym (puts-append (run_text before.run) (rest_text short (alone x) l) (before.used, out))
          ∙ ap (λ t. puts t (before.used, out)) (same l);
      longer = omega (arith, ap (λ (r : Run). r.count) e);
    }

-- the loop over the cells of a slice
pub shown_none : (short : Bool) (l : List ℕ) (run : Run) (s : ℕ × List ℕ) → run ≡ none
    → puts (rest_text short run l) s ≡ puts (cells_text short l) s
shown_none short l run s e = ap (λ t. puts t s) (ap (λ r. rest_text short r l) e ∙ rest-none short l)

pub shown_turn : (l : List ℕ) (i x : ℕ) (short : Bool) (before after : Shown) (out left : List ℕ) {all : ℕ × List ℕ} → i < length l
    → x ≡ get_or l i 0 → Showing short before out x after left
    → puts (rest_text short before.run (drop i l)) (before.used, out) ≡ all
    → puts (rest_text short after.run (drop (i + 1) l)) (after.used, left) ≡ all
shown_turn l i x short before after out left h e turn inv =
    rw add-one
    (turn.text (drop (suc i) l)
    ∙ ap (λ t. puts (rest_text short before.run t) (before.used, out)) (ap (◌∷ drop (suc i) l) e ∙ sym (drop-cons l i 0 h))
    ∙ inv)

pub shown_end : (l : List ℕ) (i : ℕ) (short : Bool) (run : Run) (s t : ℕ × List ℕ) {all : ℕ × List ℕ} → length l ≤ i
    → t ≡ puts (run_text run) s → puts (rest_text short run (drop i l)) s ≡ all → t ≡ all
shown_end l i short run s t h put inv =
    put
    ∙ ap (λ w. puts w s) (rest_end short run ∙ ap (rest_text short run) (sym (drop_of_length-le l h)))
    ∙ inv
