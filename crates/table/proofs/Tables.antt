-- Rows as a table, in columns of their own or over the front of lent ones: the table has these rows, and is valid where they ascend
-- within its bounds. And what an answer with a header says determines it.
use Rattle.std.specs.Prelude.{◌≡◌, ℕ, ◌<◌, ◌≤◌, List, length, get_or}
use mathlib.Core.Path.{sym, subst, ◌∙◌}
use native.Mathlib.Omega.{arith}
use lib.ListN.{length-append, length-map}
use Rattle.columns.proofs.ThreeColumns.{rows_columns}
use Rattle.columns.specs.Columns.{over}
use Rattle.columns.specs.Limits.{max_labels, max_rows, max_states}
use Rattle.columns.specs.Rows.{first_of, second_of, third_of, rows_of, row_in}
use Rattle.columns.specs.Sets.{Row, row_lt, Ascending, StepIn}
use Rattle.columns.proofs.Lists.{length-listed, listed_cong, over_front}
use Rattle.columns.proofs.Risings.{of_ascending}
use Rattle.columns.specs.Answers.{Answer}
use Rattle.columns.proofs.Saying.{same_said}
use Rattle.table.specs.declared.Table.{Table}
use Rattle.table.specs.Lts.{Lts, rows, Step, RowsLong, Valid}
use Rattle.table.specs.Tables.{table_by, table_of, header_values, said_table}
use Rattle.table.proofs.Rows.{row_step}

pub rows-length : (t : Lts) → length (rows t) ≡ t.m
unfolding rows_of
rows-length t = length-listed t.m _

-- ---- valid tables
-- a header within document 01's limits
pub record InLimits (n labels m start : ℕ) : Type 0 where
  pub some_states : 1 ≤ n
  pub few_states : n ≤ max_states
  pub some_labels : 1 ≤ labels
  pub few_labels : labels ≤ max_labels
  pub few_rows : m ≤ max_rows
  pub initial : start < n

-- every row goes from and to a state, under a label
abbrev pub Inside : ℕ → ℕ → List Row → Type 0
Inside n labels l = (s a u : ℕ) → StepIn l s a u → (s < n) × ((a < labels) × (u < n))

module _ (t : Lts) (l : List Row) (e : rows t ≡ l) where
  pub valid_by : InLimits t.n t.labels t.m t.initial → RowsLong t → Inside t.n t.labels l → Ascending row_lt l → Valid t
  unfolding rows_of row_in
  valid_by w long inside up = record {
    some_states = w.some_states;
    few_states = w.few_states;
    some_labels = w.some_labels;
    few_labels = w.few_labels;
    few_rows = w.few_rows;
    initial = w.initial;
    long = long;
    fields = λ i h.
        let f = subst (Inside t.n t.labels) (sym e) inside _ _ _ (row_step t i h) in
        record { source = f.0; label = f.1.0; target = f.1.1 };
    ascending = λ i j h w.
        of_ascending row_lt t.m (λ i. (get_or t.source i 0, (get_or t.label i 0, get_or t.target i 0)))
        (subst (Ascending row_lt) (sym e) up) i j h w;
  }

-- ---- rows in columns of their own
module _ (n labels initial : ℕ) (l : List Row) where
  pub table_of-rows : rows (table_of n labels initial l) ≡ l
  unfolding table_of
  table_of-rows = rows_columns l

  pub table_of_out : (s a u : ℕ) → Step (table_of n labels initial l) s a u → StepIn l s a u
  table_of_out s a u k = subst (λ (m : List Row). StepIn m s a u) table_of-rows k

  pub table_of_in : (s a u : ℕ) → StepIn l s a u → Step (table_of n labels initial l) s a u
  table_of_in s a u k = subst (λ (m : List Row). StepIn m s a u) (sym table_of-rows) k

  pub table_of_valid :
      InLimits n labels (length l) initial → Inside n labels l → Ascending row_lt l → Valid (table_of n labels initial l)
  unfolding table_of
  table_of_valid w inside up =
      valid_by (table_of n labels initial l) l table_of-rows w record {
        source = omega (arith, length-map l (λ (r : Row). r.0));
        label = omega (arith, length-map l (λ (r : Row). r.1.0));
        target = omega (arith, length-map l (λ (r : Row). r.1.1));
      }
      inside up

-- ---- rows over the front of three columns
abbrev pub laid_table : ℕ → ℕ → ℕ → List Row → List ℕ → List ℕ → List ℕ → Lts
laid_table n labels initial l x y z =
    table_by n labels (length l) initial (over (first_of l) x, (over (second_of l) y, over (third_of l) z))

module _ (n labels initial : ℕ) (l : List Row) (x y z : List ℕ) where
  pub laid-rows : rows (laid_table n labels initial l x y z) ≡ l
  unfolding rows_of
  laid-rows =
      listed_cong {A = Row} (length l) _ _
      (λ i h.
      rw (
        over_front (first_of l) x i (omega (arith, length-map l (λ (r : Row). r.0))),
        over_front (second_of l) y i (omega (arith, length-map l (λ (r : Row). r.1.0))),
        over_front (third_of l) z i (omega (arith, length-map l (λ (r : Row). r.1.1))),
      ))
      ∙ rows_columns l

  pub laid_out : (s a u : ℕ) → Step (laid_table n labels initial l x y z) s a u → StepIn l s a u
  laid_out s a u k = subst (λ (m : List Row). StepIn m s a u) laid-rows k

  pub laid_in : (s a u : ℕ) → StepIn l s a u → Step (laid_table n labels initial l x y z) s a u
  laid_in s a u k = subst (λ (m : List Row). StepIn m s a u) (sym laid-rows) k

  pub laid_valid :
      InLimits n labels (length l) initial → Inside n labels l → Ascending row_lt l → Valid (laid_table n labels initial l x y z)
  unfolding over
  laid_valid w inside up =
      valid_by (laid_table n labels initial l x y z) l laid-rows w record {
        source = simp length-append (omega (arith, length-map l (λ (r : Row). r.0)));
        label = simp length-append (omega (arith, length-map l (λ (r : Row). r.1.0)));
        target = simp length-append (omega (arith, length-map l (λ (r : Row). r.1.1)));
      }
      inside up

-- ---- an answer with a header
same_values : (a b : Table) → header_values a ≡ header_values b → a ≡ b
same_values a b e =
    let n : a.n ≡ b.n = cc in
    let l : a.labels ≡ b.labels = cc in
    let m : a.m ≡ b.m = cc in
    let z : a.initial ≡ b.initial = cc in
    λ i. record { n = n i; labels = l i; m = m i; initial = z i }

pub same_table : (a b : Answer Table) → said_table a ≡ said_table b → a ≡ b
same_table = same_said header_values same_values
