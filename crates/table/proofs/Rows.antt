-- The rows of a table: a step is a row, and a row is a step; the rows by number.
use Rattle.std.specs.Prelude.{◌≡◌, ℕ, ◌<◌, List, length, get_or}
use mathlib.Core.Path.{ap}
use native.Mathlib.Omega.{arith}
use Rattle.columns.specs.Columns.{key_of}
use Rattle.columns.specs.Rows.{rows_of, row_in}
use Rattle.columns.specs.Sets.{Row, row_lt, Ascending}
use Rattle.columns.proofs.Risings.{listed_in, listed_out, ascending_of}
use Rattle.columns.proofs.RowSets as C
use Rattle.table.specs.Lts.{Lts, rows, Step, Valid}

-- ---- steps and rows
-- the number of a step's row
pub record RowOf (t : Lts) (s a u : ℕ) : Type 0 where
  pub row : ℕ
  pub below : row < t.m
  pub source : s ≡ get_or t.source row 0
  pub label : a ≡ get_or t.label row 0
  pub target : u ≡ get_or t.target row 0

module _ (t : Lts) where
  pub row_step : (i : ℕ) → i < t.m → Step t (get_or t.source i 0) (get_or t.label i 0) (get_or t.target i 0)
  unfolding rows_of
  row_step i h = listed_in {A = Row} t.m (λ i. (get_or t.source i 0, (get_or t.label i 0, get_or t.target i 0))) i h

  pub step_row : (s a u : ℕ) → Step t s a u → RowOf t s a u
  unfolding rows_of
  step_row s a u k =
      let p = listed_out {A = Row} t.m (λ i. (get_or t.source i 0, (get_or t.label i 0, get_or t.target i 0))) (s, (a, u)) k in
      record {
        row = p.at;
        below = p.below;
        source = ap (λ (r : Row). r.0) p.same;
        label = ap (λ (r : Row). r.1.0) p.same;
        target = ap (λ (r : Row). r.1.1) p.same;
      }

  -- a step of a checked table stays within its states and labels
  pub step_fields : Valid t → (s a u : ℕ) → Step t s a u → (s < t.n) × ((a < t.labels) × (u < t.n))
  step_fields v s a u k =
      let p = step_row s a u k in
      let f = v.fields p.row p.below in
      (omega (arith, p.source, f.source), (omega (arith, p.label, f.label), omega (arith, p.target, f.target)))

-- ---- the rows are a set: ascending, none twice
pub rows_ascending : (t : Lts) → Valid t → Ascending row_lt (rows t)
unfolding rows_of row_in
rows_ascending t v =
    ascending_of row_lt t.m (λ i. (get_or t.source i 0, (get_or t.label i 0, get_or t.target i 0))) v.ascending

-- ---- what a row is sorted by is the row
pub key_row : (a b c : List ℕ) (i : ℕ) → i < length a → i < length b → i < length c → key_of a b c i ≡ row_in a b c i
unfolding row_in
key_row a b c i ha hb hc = C.key_row a b c i ha hb hc
