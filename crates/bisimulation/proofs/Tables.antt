-- The rows between blocks of those rows of a table that pass a test make a valid table.
use mathlib.Core.Path.{◌≡◌, refl}
use mathlib.Core.Bool.{Bool, true}
use mathlib.Core.List.{List}
use Prim.Native.Nat.{ℕ, ◌≤◌, ◌<◌}
use native.Mathlib.Omega.{arith}
use lib.ListN.{length}
use Rattle.bisimulation.specs.Quotient.{quotient}
use Rattle.bisimulation.proofs.Kept.{kept, kept_out, kept_ascending, kept_few}
use Rattle.columns.specs.Sets.{Row}
use Rattle.table.specs.Lts.{Lts, rows, Valid}
use Rattle.table.specs.Tables.{table_of}
use Rattle.table.proofs.Rows.{step_fields}
use Rattle.table.proofs.Tables.{InLimits, Inside, rows-length, table_of_valid, laid_table, laid-rows, laid_valid}

-- q is a valid table with these rows: as many states as blocks, the labels of t, and the block of its initial state
pub record IsQuotient (t : Lts) (count : ℕ) (block : ℕ → ℕ) (kept : List Row) (q : Lts) : Type 0 where
  pub given : Valid t
  pub valid : Valid q
  pub states : q.n ≡ count
  pub labels : q.labels ≡ t.labels
  pub initial : q.initial ≡ block t.initial
  pub rows : rows q ≡ kept

-- ---- as a table
module _ (t : Lts) (v : Valid t) (count : ℕ) (few : count ≤ t.n) (block : ℕ → ℕ) (below : (s : ℕ) → s < t.n → block s < count)
    (p : Row → Bool) where
  in_limits : InLimits count t.labels (length (kept p block (rows t))) (block t.initial)
  in_limits =
      let start = below t.initial v.initial in
      record {
        some_states = omega (arith, start);
        few_states = omega (arith, v.few_states);
        some_labels = v.some_labels;
        few_labels = v.few_labels;
        few_rows = omega (arith, kept_few p block (rows t), rows-length t, v.few_rows);
        initial = start;
      }

  inside : Inside count t.labels (kept p block (rows t))
  inside b a c k =
      let f = kept_out p block (rows t) b a c k in
      let w = step_fields t v f.source a f.target f.step in
      (omega (arith, below f.source w.0, f.from), (w.1.0, omega (arith, below f.target w.1.1, f.to)))

  pub kept_valid : Valid (table_of count t.labels (block t.initial) (kept p block (rows t)))
  kept_valid = table_of_valid _ _ _ _ in_limits inside (kept_ascending p block (rows t))

  -- and as it lies over three columns
  pub kept_laid :
      (x y z : List ℕ)
      → IsQuotient t count block (kept p block (rows t)) (laid_table count t.labels (block t.initial) (kept p block (rows t)) x y z)
  kept_laid x y z = record {
    given = v;
    valid = laid_valid _ _ _ _ x y z in_limits inside (kept_ascending p block (rows t));
    states = refl;
    labels = refl;
    initial = refl;
    rows = laid-rows count t.labels (block t.initial) (kept p block (rows t)) x y z;
  }

-- so do all of them
pub quotient_valid :
    (t : Lts) → Valid t → (count : ℕ) → count ≤ t.n → (block : ℕ → ℕ) → ((s : ℕ) → s < t.n → block s < count)
    → Valid (table_of count t.labels (block t.initial) (quotient block (rows t)))
unfolding quotient
quotient_valid t v count few block below = kept_valid t v count few block below (λ r. true)
