-- The rows of a table turned round: they make a table, and what a state reaches in it is what reaches the state in the other.
use Rattle.std.specs.Prelude.{◌≡◌, ℕ, ◌≤◌, Bool, true, List, length}
use mathlib.Core.Path.{refl, sym, ap, subst, ◌∙◌}
use native.Mathlib.Omega.{arith}
use Rattle.columns.specs.Columns.{listed, over}
use Rattle.columns.specs.Counting.{many, bit}
use Rattle.columns.specs.Rows.{first_of, second_of, third_of, row_set}
use Rattle.columns.specs.Sets.{Mem, Row, row_lt}
use Rattle.columns.proofs.Bools.{bool_ext}
use Rattle.columns.proofs.Counting.{many_cong}
use Rattle.columns.proofs.Lists.{listed_cong}
use Rattle.columns.proofs.Orders.{row_order}
use Rattle.columns.proofs.RowSets.{count_rows, few_picked}
use Rattle.columns.proofs.Sets.{collect_ascending, collect_in, collect_out, same_row}
use Rattle.table.specs.Lts.{Lts, rows, Step, Valid}
use Rattle.table.specs.Reach.{Walk, stop, along, edge, reaches}
use Rattle.table.specs.Turned.{RowsTurned}
use Rattle.table.proofs.Rows.{row_step, step_row, step_fields}
use Rattle.table.proofs.Tables.{laid_table, laid_out, laid_in, laid_valid}
use Rattle.table.proofs.Walks.{joined, edge_step, reaches_walk}

-- the first m rows, source and target exchanged, in any order
abbrev swapped : Lts → Lts
swapped t =
    record { n = t.n; labels = t.labels; m = t.m; initial = t.initial; source = t.target; label = t.label; target = t.source }

swapped_step : (t : Lts) (s a u : ℕ) → Step t s a u → Step (swapped t) u a s
swapped_step t s a u k =
    let r = step_row t s a u k in
    subst (λ (p : Row). Mem {A = Row} p (rows (swapped t))) (sym (same_row r.target r.label r.source))
    (row_step (swapped t) r.row r.below)

module _ (t : Lts) where
  -- and as a set
  abbrev pub turned_rows : List Row
  turned_rows = row_set t.m t.target t.label t.source

  set_in : (p : Row) → Mem p (rows (swapped t)) → Mem p turned_rows
  unfolding row_set
  set_in p k = collect_in row_lt row_order (λ r. true) (λ r. r) (rows (swapped t)) p k refl

  set_out : (p : Row) → Mem p turned_rows → Mem p (rows (swapped t))
  unfolding row_set
  set_out p k =
      let r = collect_out row_lt row_order (λ r. true) (λ r. r) (rows (swapped t)) p k in
      subst (λ (q : Row). Mem q (rows (swapped t))) (sym r.3) r.1

  module _ (v : Valid t) where
    pub few_turned : length turned_rows ≤ t.m
    few_turned =
        omega (
          arith,
          few_picked t.m t.target t.label t.source,
          count_rows t.m t.target t.label t.source v.long.target v.long.label v.long.source,
        )

    turned_law : (x y z : List ℕ) → RowsTurned t (laid_table t.n t.labels t.initial turned_rows x y z)
    unfolding row_set
    turned_law x y z = record {
      given = v;
      turned =
          laid_valid t.n t.labels t.initial turned_rows x y z record {
            some_states = v.some_states;
            few_states = v.few_states;
            some_labels = v.some_labels;
            few_labels = v.few_labels;
            few_rows = omega (arith, few_turned, v.few_rows);
            initial = v.initial;
          }
          (λ s a u k.
          let f = step_fields t v u a s (swapped_step (swapped t) s a u (set_out (s, (a, u)) k)) in
          (f.1.1, (f.1.0, f.0)))
          (collect_ascending row_lt row_order (λ r. true) (λ r. r) (rows (swapped t)));
      states = refl;
      steps = λ s a u. (
        λ k. swapped_step (swapped t) u a s (set_out (u, (a, s)) (laid_out t.n t.labels t.initial turned_rows x y z u a s k)),
        λ k. laid_in t.n t.labels t.initial turned_rows x y z u a s (set_in (u, (a, s)) (swapped_step t s a u k)),
      );
    }

    -- the same, of what is left in the columns
    pub turned_of :
        (r : ℕ) (x y z x' y' z' : List ℕ) → r ≡ length turned_rows → x' ≡ over (first_of turned_rows) x → y' ≡ over (second_of turned_rows) y
        → z' ≡ over (third_of turned_rows) z
        → RowsTurned t (record { n = t.n; labels = t.labels; m = r; initial = t.initial; source = x'; label = y'; target = z' })
    turned_of r x y z x' y' z' er ex ey ez = subst (λ (b : Lts). RowsTurned t b) (sym same) (turned_law x y z)
      where
        same :
            ◌≡◌ {A = Lts} (record { n = t.n; labels = t.labels; m = r; initial = t.initial; source = x'; label = y'; target = z' })
            (laid_table t.n t.labels t.initial turned_rows x y z)
        same = rw (er, ex, ey, ez)

-- ---- a walk turned round
walk_turned : (e f : ℕ → ℕ → Bool) → ((s u : ℕ) → e s u ≡ true → f u s ≡ true) → {s u : ℕ} → Walk e s u → Walk f u s
walk_turned e f h stop = stop
walk_turned e f h (along {s = s} {u = u} {v = v} k w) = joined f (walk_turned e f h w) (along (h s u k) stop)

module _ (t b : Lts) (r : RowsTurned t b) (hidden : Bool) where
  edge_turned : (u s : ℕ) → edge b hidden u s ≡ true → edge t hidden s u ≡ true
  edge_turned u s e = let p = (edge_step b hidden u s).0 e in (edge_step t hidden s u).1 (p.0, p.1, (r.steps s p.0 u).0 p.2)

  edge_back : (s u : ℕ) → edge t hidden s u ≡ true → edge b hidden u s ≡ true
  edge_back s u e = let p = (edge_step t hidden s u).0 e in (edge_step b hidden u s).1 (p.0, p.1, (r.steps s p.0 u).1 p.2)

  pub reaches_turned : (u s : ℕ) → reaches b hidden u s ≡ reaches t hidden s u
  reaches_turned u s =
      bool_ext _ _
      (λ k. (reaches_walk t hidden r.given s u).1
      (walk_turned (edge b hidden) (edge t hidden) edge_turned ((reaches_walk b hidden r.turned u s).0 k)))
      (λ k. (reaches_walk b hidden r.turned u s).1
      (walk_turned (edge t hidden) (edge b hidden) edge_back ((reaches_walk t hidden r.given s u).0 k)))

  -- so what `reach` says and marks from u along the turned rows is what reaches u
  pub marks_turned : (u : ℕ) → listed b.n (λ s. bit (reaches b hidden u s)) ≡ listed t.n (λ s. bit (reaches t hidden s u))
  marks_turned u =
      ap (λ (n : ℕ). listed n (λ s. bit (reaches b hidden u s))) r.states
      ∙ listed_cong t.n (λ s. bit (reaches b hidden u s)) (λ s. bit (reaches t hidden s u)) (λ s h. ap bit (reaches_turned u s))

  pub count_turned : (u : ℕ) → many b.n (reaches b hidden u) ≡ many t.n (λ s. reaches t hidden s u)
  count_turned u =
      ap (λ (n : ℕ). many n (reaches b hidden u)) r.states
      ∙ many_cong t.n (reaches b hidden u) (λ s. reaches t hidden s u) (λ s h. reaches_turned u s)
