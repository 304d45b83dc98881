-- The rows between blocks of those rows that pass a test: where each comes from, and that they are a set.
use mathlib.Core.Path.{◌≡◌, sym, ap, subst}
use mathlib.Core.Bool.{Bool, true}
use mathlib.Core.List.{List}
use Prim.Native.Nat.{ℕ, ◌≤◌}
use lib.ListN.{length}
use Rattle.bisimulation.specs.Quotient.{between}
use Rattle.columns.specs.Sets.{Row, row_lt, collect, Ascending, StepIn}
use Rattle.columns.proofs.Orders.{row_order}
use Rattle.columns.proofs.Sets.{collect_in, collect_out, collect_ascending}
use Rattle.columns.proofs.Unions.{collect_few}

-- a row of the source that passes, from a state of block b to one of block c
pub record From (p : Row → Bool) (block : ℕ → ℕ) (rows : List Row) (b a c : ℕ) : Type 0 where
  pub source : ℕ
  pub target : ℕ
  pub step : StepIn rows source a target
  pub passes : p (source, (a, target)) ≡ true
  pub from : block source ≡ b
  pub to : block target ≡ c

-- these rows
abbrev pub kept : (Row → Bool) → (ℕ → ℕ) → List Row → List Row
kept p block rows = collect row_lt p (between block) rows

module _ (p : Row → Bool) (block : ℕ → ℕ) (rows : List Row) where
  pub kept_in : (s a u : ℕ) → StepIn rows s a u → p (s, (a, u)) ≡ true → StepIn (kept p block rows) (block s) a (block u)
  unfolding between
  kept_in s a u k e = collect_in row_lt row_order p (between block) rows (s, (a, u)) k e

  pub kept_out : (b a c : ℕ) → StepIn (kept p block rows) b a c → From p block rows b a c
  unfolding between
  kept_out b a c k =
      let f = collect_out row_lt row_order p (between block) rows (b, (a, c)) k in
      let l : f.0.1.0 ≡ a = ap (λ (r : Row). r.1.0) (sym f.3) in
      record {
        source = f.0.0;
        target = f.0.1.1;
        step = subst (λ (x : ℕ). StepIn rows f.0.0 x f.0.1.1) l f.1;
        passes = subst (λ (x : ℕ). p (f.0.0, (x, f.0.1.1)) ≡ true) l f.2;
        from = ap (λ (r : Row). r.0) (sym f.3);
        to = ap (λ (r : Row). r.1.1) (sym f.3);
      }

  pub kept_ascending : Ascending row_lt (kept p block rows)
  kept_ascending = collect_ascending row_lt row_order p (between block) rows

  pub kept_few : length (kept p block rows) ≤ length rows
  kept_few = collect_few row_lt p (between block) rows
