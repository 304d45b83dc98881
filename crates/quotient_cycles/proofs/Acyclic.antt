-- The quotient by components is a valid table, and has no hidden cycle longer than a self-loop: a hidden walk in it is one in the table.
use Rattle.std.specs.Prelude.{◌≡◌, ℕ, Bool, true}
use mathlib.Core.Path.{refl, sym, subst, ◌∙◌}
use borrow.Author.Tests.{eqb-true}
use Rattle.quotient.specs.Naive.{stays, naive_rows}
use Rattle.quotient.proofs.Theorems.{naive_out, naive_valid}
use Rattle.quotient_components.specs.Components.{components, component}
use Rattle.quotient_components.proofs.Components.{component_exactly, component-below, components_few}
use Rattle.table.specs.Lts.{Lts, rows, Step, Valid}
use Rattle.table.specs.Reach.{stop, along, takes, edge, Way}
use Rattle.table.proofs.Tables.{table_of_out}
use Rattle.table.proofs.Walks.{joined, edge_step}
use Rattle.table_order.specs.Promise.{LongCycle}
use Rattle.quotient_cycles.specs.Reordered.{merged}
use Rattle.bisimulation.proofs.Kept.{From}

-- a hidden edge is a step under label 0
pub hidden_step : (t : Lts) (s u : ℕ) → edge t true s u ≡ true → Step t s 0 u
unfolding takes
hidden_step t s u h =
    let p = (edge_step t true s u).0 h in
    subst (λ (a : ℕ). Step t s a u) (eqb-true p.0 0 p.1) p.2

pub step_hidden : (t : Lts) (s u : ℕ) → Step t s 0 u → edge t true s u ≡ true
unfolding takes
step_hidden t s u k = (edge_step t true s u).1 (0, refl, k)

module _ (t : Lts) (v : Valid t) (eliminate : Bool) where
  pub merged_valid : Valid (merged t eliminate)
  unfolding merged
  merged_valid = naive_valid eliminate eliminate t v (components t) (components_few t v) (component t) (component-below t v)

  -- a row between components comes from a row between their states
  pub merged_out :
      (b a c : ℕ) → Step (merged t eliminate) b a c → From (stays eliminate eliminate (component t)) (component t) (rows t) b a c
  unfolding merged
  merged_out b a c k =
      naive_out eliminate eliminate (component t) (rows t) b a c
      (table_of_out (components t) t.labels (component t t.initial) (naive_rows eliminate eliminate (component t) (rows t)) b a c k)

  first_row_lem : (b c : ℕ) → edge (merged t eliminate) true b c ≡ true
      → From (stays eliminate eliminate (component t)) (component t) (rows t) b 0 c
  first_row_lem b c h = merged_out b 0 c (hidden_step (merged t eliminate) b c h)

  -- a hidden walk between components is one between any two of their states
  lifted : {b c : ℕ} → Way (merged t eliminate) true b c
      → (s u : ℕ) → component t s ≡ b → component t u ≡ c → Way t true s u
  lifted stop s u p r = ((component_exactly t v s u).0 (p ∙ sym r)).0
  lifted (along {s = b} {u = d} h w) s u p r =
      let f = first_row_lem b d h in
      joined (edge t true) ((component_exactly t v s f.source).0 (p ∙ sym f.from)).0
      (along (step_hidden t f.source f.target f.step) (lifted w f.target u f.to r))

  begins : {b c : ℕ} → (b ≡ c → ⊥) → Way (merged t eliminate) true b c → (s : ℕ) × (component t s ≡ b)
  begins n stop = absurd (n refl)
  begins n (along {s = b} {u = d} h w) = let f = first_row_lem b d h in (f.source, f.from)

  pub acyclic : LongCycle (merged t eliminate) true → ⊥
  acyclic c =
      let s = begins c.other c.there in
      let u = begins (λ e. c.other (sym e)) c.back in
      let same = (component_exactly t v s.0 u.0).1 (
        lifted c.there s.0 u.0 s.1 u.1,
        lifted c.back u.0 s.0 u.1 s.1,
      ) in
      c.other (sym s.1 ∙ same ∙ u.1)
