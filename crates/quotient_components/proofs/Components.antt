-- Two states share a number exactly if they reach each other by hidden steps; the numbers are those below the number of components, and
-- follow the least members.
use Rattle.std.specs.Prelude.{◌≡◌, ℕ, ◌<◌, ◌≤◌, true, ◌↔◌}
use Rattle.columns.specs.Number.{least, leads, number}
use Rattle.columns.proofs.Bools.{and_left, and_right, and_both}
use Rattle.columns.proofs.Counting.{many-le, many_strict}
use Rattle.columns.proofs.Numbering.{Equivalence, least_leads, number_same, number_differ, number_bound, number_onto}
use Rattle.table.specs.Lts.{Lts, Valid}
use Rattle.table.specs.Reach.{stop, edge, reaches, Way}
use Rattle.table.proofs.Walks.{joined, reaches_walk}
use Rattle.quotient_components.specs.Components.{linked, components, component}

module _ (t : Lts) (v : Valid t) where
  through : (s u w : ℕ) → reaches t true s u ≡ true → reaches t true u w ≡ true → reaches t true s w ≡ true
  through s u w a b =
      (reaches_walk t true v s w).1 (joined (edge t true) ((reaches_walk t true v s u).0 a) ((reaches_walk t true v u w).0 b))

  pub linked_equivalence : Equivalence (linked t)
  unfolding linked
  linked_equivalence = record {
    reflexive = λ s. let r : reaches t true s s ≡ true = (reaches_walk t true v s s).1 stop in and_both r r;
    symmetric = λ s u e.
        and_both (and_right (reaches t true s u) (reaches t true u s) e) (and_left (reaches t true s u) (reaches t true u s) e);
    transitive = λ s u w e f.
        and_both
        (through s u w (and_left (reaches t true s u) (reaches t true u s) e) (and_left (reaches t true u w) (reaches t true w u) f))
        (through w u s (and_right (reaches t true u w) (reaches t true w u) f) (and_right (reaches t true s u) (reaches t true u s) e));
  }

  -- two states share a number exactly if each reaches the other by hidden steps
  pub component_exactly : (s u : ℕ) → (component t s ≡ component t u) ↔ (Way t true s u × Way t true u s)
  unfolding component linked
  component_exactly s u = (
    λ e.
        let k = number_differ (linked t) linked_equivalence s u e in (
          (reaches_walk t true v s u).0 (and_left (reaches t true s u) (reaches t true u s) k),
          (reaches_walk t true v u s).0 (and_right (reaches t true s u) (reaches t true u s) k),
        ),
    λ w.
        number_same (linked t) linked_equivalence s u
        (and_both ((reaches_walk t true v s u).1 w.0) ((reaches_walk t true v u s).1 w.1)),
  )

  -- the numbers are those below the number of components
  pub component-below : (s : ℕ) → s < t.n → component t s < components t
  unfolding component components
  component-below s h = number_bound (linked t) linked_equivalence t.n s h

  pub component_onto : (b : ℕ) → b < components t → (s : ℕ) × (s < t.n) × (component t s ≡ b)
  unfolding component components
  component_onto b h = number_onto (linked t) linked_equivalence t.n b h

  pub components_few : components t ≤ t.n
  unfolding components
  components_few = many-le t.n (leads (linked t))

  -- of two components the one with the smaller least member has the smaller number
  pub component_order : (s u : ℕ) → least (linked t) s < least (linked t) u → component t s < component t u
  unfolding component number
  component_order s u h =
      many_strict (least (linked t) s) (least (linked t) u) (leads (linked t)) h (least_leads (linked t) linked_equivalence s)
