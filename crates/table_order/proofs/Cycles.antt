-- The search meets a cycle exactly if some state reaches itself through another one.
use Rattle.std.specs.Prelude.{◌≡◌, ℕ, ◌<◌, Bool, true, not, ◌&&◌, eqb, ◌⊎◌, ◌↔◌}
use mathlib.Core.Path.{refl, sym, ap, subst}
use mathlib.Core.Logic.{inl, inr}
use borrow.Author.Tests.{eq-eqb, ne_eqb, not-true}
use Rattle.columns.proofs.All.{same_or_not}
use Rattle.columns.specs.Counting.{some}
use Rattle.columns.proofs.Firsts.{some_in, some_out}
use Rattle.columns.proofs.Bools.{contra, and_left, and_right, and_both}
use Rattle.table.specs.Lts.{Lts, Valid}
use Rattle.table.specs.Reach.{Walk, stop, along, reaches, Way}
use Rattle.table.proofs.Walks.{joined, edge_in, reaches_walk}
use Rattle.table_order.specs.Order.{next, has_cycle}
use Rattle.table_order.specs.Machine.{arc, Cycle, cycle}
use Rattle.table_order.specs.Promise.{LongCycle}
use Rattle.table_order.proofs.Successors.{arc-edge, edge-arc}

module _ (t : Lts) (hidden : Bool) where
  -- a walk by accepted rows, without its self-loops
  walk_arcs : {s u : ℕ} → Way t hidden s u → Walk (arc (next t hidden)) s u
  walk_arcs stop = stop
  walk_arcs (along {s} {u} {v} e w) = go (same_or_not s u) (walk_arcs w)
    where
      go : (s ≡ u) ⊎ (s ≡ u → ⊥) → Walk (arc (next t hidden)) u v → Walk (arc (next t hidden)) s v
      go (inl q) w = subst (λ (x : ℕ). Walk (arc (next t hidden)) x v) (sym q) w
      go (inr f) w = along (edge-arc t hidden s u e f) w

  arcs_walk : {s u : ℕ} → Walk (arc (next t hidden)) s u → Way t hidden s u
  arcs_walk stop = stop
  arcs_walk (along {s} {u} e w) = along (arc-edge t hidden s u e).0 (arcs_walk w)

  -- a walk to another state begins with a step
  closed : {s u : ℕ} → (s ≡ u → ⊥) → Walk (arc (next t hidden)) s u → Walk (arc (next t hidden)) u s → Cycle (next t hidden)
  closed f stop w = absurd (f refl)
  closed f (along e v) w = cycle e (joined (arc (next t hidden)) v w)

  pub long_cycle : LongCycle t hidden → Cycle (next t hidden)
  long_cycle c = closed c.other (walk_arcs c.there) (walk_arcs c.back)

  pub cycle_long : Cycle (next t hidden) → LongCycle t hidden
  cycle_long (cycle {s = s} {t = u} e w) =
      let a = arc-edge t hidden s u e in
      record { from = s; through = u; other = a.1; there = along a.0 stop; back = arcs_walk w }

  module _ (v : Valid t) where
    abbrev through : ℕ → ℕ → Bool
    through s u = not (eqb s u) && (reaches t hidden s u && reaches t hidden u s)

    last_end : {x u : ℕ} → Way t hidden x u → x < t.n → u < t.n
    last_end stop h = h
    last_end (along {s = x} {u = y} e w) h = last_end w (edge_in t hidden v x y e)

    walk_end : {s u : ℕ} → (s ≡ u → ⊥) → Way t hidden s u → u < t.n
    walk_end f stop = absurd (f refl)
    walk_end f (along {s} {u = x} e w) = last_end w (edge_in t hidden v s x e)

    -- the test says whether there is such a cycle
    pub cyclic_long : (has_cycle t hidden ≡ true) ↔ LongCycle t hidden
    unfolding has_cycle
    cyclic_long = (
      λ h.
          let a = some_out t.n (λ s. some t.n (through s)) h in
          let b = some_out t.n (through a.at) a.passes in
          let k = and_left (not (eqb a.at b.at)) (reaches t hidden a.at b.at && reaches t hidden b.at a.at) b.passes in
          let r = and_right (not (eqb a.at b.at)) (reaches t hidden a.at b.at && reaches t hidden b.at a.at) b.passes
          in
          record {
            from = a.at;
            through = b.at;
            other = λ e. contra (eq-eqb a.at b.at e) (not-true (eqb a.at b.at) k);
            there = (reaches_walk t hidden v a.at b.at).0
                (and_left (reaches t hidden a.at b.at) (reaches t hidden b.at a.at) r);
            back = (reaches_walk t hidden v b.at a.at).0
                (and_right (reaches t hidden a.at b.at) (reaches t hidden b.at a.at) r);
          },
      λ c.
          some_in t.n (λ s. some t.n (through s)) c.from (walk_end (λ e. c.other (sym e)) c.back)
          (some_in t.n (through c.from) c.through (walk_end c.other c.there)
          (and_both (ap not (ne_eqb c.from c.through c.other))
          (and_both ((reaches_walk t hidden v c.from c.through).1 c.there)
          ((reaches_walk t hidden v c.through c.from).1 c.back)))),
    )
