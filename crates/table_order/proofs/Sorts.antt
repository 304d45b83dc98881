-- The whole sort, on columns: where it starts, and what its marks say at the end.
use Rattle.std.specs.Prelude.{◌≡◌, ℕ, ◌+◌, ◌<◌, ◌≤◌, Bool, true, false, not, List, get_or}
use mathlib.Core.Path.{refl, sym, ap, ◌∙◌}
use Rattle.columns.specs.Columns.{over, written, zeros}
use Rattle.columns.proofs.Bools.{fails}
use Rattle.columns.proofs.Lists.{zeros_at, listed_cong}
use Rattle.table.specs.Lts.{Lts, Valid}
use Rattle.table_order.specs.Order.{next, sort_place, has_cycle}
use Rattle.table_order.specs.Call.{sorted}
use Rattle.table_order.specs.Machine.{Idle}
use Rattle.table_order.specs.Turn.{Swept, mark_place}
use Rattle.table_order.proofs.Turns.{idle_start, all_acyclic, mark_low, mark_high, place_reversed, place_forward}
use Rattle.table_order.proofs.Successors.{starts, total_rows}
use Rattle.table_order.proofs.Cycles.{long_cycle, cycle_long, cyclic_long}

module _ (t : Lts) (v : Valid t) (hidden : Bool) where
  pub start : (marks : List ℕ) (l : ℕ) → marks ≡ zeros l → Idle (next t hidden) t.n t.m 0 marks 0
  start marks l e =
      idle_start (next t hidden) t.n t.m marks (λ s b. ap (λ (a : List ℕ). get_or a s 0) e ∙ zeros_at l s)
      (total_rows marks t.n t hidden)

  module _ (marks : List ℕ) (free : Bool) (w : Swept (next t hidden) t.n t.m marks free) where
    pub in_range_lem : free ≡ true → (s : ℕ) → s < t.n → (2 ≤ get_or marks s 0) × (get_or marks s 0 ≤ t.n + 1)
    in_range_lem e s h =
        let i = w.idle e in (
          mark_low (next t hidden) t.n t.m (starts t hidden v) i.1 s h,
          mark_high (next t hidden) t.n t.m (starts t hidden v) i.1 s h,
        )

    is-cyclic : free ≡ false → has_cycle t hidden ≡ true
    is-cyclic e = (cyclic_long t hidden v).1 (cycle_long t hidden (w.cycle e))

    not-cyclic : free ≡ true → has_cycle t hidden ≡ false
    not-cyclic e = fails (λ q. all_acyclic (next t hidden) t.n t.m (starts t hidden v) (w.idle e).1
        (long_cycle t hidden ((cyclic_long t hidden v).0 q)))

    -- whether there is no cycle
    pub is_free : free ≡ not (has_cycle t hidden)
    is_free = go free refl
      where
        go : (b : Bool) → free ≡ b → b ≡ not (has_cycle t hidden)
        go true e = sym (ap not (not-cyclic e))
        go false e = sym (ap not (is-cyclic e))

    pub stays : (reversed : Bool) (places : List ℕ) → free ≡ false → places ≡ sorted t hidden reversed places
    unfolding sorted
    stays reversed places e = rw (is-cyclic e)

    mark_places : (reversed : Bool) → free ≡ true → (s : ℕ) → s < t.n →
        mark_place t.n reversed (get_or marks s 0) ≡ sort_place t hidden reversed s
    unfolding mark_place sort_place
    mark_places true e s h = place_reversed (next t hidden) t.n t.m (starts t hidden v) (w.idle e).1 s h
    mark_places false e s h = place_forward (next t hidden) t.n t.m (starts t hidden v) (w.idle e).1 s h

    pub placed :
        (reversed : Bool) (places after : List ℕ) → free ≡ true → after ≡ written t.n (λ s. mark_place t.n reversed (get_or marks s 0))
        places
        → after ≡ sorted t hidden reversed places
    unfolding sorted written
    placed reversed places after e q =
        rw (not-cyclic e) (q ∙ ap (λ (l : List ℕ). over l places)
        (listed_cong t.n (λ s. mark_place t.n reversed (get_or marks s 0)) (sort_place t hidden reversed) (mark_places reversed e)))
