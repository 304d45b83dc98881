-- The definition is right: 11 exactly if some state reaches itself through another one; otherwise the places are a permutation,
-- and the two ends of each accepted row to another state stand in order.
use Rattle.std.specs.Prelude.{◌≡◌, ℕ, suc, ◌+◌, ◌-◌, ◌<◌, ◌≤◌, Bool, true, false, cond, ◌&&◌, leb, ◌↔◌, List, [], ◌∷◌, length}
use mathlib.Core.Path.{refl, sym, ap, ◌∙◌}
use native.Mathlib.Omega.{arith}
use borrow.Author.Tests.{le-leb}
use Rattle.columns.specs.Answers.{Said, done, refused, none}
use Rattle.columns.specs.Columns.{written, zeros}
use Rattle.columns.specs.Sets.{Mem}
use Rattle.columns.proofs.Bools.{fails, and_both}
use Rattle.columns.proofs.Chains.{none-due}
use Rattle.columns.proofs.Rooms.{of_roomy}
use Rattle.columns.proofs.Saying.{apart}
use Rattle.columns.specs.Limits.{cyclic}
use Rattle.table.specs.Lts.{Lts, Valid}
use Rattle.table.specs.Checks.{works_long, table_tests}
use Rattle.table.proofs.Refusals.{of_checked}
use Rattle.table.proofs.Rows.{step_fields}
use Rattle.table_order.specs.Order.{sweep, behind, ahead, place_of, sort_place, next, has_cycle}
use Rattle.table_order.specs.Call.{sort_refusal, sorted, sort_topological}
use Rattle.table_order.specs.Machine.{Cycle, Ordered}
use Rattle.table_order.specs.Promise.{LongCycle, Permutation, Topological}
use Rattle.table_order.proofs.Lists.{places_add}
use Rattle.table_order.proofs.Ordered.{length_full, before, behind_inj, behind_onto, below}
use Rattle.table_order.proofs.Visits.{sweep_good}
use Rattle.table_order.proofs.Successors.{inside, step_next}
use Rattle.table_order.proofs.Cycles.{cycle_long, cyclic_long}

module _ (t : Lts) (v : Valid t) (hidden : Bool) where
  -- ---- without a cycle
  module _ (free : LongCycle t hidden → ⊥) where
    abbrev N : ℕ → List ℕ
    N = next t hidden

    fin : List ℕ
    fin = sweep N t.n t.n

    acyclic : Cycle N → ⊥
    acyclic c = free (cycle_long t hidden c)

    order : Ordered N t.n fin
    unfolding fin
    order = (sweep_good N t.n (inside t hidden v) acyclic t.n (omega arith)).order

    has : (s : ℕ) → s < t.n → Mem s fin
    unfolding fin
    has = (sweep_good N t.n (inside t hidden v) acyclic t.n (omega arith)).has

    total : (s : ℕ) → s < t.n → suc (behind s fin + ahead s fin) ≡ t.n
    total s h = places_add s fin (has s h) ∙ length_full N t.n order has

    at_reversed : (s : ℕ) → sort_place t hidden true s ≡ behind s fin
    unfolding sort_place place_of fin
    at_reversed s = refl

    at_forward : (s : ℕ) → sort_place t hidden false s ≡ ahead s fin
    unfolding sort_place place_of fin
    at_forward s = refl

    onto_behind : (k : ℕ) → k < t.n → (s : ℕ) × (s < t.n) × (behind s fin ≡ k)
    onto_behind k h =
        let p = behind_onto N t.n order k (omega (arith, h, length_full N t.n order has)) in
        (p.0, below N t.n order p.1, p.2)

    -- one order is the other's opposite
    pub opposite : (s : ℕ) → s < t.n → suc (sort_place t hidden true s + sort_place t hidden false s) ≡ t.n
    opposite s h = omega (arith, at_reversed s, at_forward s, total s h)

    -- the places are a permutation
    pub permutation : (reversed : Bool) → Permutation t.n (sort_place t hidden reversed)
    permutation true = record {
      below = λ s h. omega (arith, at_reversed s, total s h);
      one = λ s u h k e. behind_inj N t.n order (has s h) (has u k) (sym (at_reversed s) ∙ (e ∙ at_reversed u));
      onto = λ k h. let p = onto_behind k h in (p.0, p.1, at_reversed p.0 ∙ p.2);
    }
    permutation false = record {
      below = λ s h. omega (arith, at_forward s, total s h);
      one = λ s u h k e. behind_inj N t.n order (has s h) (has u k) (omega (arith, at_forward s, at_forward u, e, total s h, total u k));
      onto = λ k h.
          let p = onto_behind (t.n - suc k) (omega arith) in
          (p.0, p.1, omega (arith, h, at_forward p.0, total p.0 p.1, p.2));
    }

    -- reversed, the target of an accepted row to another state comes first; otherwise its source
    pub topological : (reversed : Bool) → Topological t hidden reversed (sort_place t hidden reversed)
    topological true = record {
      along = λ s a u p k f.
          let h = step_fields t v s a u p in
          omega (arith, at_reversed s, at_reversed u, before N t.n order (has s h.0) (step_next t hidden s a u p k f));
    }
    topological false = record {
      along = λ s a u p k f.
          let h = step_fields t v s a u p in
          omega (
            arith,
            at_forward s,
            at_forward u,
            total s h.0,
            total u h.1.1,
            before N t.n order (has s h.0) (step_next t hidden s a u p k f),
          );
    }

  -- ---- the whole call, once nothing is refused by the checks
  module _ (reversed : Bool) (places marks stack : List ℕ) (p : t.n ≤ length places) (a : (t.n + t.m) + 1 ≤ length marks)
      (b : (t.n + t.m) + 1 ≤ length stack) where
    checks : sort_refusal t (length places) (length marks) (length stack) ≡ none
    unfolding sort_refusal
    checks =
        let works = length marks ∷ length stack ∷ [] in
        let room = leb t.n (length places) && works_long t works in
        none-due (table_tests t room)
        (of_checked t room v
        (and_both (le-leb t.n (length places) p) (of_roomy (t.n + t.m + 1) works (a, (b, tt)))))

    call : sort_topological t hidden reversed places marks stack
        ≡ (
          cond (has_cycle t hidden) (refused cyclic 0) (done []),
          (sorted t hidden reversed places, (zeros (length marks), zeros (length stack))),
        )
    unfolding sort_topological
    call = rw checks

    -- 11 exactly if some state reaches itself through another one
    pub eleven : ((sort_topological t hidden reversed places marks stack).0 ≡ refused cyclic 0) ↔ LongCycle t hidden
    eleven = (
      λ e. go (has_cycle t hidden) refl (sym (ap (λ (x : Said × (List ℕ × (List ℕ × List ℕ))). x.0) call) ∙ e),
      λ c.
          ap (λ (x : Said × (List ℕ × (List ℕ × List ℕ))). x.0) call
          ∙ ap (λ (b : Bool). cond b (refused cyclic 0) (done [])) ((cyclic_long t hidden v).1 c),
    )
      where
        go : (c : Bool) → has_cycle t hidden ≡ c → cond c (refused cyclic 0) (done []) ≡ refused cyclic 0 → LongCycle t hidden
        go true e q = (cyclic_long t hidden v).0 e
        go false e q = absurd (apart [] cyclic 0 q)

    -- otherwise the places go over the first n cells
    pub sorts : (LongCycle t hidden → ⊥)
        → sort_topological t hidden reversed places marks stack
        ≡ (done [], (written t.n (sort_place t hidden reversed) places, (zeros (length marks), zeros (length stack))))
    unfolding sorted
    sorts free = call ∙ rw (fails (λ e. free ((cyclic_long t hidden v).0 e)))
