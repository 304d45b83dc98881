-- A turn of the code, on columns.
use Rattle.std.specs.Prelude.{◌≡◌, ℕ, ◌+◌, ◌-◌, ◌<◌, ◌≤◌, Bool, List, ◌∷◌, length, get_or, set}
use mathlib.Core.Path.{refl, sym, ap, ◌∙◌, subst}
use native.Mathlib.Omega.{arith}
use Rattle.columns.specs.Sets.{Mem}
use Rattle.table.specs.Lts.{Lts, Valid}
use Rattle.table_order.specs.Order.{next}
use Rattle.table_order.specs.Machine.{stack_of, Cycle, Machine}
use Rattle.table_order.specs.Turn.{AllPushed, Standing, Onward}
use Rattle.table_order.proofs.Rows.{stack_length, stack_top}
use Rattle.table_order.proofs.Successors.{inside, irreflexive}
use Rattle.table_order.proofs.Turns.{
  top_small,
  drop_turn,
  drop_less,
  finish_small,
  finish_turn,
  finish_less,
  enter_room,
  enter_cycle,
  enter_turn,
  enter_less,
}

-- the stack of length top, with x on top
stack_is : (stack : List ℕ) (top x : ℕ) → 0 < top → x ≡ get_or stack (top - 1) 0 → stack_of top stack ≡ x ∷ stack_of (top - 1) stack
stack_is stack top x h e = stack_top top (top - 1) stack (omega arith) ∙ ap (λ (y : ℕ). y ∷ stack_of (top - 1) stack) (sym e)

module _ (next : ℕ → List ℕ) (n m : ℕ) (marks stack : List ℕ) (top count : ℕ) (st : Standing next n m marks (stack_of top stack) count) where
  pub top_fits : top ≤ m + 1
  top_fits = omega (arith, stack_length top stack, st.machine.room)

  module _ (x k : ℕ) (h : 0 < top) (ex : x ≡ get_or stack (top - 1) 0) (ek : k ≡ get_or marks x 0) where
    standing : Machine next n m st.bound st.goal marks (x ∷ stack_of (top - 1) stack) count
    standing = subst (λ (y : List ℕ). Machine next n m st.bound st.goal marks y count) (stack_is stack top x h ex) st.machine

    pub finish_fits : k ≡ 1 → count < n
    finish_fits e = finish_small next n m st.bound st.goal standing (sym ek ∙ e)

  pub state_fits : (x : ℕ) → 0 < top → x ≡ get_or stack (top - 1) 0 → x < n
  state_fits x h ex = top_small next n m st.bound st.goal (standing x (get_or marks x 0) h ex refl)

module _ (t : Lts) (v : Valid t) (hidden : Bool) (marks stack : List ℕ) (top count x k : ℕ) (h : 0 < top) (ex : x ≡ get_or stack (top - 1) 0)
    (ek : k ≡ get_or marks x 0) (b : t.n ≤ length marks) where
  abbrev N : ℕ → List ℕ
  N = next t hidden

  pub enter_fits : Standing (next t hidden) t.n t.m marks (stack_of top stack) count → k ≡ 0 →
      top + length (next t hidden x) ≤ t.m + 1
  enter_fits st e =
      let i = standing N t.n t.m marks stack top count st x k h ex ek in
      omega (
        arith,
        stack_length (top - 1) stack,
        enter_room N t.n t.m st.bound st.goal (inside t hidden v) (irreflexive t hidden) i (sym ek ∙ e)
            (omega (arith, b, top_small N t.n t.m st.bound st.goal i)),
      )

  module _ (bound : ℕ) (goal : List ℕ) (mach : Machine (next t hidden) t.n t.m bound goal marks (stack_of top stack) count) where
    S : stack_of top stack ≡ x ∷ stack_of (top - 1) stack
    S = stack_is stack top x h ex

    i : Machine N t.n t.m bound goal marks (x ∷ stack_of (top - 1) stack) count
    i = subst (λ (y : List ℕ). Machine N t.n t.m bound goal marks y count) S mach

    in_marks : x < length marks
    in_marks = omega (arith, b, top_small N t.n t.m bound goal i)

    pub turned_finish : k ≡ 1 → Onward (next t hidden) t.n t.m bound goal marks (stack_of top stack) (set marks x (count + 2))
        (stack_of (top - 1) stack) (count + 1)
    turned_finish e = rw S record {
      machine = finish_turn N t.n t.m bound goal i (sym ek ∙ e) in_marks;
      less = finish_less N t.n t.m bound goal marks (stack_of (top - 1) stack) x count in_marks (sym ek ∙ e);
    }

    pub turned_drop : (k ≡ 0 → ⊥) → (k ≡ 1 → ⊥) → Onward (next t hidden) t.n t.m bound goal marks (stack_of top stack) marks
        (stack_of (top - 1) stack) count
    turned_drop f g = rw S record {
      machine = drop_turn N t.n t.m bound goal i (λ q. f (ek ∙ q)) (λ q. g (ek ∙ q));
      less = drop_less N t.n t.m bound goal marks (stack_of (top - 1) stack) x;
    }

    -- a successor is on the way
    pub turned_cycle : k ≡ 0 → (u : ℕ) × Mem u (next t hidden x) × (get_or (set marks x 1) u 0 ≡ 1) → Cycle (next t hidden)
    turned_cycle e p = enter_cycle N t.n t.m bound goal (inside t hidden v) (irreflexive t hidden) i (sym ek ∙ e) p.0 p.1 p.2

    -- the new successors are pushed
    pub turned_enter : k ≡ 0 → (after : List ℕ) (high : ℕ) → AllPushed (next t hidden x) (set marks x 1) stack after top high →
        Onward (next t hidden) t.n t.m bound goal marks (stack_of top stack) (set marks x 1) (stack_of high after) count
    turned_enter e after high p = rw (p.pushed, S) record {
      machine = enter_turn N t.n t.m bound goal (inside t hidden v) (irreflexive t hidden) i (sym ek ∙ e) in_marks p.clean;
      less =
          enter_less N t.n t.m bound goal (inside t hidden v) (irreflexive t hidden) marks (stack_of (top - 1) stack) x
          (top_small N t.n t.m bound goal i) in_marks (sym ek ∙ e);
    }
