-- Where no accepted row leads to another state: no row at all, only self-loops, or no hidden row where hidden rows are chosen.
-- Then there is no cycle, the finishing order is that of the numbers, and otherwise it is the opposite.
use Rattle.std.specs.Prelude.{◌≡◌, ℕ, zero, suc, ◌-◌, ◌<◌, Bool, true, false, List, [], ◌∷◌, length, get_or}
use mathlib.Core.Path.{refl, sym, ap, ◌∙◌}
use mathlib.Core.Logic.{⊎_elim}
use mathlib.Core.List.Memᴰ
use native.Mathlib.Omega.{arith}
use Rattle.columns.specs.Sets.{Mem}
use Rattle.columns.proofs.All.{top_or-below}
use Rattle.table.specs.Lts.{Lts, Step, Valid, rows}
use Rattle.table.specs.Reach.{stop, along, takes, Way}
use Rattle.table.proofs.Rows.{step_row}
use Rattle.table.proofs.Walks.{edge_step, takes_hidden}
use Rattle.table_order.specs.Order.{last_first, visit, sweep, behind, place_of, sort_place, next}
use Rattle.table_order.specs.Promise.{LongCycle}
use Rattle.columns.proofs.Sets.{no_members}
use Rattle.table_order.proofs.Lists.{not-is_in, behind_head, behind_tail}
use Rattle.table_order.proofs.Successors.{succs_row}
use Rattle.table_order.proofs.Topological.{opposite}

-- r - 1, .., 1, 0
unfoldable pub down : ℕ → List ℕ
down zero = []
down (suc r) = r ∷ down r

down_below : (r s : ℕ) → Mem s (down r) → s < r
unfolding down
down_below zero s m = absurd (Memᴰ.not-nil m)
down_below (suc r) s m = ⊎_elim (λ (e : s ≡ r). omega (arith, e)) (λ (k : Mem s (down r)). omega (arith, down_below r s k))
    (Memᴰ.cases_cons m)

length_down : (r : ℕ) → length (down r) ≡ r
unfolding down
length_down zero = refl
length_down (suc r) = ap suc (length_down r)

behind_down : (r s : ℕ) → s < r → behind s (down r) ≡ s
unfolding down
behind_down zero s h = absurd (omega arith)
behind_down (suc r) s h =
    ⊎_elim (λ (e : s ≡ r). rw e (behind_head r (down r) ∙ length_down r))
    (λ (l : s < r). behind_tail s r (down r) (λ e. omega (arith, e, l)) ∙ behind_down r s l) (top_or-below h)

-- a sweep without successors
sweep_down : (next : ℕ → List ℕ) → ((s : ℕ) → next s ≡ []) → (f r : ℕ) → 0 < f → sweep next f r ≡ down r
unfolding sweep down visit last_first
sweep_down next e f zero h = refl
sweep_down next e f (suc r) h = ap (visit next f r) (sweep_down next e f r h) ∙ new f h
  where
    new : (f : ℕ) → 0 < f → visit next f r (down r) ≡ r ∷ down r
    new zero h = absurd (omega arith)
    new (suc f) h = rw (not-is_in r (down r) (λ m. omega (arith, down_below r r m)), e r)

-- every accepted row is a self-loop
abbrev pub Still : Lts → Bool → Type 0
Still t hidden = (s a u : ℕ) → Step t s a u → takes hidden a ≡ true → s ≡ u

module _ (t : Lts) (hidden : Bool) (still : Still t hidden) where
  stays : {s u : ℕ} → Way t hidden s u → s ≡ u
  stays stop = refl
  stays (along {s} {u} e w) = let p = (edge_step t hidden s u).0 e in still s p.0 u p.2 p.1 ∙ stays w

  pub still_free : LongCycle t hidden → ⊥
  still_free c = c.other (stays c.there)

  none-next : (s : ℕ) → next t hidden s ≡ []
  none-next s = no_members (next t hidden s) (λ u m. let a = succs_row hidden (rows t) s u m in
      a.other (still s a.label u a.row a.taken))

  module _ (v : Valid t) where
    pub still_reversed : (s : ℕ) → s < t.n → sort_place t hidden true s ≡ s
    unfolding sort_place place_of
    still_reversed s h = ap (behind s) (sweep_down (next t hidden) none-next t.n t.n v.some_states) ∙ behind_down t.n s h

    pub still_forward : (s : ℕ) → s < t.n → sort_place t hidden false s ≡ t.n - suc s
    still_forward s h = omega (arith, h, still_reversed s h, opposite t v hidden still_free s h)

-- no row; and no hidden row where hidden rows are chosen
pub no_row : (t : Lts) (hidden : Bool) → t.m ≡ 0 → Still t hidden
no_row t hidden e s a u p k = let r = step_row t s a u p in absurd (omega (arith, r.below, e))

pub no_hidden : (t : Lts) → ((i : ℕ) → i < t.m → get_or t.label i 0 ≡ 0 → ⊥) → Still t true
no_hidden t f s a u p k = let r = step_row t s a u p in absurd (f r.row r.below (sym r.label ∙ (takes_hidden a).0 k))
