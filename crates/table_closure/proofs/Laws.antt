-- The law of the closure: it is sound, nothing changes elsewhere, old marks stay, and the marks of block b are the least set that holds the
-- old ones and is closed under incoming hidden steps within the block.
use Rattle.std.specs.Prelude.{◌≡◌, ℕ, ◌<◌, true, ◌↔◌, List, get_or}
use native.Mathlib.Omega.{arith}
use borrow.Author.Tests.{eq-eqb}
use mathlib.Core.Path.{refl, ap, sym, subst, ◌∙◌}
use Rattle.table_closure.specs.Promise.{Marked, InnerStep, Holding, Closure, Leading, marked, along}
use Rattle.table_closure.specs.Closure.{silentb, close}
use Rattle.columns.proofs.Bools.{and_both}
use Rattle.partition.specs.Partition.{Partition, Sound, home_of}
use Rattle.table.specs.Lts.{Lts, Valid, Step}
use Rattle.table.proofs.Rows.{row_step, step_row}
use Rattle.table_closure.proofs.Closed.{Closed, close_closed}
use Rattle.table_closure.proofs.Least.{read_inside}
use Rattle.table_closure.proofs.Marking.{others_stay, marks_stay}
use Rattle.table_closure.proofs.Steps.{silent_label, silent_home, close_grown}

-- ---- rows and steps
module _ (t : Lts) (p : Partition) (b : ℕ) where
  row_inner : (i : ℕ) → i < t.m → silentb t p.element_to_block b i ≡ true → home_of p (get_or t.target i 0) ≡ b
      → InnerStep t p b (get_or t.source i 0) (get_or t.target i 0)
  row_inner i h l e =
      record {
        step =
            subst (λ (a : ℕ). Step t (get_or t.source i 0) a (get_or t.target i 0)) (silent_label t p.element_to_block b i l)
            (row_step t i h);
        from = silent_home t p.element_to_block b i l;
        to = e;
      }

  inner_silent : (s u i : ℕ) → s ≡ get_or t.source i 0 → 0 ≡ get_or t.label i 0 → home_of p s ≡ b →
      silentb t p.element_to_block b i ≡ true
  unfolding silentb
  inner_silent s u i es ea e = and_both (eq-eqb _ _ (sym ea)) (eq-eqb _ _ (ap (home_of p) (sym es) ∙ e))

-- ---- the closure
module _ (t : Lts) (v : Valid t) (p : Partition) (g : Sound p) (same : p.n ≡ t.n) (b : ℕ) where
  pub close_sound : Sound (close t p b)
  close_sound = (close_grown t v b p same g).sound

  pub close_law : Closure t p b (close t p b)
  unfolding Closed
  close_law =
      let q = close t p b in
      let r = close_grown t v b p same g in
      record {
        sound = r.sound;
        elsewhere = record {
          element_to_block = r.element_to_block;
          begin = r.begin;
          end = r.end;
          n = r.n;
          count = r.count;
          splits = r.splits;
          places = λ s far. r.places s (λ w e. far e);
          beyond = λ s w. r.places s (λ x e. omega arith);
          order = r.outside;
          marks = λ s w far. others_stay b p q r s far;
        };
        stays = marks_stay b p q r g;
        closed = λ s u k m.
            let w = step_row t s 0 u k.step in
            let e : home_of q s ≡ b = ap (λ (l : List ℕ). get_or l s 0) r.element_to_block ∙ k.from in
            let f : home_of q u ≡ b = ap (λ (l : List ℕ). get_or l u 0) r.element_to_block ∙ k.to in
            subst (Marked q) (sym w.source)
            (close_closed t v b p same g w.row w.below (inner_silent t q b s u w.row w.source w.label e)
            (ap (home_of q) (sym w.target) ∙ f) (subst (Marked q) w.target m));
      }

  pub close_least :
      b < p.count → (M : ℕ → Type 0) → Holding t p b M → (s : ℕ) → s < p.n → home_of p s ≡ b → Marked (close t p b) s → M s
  unfolding close
  close_least w M h s ws e m =
      read_inside t v b p.element_to_block M (λ i x l z k. h.steps _ _ (row_inner t p b i x l z) k) (get_or p.end b 0) p
      (record { same = same; homes = refl; sound = g }) w (omega arith) (λ x wx ex mx. h.marks x (omega (arith, same)) ex mx) s
      (omega (arith, same)) e m

  -- so a state of block b is marked exactly if hidden steps within the block lead from it to an old mark
  pub close_exactly : b < p.count → (s : ℕ) → s < p.n → home_of p s ≡ b → Marked (close t p b) s ↔ Leading t p b s
  close_exactly w s ws e = (
    close_least w (Leading t p b) (record { marks = λ x wx ex m. marked wx ex m; steps = λ x u k l. along k l }) s ws e,
    back,
  )
    where
      back : {x : ℕ} → Leading t p b x → Marked (close t p b) x
      back (marked wx ex m) = close_law.stays _ wx m
      back (along k l) = close_law.closed _ _ k (back l)
