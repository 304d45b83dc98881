-- The sorted signature of a state: its own steps that are visible or lead to another block, and the given lists of the states to which
-- it has a hidden step within the block; nothing else.
use Rattle.std.specs.Prelude.{◌≡◌, ℕ, Bool, true, false, cond, ◌&&◌, eqb, ◌⊎◌, ◌↔◌, List, [], ◌∷◌, get_or}
use borrow.Author.Tests.{eqb-true, eq-eqb}
use mathlib.Core.Path.{refl, sym, subst}
use mathlib.Core.Logic.{inl, inr}
use mathlib.Core.List.Memᴰ
use Rattle.columns.specs.Sets.{Mem, Pair, pair_lt, Ascending}
use Rattle.columns.proofs.Bools.{and_left, and_right, and_both, fails, contra}
use Rattle.columns.proofs.FlatMaps.{flat_in, flat_out}
use Rattle.columns.proofs.Members.{members_in, members_out}
use Rattle.table.specs.Hidden.{hidden_in}
use Rattle.signatures.specs.Strong.{own_rows, row_pair}
use Rattle.signatures.proofs.Sigs.{sig_in, sig_out, sig_ascending}
use Rattle.table.specs.Lts.{Lts, Step}
use Rattle.table.proofs.Rows.{row_step, step_row}
use Rattle.signatures_sorted.specs.Sorted.{sorted_at, sorted_pushed, sorted_signature}

-- a step of s, visible or to another block, gives (label, block of target)
pub record OwnOf (t : Lts) (home : List ℕ) (s : ℕ) (p : Pair) : Type 0 where
  pub label : ℕ
  pub target : ℕ
  pub step : Step t s label target
  pub own : label ≡ 0 → get_or home target 0 ≡ get_or home s 0 → ⊥
  pub pair : p ≡ (label, get_or home target 0)

-- a hidden step of s within its block gives the target's list
pub record TakenOf (t : Lts) (home : List ℕ) (given : ℕ → List Pair) (s : ℕ) (p : Pair) : Type 0 where
  pub target : ℕ
  pub step : Step t s 0 target
  pub stays : get_or home target 0 ≡ get_or home s 0
  pub listed : Mem p (given target)

module _ (t : Lts) (home : List ℕ) (given : ℕ → List Pair) (s : ℕ) where
  -- a step under label a to u is hidden and stays in the block
  inert : ℕ → ℕ → Bool
  inert a u = eqb a 0 && eqb (get_or home u 0) (get_or home s 0)

  -- what a step gives
  part : ℕ → ℕ → List Pair
  part a u = cond (inert a u) (given u) ((a, get_or home u 0) ∷ [])

  by : (i : ℕ) → sorted_at t home given (get_or home s 0) i ≡ part (get_or t.label i 0) (get_or t.target i 0)
  unfolding sorted_at hidden_in row_pair part inert
  by i = refl

  give : (a u : ℕ) → Step t s a u → (p : Pair) → Mem p (part a u) → Mem p (sorted_signature t home given s)
  unfolding sorted_signature sorted_pushed own_rows
  give a u k p m =
      let r = step_row t s a u k in
      let at : Mem p (part (get_or t.label r.row 0) (get_or t.target r.row 0))
      = subst (λ (x : ℕ). Mem p (part x (get_or t.target r.row 0))) r.label (subst (λ (y : ℕ). Mem p (part a y)) r.target m) in
      sig_in (sorted_pushed t home given s) p
      (flat_in (sorted_at t home given (get_or home s 0)) (own_rows t s) r.row p
      (members_in (λ i. eqb (get_or t.source i 0) s) t.m r.row r.below (eq-eqb _ _ (sym r.source)))
      (subst (λ (l : List Pair). Mem p l) (sym (by r.row)) at))

  pub sorted_own : (p : Pair) → OwnOf t home s p → Mem p (sorted_signature t home given s)
  unfolding part inert
  sorted_own p o =
      give o.label o.target o.step p
      (subst (λ (b : Bool). Mem p (cond b (given o.target) ((o.label, get_or home o.target 0) ∷ [])))
      (sym (fails (λ h.
      o.own (eqb-true _ _ (and_left (eqb o.label 0) (eqb (get_or home o.target 0) (get_or home s 0)) h))
      (eqb-true _ _ (and_right (eqb o.label 0) (eqb (get_or home o.target 0) (get_or home s 0)) h)))))
      (Memᴰ.head o.pair))

  pub sorted-taken : (p : Pair) → TakenOf t home given s p → Mem p (sorted_signature t home given s)
  unfolding part inert
  sorted-taken p o =
      give 0 o.target o.step p
      (subst (λ (b : Bool). Mem p (cond b (given o.target) ((0, get_or home o.target 0) ∷ [])))
      (sym (and_both (eq-eqb 0 0 refl) (eq-eqb _ _ o.stays))) o.listed)

  pub sorted_out : (p : Pair) → Mem p (sorted_signature t home given s) → OwnOf t home s p ⊎ TakenOf t home given s p
  unfolding sorted_signature sorted_pushed own_rows part inert
  sorted_out p m =
      let f = flat_out (sorted_at t home given (get_or home s 0)) (own_rows t s) p (sig_out (sorted_pushed t home given s) p m) in
      let r = members_out (λ i. eqb (get_or t.source i 0) s) t.m f.0 f.1 in
      let a = get_or t.label f.0 0 in
      let u = get_or t.target f.0 0 in
      let k : Step t s a u = subst (λ (x : ℕ). Step t x a u) (eqb-true _ _ r.1) (row_step t f.0 r.0) in
      go a u k (inert a u) refl (subst (λ (l : List Pair). Mem p l) (by f.0) f.2)
    where
      go : (a u : ℕ) → Step t s a u → (b : Bool) → inert a u ≡ b → Mem p (cond b (given u) ((a, get_or home u 0) ∷ []))
          → OwnOf t home s p ⊎ TakenOf t home given s p
      go a u k true e q =
          inr (record {
            target = u;
            step = subst (λ (x : ℕ). Step t s x u) (eqb-true a 0 (and_left (eqb a 0) (eqb (get_or home u 0) (get_or home s 0)) e)) k;
            stays = eqb-true (get_or home u 0) (get_or home s 0) (and_right (eqb a 0) (eqb (get_or home u 0) (get_or home s 0)) e);
            listed = q;
          })
      go a u k false e q =
          inl (record {
            label = a;
            target = u;
            step = k;
            own = λ x y. contra (and_both (eq-eqb _ _ x) (eq-eqb _ _ y)) e;
            pair = Memᴰ.eq_of_singleton q;
          })

  pub sorted_exactly : (p : Pair) → Mem p (sorted_signature t home given s) ↔ (OwnOf t home s p ⊎ TakenOf t home given s p)
  sorted_exactly p = (sorted_out p, back)
    where
      back : OwnOf t home s p ⊎ TakenOf t home given s p → Mem p (sorted_signature t home given s)
      back (inl o) = sorted_own p o
      back (inr o) = sorted-taken p o

  pub sorted_ascending : Ascending pair_lt (sorted_signature t home given s)
  unfolding sorted_signature
  sorted_ascending = sig_ascending (sorted_pushed t home given s)
