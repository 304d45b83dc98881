-- Which states are marked once states of a block are marked: those that were, and just the state that is marked.
use Rattle.std.specs.Prelude.{◌≡◌, ℕ, ◌-◌, ◌<◌, ◌≤◌, Bool, true, false, cond, ltb, ◌⊎◌, List, get_or}
use native.Mathlib.Omega.{arith}
use native.Mathlib.Nat.{eq-or-lt_of_le}
use borrow.Author.Tests.{ltb-false, le-ltb}
use mathlib.Core.Path.{refl, ap, sym, subst, ◌∙◌}
use mathlib.Core.Logic.{inl, inr, ⊎_elim}
use lib.Seq.{get_or-set_same}
use Rattle.table_closure.specs.Promise.{Marked}
use Rattle.columns.proofs.All.{same_or_not}
use Rattle.columns.proofs.Inverses.{offset_i}
use Rattle.columns.proofs.Swaps.{swapped_j}
use Rattle.partition.specs.Mark.{mark, moved}
use Rattle.partition.specs.Partition.{Partition, Sound, home_of}
use Rattle.partition.specs.Marked.{unmarkedb}
use Rattle.table_closure.proofs.Growing.{MarksGrown, mark_grown, moved_before, both}

-- a state of block b is marked exactly if it stands at or after the split
module _ (p : Partition) (b s : ℕ) (e : home_of p s ≡ b) where
  pub marked_from_lem : Marked p s → get_or p.marked_split b 0 ≤ get_or p.element_offset s 0
  unfolding unmarkedb
  marked_from_lem h = subst (λ (x : ℕ). get_or p.marked_split x 0 ≤ get_or p.element_offset s 0) e (ltb-false _ _ h)

  pub from_marked : get_or p.marked_split b 0 ≤ get_or p.element_offset s 0 → Marked p s
  unfolding unmarkedb
  from_marked h = le-ltb _ _ (subst (λ (x : ℕ). get_or p.marked_split x 0 ≤ get_or p.element_offset s 0) (sym e) h)

module _ (b : ℕ) (p q : Partition) (g : MarksGrown b p q) where
  pub home_stays : (s : ℕ) → home_of q s ≡ home_of p s
  home_stays s = ap (λ (l : List ℕ). get_or l s 0) g.element_to_block

  pub others_stay : (s : ℕ) → (home_of p s ≡ b → ⊥) → unmarkedb q s ≡ unmarkedb p s
  unfolding unmarkedb
  others_stay s far =
      ap (λ (x : ℕ). ltb x (get_or q.marked_split (home_of q s) 0)) (g.places s (λ w e. far e))
      ∙ ap (λ (x : ℕ). ltb (get_or p.element_offset s 0) (get_or q.marked_split x 0)) (home_stays s)
      ∙ ap (λ (x : ℕ). ltb (get_or p.element_offset s 0) x) (g.splits (home_of p s) far)

  -- a state at a marked position stays there
  place_stays : Sound p → (s : ℕ) → s < p.n → get_or p.marked_split b 0 ≤ get_or p.element_offset s 0 →
      get_or q.element_offset s 0 ≡ get_or p.element_offset s 0
  place_stays h s w a =
      let k = get_or p.element_offset s 0 in
      let c = h.consistent.places in
      let e : get_or q.elements k 0 ≡ s = g.marked k a ∙ c.back s w in
      ap (λ (x : ℕ). get_or q.element_offset x 0) (sym e) ∙ g.sound.consistent.order.back k (omega (arith, g.n, c.below s w))

  pub marks_stay : Sound p → (s : ℕ) → s < p.n → Marked p s → Marked q s
  marks_stay h s w m =
      ⊎_elim
      (λ (e : home_of p s ≡ b).
      let a = marked_from_lem p b s e m in
      from_marked q b s (home_stays s ∙ e) (omega (arith, a, g.falls, place_stays h s w a)))
      (λ (far : home_of p s ≡ b → ⊥). others_stay s far ∙ m) (same_or_not (home_of p s) b)

-- ---- one state marked
module _ (p : Partition) (g : Sound p) (s : ℕ) (w : s < p.n) where
  abbrev b : ℕ
  b = home_of p s

  abbrev o : ℕ
  o = get_or p.element_offset s 0

  abbrev m : ℕ
  m = get_or p.marked_split b 0

  module _ (t : unmarkedb p s ≡ true) where
    o_in : o < p.n
    o_in = g.consistent.places.below s w

    m_in : m - 1 < p.n
    m_in = let k = both p g s w t in let a = moved_before p g s w t in omega (arith, k.to, k.most)

    moved-split : get_or (moved p s).marked_split b 0 ≡ m - 1
    unfolding moved
    moved-split =
        get_or-set_same p.marked_split b (m - 1) 0
        (omega (arith, (both p g s w t).known, g.consistent.most, g.long.marked_split))

    moved_offset : get_or (moved p s).element_offset s 0 ≡ m - 1
    unfolding moved
    moved_offset =
        ap (λ (x : ℕ). get_or (moved p s).element_offset x 0) (sym (both p g s w t).here)
        ∙ offset_i p.elements p.element_offset p.n o (m - 1) g.consistent.order g.long.elements g.long.element_offset
        o_in m_in

    moved_there : get_or (moved p s).elements (m - 1) 0 ≡ s
    unfolding moved
    moved_there =
        swapped_j p.elements o (m - 1) (omega (arith, o_in, g.long.elements)) (omega (arith, m_in, g.long.elements))
        ∙ (both p g s w t).here

    moved_marks : Marked (moved p s) s
    unfolding moved
    moved_marks = from_marked (moved p s) b s refl (omega (arith, moved-split, moved_offset))

    -- a state marked then stands where it stood, or it is s
    moved_only : MarksGrown b p (moved p s) → (u : ℕ) → u < p.n → home_of p u ≡ b → Marked (moved p s) u → (u ≡ s) ⊎ Marked p u
    unfolding moved
    moved_only h u wu e k =
        let x = get_or (moved p s).element_offset u 0 in
        let c = h.sound.consistent in
        let there : get_or (moved p s).elements x 0 ≡ u = c.places.back u wu in
        let a = marked_from_lem (moved p s) b u e k in
        let before = moved_before p g s w t in
        ⊎_elim (λ (q : m - 1 ≡ x). inl (sym there ∙ ap (λ (y : ℕ). get_or (moved p s).elements y 0) (sym q) ∙ moved_there))
        (λ (l : m - 1 < x).
        let f : get_or p.elements x 0 ≡ u = sym (h.marked x (omega arith)) ∙ there in
        let y : get_or p.element_offset u 0 ≡ x
        = ap (λ (y : ℕ). get_or p.element_offset y 0) (sym f) ∙ g.consistent.order.back x (c.places.below u wu) in
        inr (from_marked p b u e (omega arith)))
        (eq-or-lt_of_le (omega (arith, a, moved-split)))

  pub mark-marks : Marked (mark p s) s
  unfolding mark
  mark-marks = go (unmarkedb p s) refl
    where
      go : (t : Bool) → unmarkedb p s ≡ t → Marked (cond t (moved p s) p) s
      go true e = moved_marks e
      go false e = e

  pub mark_only : (u : ℕ) → u < p.n → home_of p u ≡ b → Marked (mark p s) u → (u ≡ s) ⊎ Marked p u
  unfolding mark
  mark_only u wu e = go (unmarkedb p s) refl (mark_grown p g s w)
    where
      go : (t : Bool) → unmarkedb p s ≡ t → MarksGrown b p (cond t (moved p s) p) → Marked (cond t (moved p s) p) u → (u ≡ s) ⊎ Marked p u
      go true q h k = moved_only q h u wu e k
      go false q h k = inr k
