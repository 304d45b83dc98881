-- Marking a state of a consistent partition leaves it consistent.
use Prim.Native.Nat.{ℕ, ◌-◌, ◌≤◌, ◌<◌}
use native.Mathlib.Omega.{arith}
use borrow.Author.Tests.{ltb-true}
use mathlib.Core.Bool.{Bool, true, false, cond}
use mathlib.Core.Path.{◌≡◌, refl, ap, sym, subst, ◌∙◌}
use mathlib.Core.Logic.{⊎_elim}
use lib.ListN.{get_or, set}
use lib.Dec.{ltb}
use Rattle.columns.specs.Inverse.{swapped_inverse}
use Rattle.columns.proofs.All.{same_or_not}
use Rattle.columns.proofs.Inverses.{swap_order, swap_places, offset_i, offset_j, offset_other}
use Rattle.partition.specs.Mark.{mark, moved}
use Rattle.partition.specs.Partition.{Partition, Consistent, Within, Long}
use Rattle.partition.specs.Marked.{unmarkedb}
use Rattle.partition.proofs.Changed.{marks_bounds}
use Rattle.partition.proofs.Owned.{owned}

module _ (p : Partition) (h : Consistent p) (l : Long p) (s : ℕ) (w : s < p.n) where
  b : ℕ
  b = get_or p.element_to_block s 0

  o : ℕ
  o = get_or p.element_offset s 0

  m : ℕ
  m = get_or p.marked_split b 0

  known : b < p.count
  unfolding b
  known = (h.lies s w).known

  module _ (u : o < m) where
    from : get_or p.begin b 0 ≤ o
    unfolding b o
    from = (h.lies s w).from

    to : o < get_or p.end b 0
    unfolding b o
    to = (h.lies s w).to

    least : m ≤ get_or p.end b 0
    unfolding m
    least = (h.bounds b known).to

    oo : o < p.n
    oo = omega (arith, to, (h.bounds b known).most)

    mm : (m - 1) < p.n
    mm = omega (arith, least, (h.bounds b known).most)

    here : get_or p.elements o 0 ≡ s
    unfolding o
    here = h.places.back s w

    there : get_or p.element_to_block (get_or p.elements (m - 1) 0) 0 ≡ b
    there = owned p h b (m - 1) known (omega (arith, from)) (omega (arith, least))

    moved_bounds : (k : ℕ) → k < p.count → Within (get_or p.begin k 0) (get_or (set p.marked_split b (m - 1)) k 0) (get_or p.end k 0)
        p.n
    moved_bounds = marks_bounds p h l b (m - 1) known (omega (arith, from)) (omega (arith, least))

    -- a state of block b that stands at o or m - 1
    at_block : (t k : ℕ) → get_or p.element_to_block t 0 ≡ b → get_or p.begin b 0 ≤ k → k < get_or p.end b 0
        → (get_or p.element_to_block t 0 < p.count) ×
        ((get_or p.begin (get_or p.element_to_block t 0) 0 ≤ k) × (k < get_or p.end (get_or p.element_to_block t 0) 0))
    at_block t k e f g =
        (omega (arith, known), (subst (λ (y : ℕ). get_or p.begin y 0 ≤ k) (sym e) f, subst (λ (y : ℕ). k < get_or p.end y 0) (sym e) g))

    block_s : (t : ℕ) → t ≡ s → get_or p.element_to_block t 0 ≡ b
    unfolding b
    block_s t e = ap (λ (y : ℕ). get_or p.element_to_block y 0) e

    moved_lies : (t : ℕ) → t < p.n
        → (get_or p.element_to_block t 0 < p.count)
        × ((get_or p.begin (get_or p.element_to_block t 0) 0 ≤ get_or (swapped_inverse o (m - 1) p.elements p.element_offset) t 0)
        × (get_or (swapped_inverse o (m - 1) p.elements p.element_offset) t 0 < get_or p.end (get_or p.element_to_block t 0) 0))
    moved_lies t wt =
        let O = swapped_inverse o (m - 1) p.elements p.element_offset in
        ⊎_elim
        (λ (e : t ≡ get_or p.elements o 0).
        let z : get_or O t 0 ≡ m - 1 = ap (λ (y : ℕ). get_or O y 0) e ∙ offset_i p.elements p.element_offset p.n o (m - 1) h.order
        l.elements l.element_offset oo mm in
        at_block t (get_or O t 0) (block_s t (e ∙ here)) (omega (arith, from)) (omega (arith, least)))
        (λ (ne : t ≡ get_or p.elements o 0 → ⊥).
        ⊎_elim
        (λ (e : t ≡ get_or p.elements (m - 1) 0).
        let z : get_or O t 0 ≡ o
        = ap (λ (y : ℕ). get_or O y 0) e
        ∙ offset_j p.elements p.element_offset p.n o (m - 1) h.order l.elements l.element_offset oo mm
        (λ r. ne (e ∙ ap (λ (y : ℕ). get_or p.elements y 0) (sym r))) in
        at_block t (get_or O t 0) (ap (λ (y : ℕ). get_or p.element_to_block y 0) e ∙ there) (omega (arith, from)) (omega (arith, to)))
        (λ (ne' : t ≡ get_or p.elements (m - 1) 0 → ⊥).
        let z : get_or O t 0 ≡ get_or p.element_offset t 0 =
        offset_other p.elements p.element_offset p.n o (m - 1) h.order l.elements l.element_offset oo mm t ne ne' in
        let v = h.lies t wt in
        (v.known, (omega (arith, v.from), omega (arith, v.to))))
        (same_or_not t (get_or p.elements (m - 1) 0)))
        (same_or_not t (get_or p.elements o 0))

    moved_consistent : Consistent (moved p s)
    unfolding moved b o m
    moved_consistent =
        record {
          some = h.some;
          most = h.most;
          order = swap_order p.elements p.element_offset p.n o (m - 1) h.order l.elements l.element_offset oo mm;
          places = swap_places p.elements p.element_offset p.n o (m - 1) h.order l.elements l.element_offset oo mm;
          bounds = moved_bounds;
          lies = λ t wt. let v = moved_lies t wt in record { known = v.0; from = v.1.0; to = v.1.1 };
          whole = h.whole;
        }

  pub mark_consistent : Consistent (mark p s)
  unfolding mark unmarkedb b o m
  mark_consistent = by (ltb o m) refl
    where
      by : (t : Bool) → ltb o m ≡ t → Consistent (cond t (moved p s) p)
      by true e = moved_consistent (ltb-true o m e)
      by false e = h
