-- What marking states of one block changes: within the block's stretch the unmarked positions are reordered and the split falls; the
-- marked positions stay, and all other blocks do.
use Rattle.std.specs.Prelude.{◌≡◌, ℕ, ◌-◌, ◌<◌, ◌≤◌, Bool, true, false, cond, List, length, get_or}
use native.Mathlib.Omega.{arith}
use borrow.Author.Tests.{ltb-true}
use mathlib.Core.Path.{refl, ap, sym, subst, ◌∙◌}
use lib.ListN.{length-set}
use lib.Seq.{get_or-set_same, get_or-set_other}
use Rattle.columns.proofs.Inverses.{length-swapped_inverse, offset_other}
use Rattle.columns.proofs.Swaps.{length-swapped, swapped_other}
use Rattle.partition.specs.Mark.{mark, moved}
use Rattle.partition.specs.Partition.{Partition, Consistent, Long, Sound}
use Rattle.partition.specs.Marked.{unmarkedb}
use Rattle.partition.proofs.Keeps.{mark_consistent}
use Rattle.partition.proofs.Owned.{owned}

pub record MarksGrown (b : ℕ) (p q : Partition) : Type 0 where
  pub sound : Sound q
  pub element_to_block : q.element_to_block ≡ p.element_to_block
  pub begin : q.begin ≡ p.begin
  pub end : q.end ≡ p.end
  pub n : q.n ≡ p.n
  pub count : q.count ≡ p.count
  -- the columns' lengths
  pub elements : length q.elements ≡ length p.elements
  pub element_offset : length q.element_offset ≡ length p.element_offset
  pub marked_split : length q.marked_split ≡ length p.marked_split
  pub falls : get_or q.marked_split b 0 ≤ get_or p.marked_split b 0
  pub splits : (j : ℕ) → (j ≡ b → ⊥) → get_or q.marked_split j 0 ≡ get_or p.marked_split j 0
  pub marked : (k : ℕ) → get_or p.marked_split b 0 ≤ k → get_or q.elements k 0 ≡ get_or p.elements k 0
  pub outside : (k : ℕ) → (get_or p.begin b 0 ≤ k → k < get_or p.end b 0 → ⊥) → get_or q.elements k 0 ≡ get_or p.elements k 0
  pub places : (s : ℕ) → (s < p.n → get_or p.element_to_block s 0 ≡ b → ⊥) → get_or q.element_offset s 0 ≡ get_or p.element_offset s 0

pub grown_none : (b : ℕ) (p : Partition) → Sound p → MarksGrown b p p
grown_none b p g =
    record {
      sound = g;
      element_to_block = refl;
      begin = refl;
      end = refl;
      n = refl;
      count = refl;
      elements = refl;
      element_offset = refl;
      marked_split = refl;
      falls = omega arith;
      splits = λ j m. refl;
      marked = λ k h. refl;
      outside = λ k h. refl;
      places = λ s h. refl;
    }

pub grown_more : {b : ℕ} {p q r : Partition} → MarksGrown b p q → MarksGrown b q r → MarksGrown b p r
grown_more {b} {p} {q} {r} g h =
    record {
      sound = h.sound;
      element_to_block = h.element_to_block ∙ g.element_to_block;
      begin = h.begin ∙ g.begin;
      end = h.end ∙ g.end;
      n = h.n ∙ g.n;
      count = h.count ∙ g.count;
      elements = h.elements ∙ g.elements;
      element_offset = h.element_offset ∙ g.element_offset;
      marked_split = h.marked_split ∙ g.marked_split;
      falls = omega (arith, g.falls, h.falls);
      splits = λ j m. h.splits j m ∙ g.splits j m;
      marked = λ k w. h.marked k (omega (arith, g.falls)) ∙ g.marked k w;
      outside = λ k f. h.outside k (λ x z. f (omega (arith, ap at g.begin)) (omega (arith, ap at g.end))) ∙ g.outside k f;
      places = λ s f.
          h.places s (λ w e. f (omega (arith, g.n)) (ap (λ (l : List ℕ). get_or l s 0) (sym g.element_to_block) ∙ e)) ∙ g.places s f;
    }
  where
    at : List ℕ → ℕ
    at l = get_or l b 0

-- ---- one state
module _ (p : Partition) (g : Sound p) (s : ℕ) (w : s < p.n) where
  abbrev b : ℕ
  b = get_or p.element_to_block s 0

  abbrev o : ℕ
  o = get_or p.element_offset s 0

  abbrev m : ℕ
  m = get_or p.marked_split b 0

  moved_long : Long (moved p s)
  unfolding moved
  moved_long =
      record {
        elements = omega (arith, g.long.elements, length-swapped o (m - 1) p.elements);
        element_offset = omega (arith, g.long.element_offset, length-swapped_inverse o (m - 1) p.elements p.element_offset);
        element_to_block = g.long.element_to_block;
        begin = g.long.begin;
        marked_split = omega (arith, g.long.marked_split, length-set p.marked_split b (m - 1));
        end = g.long.end;
      }

  module _ (u : unmarkedb p s ≡ true) where
    moved_sound : Sound (moved p s)
    unfolding mark moved
    moved_sound =
        record {
          small = g.small;
          long = moved_long;
          consistent = subst (λ (t : Bool). Consistent (cond t (moved p s) p)) u (mark_consistent p g.consistent g.long s w);
        }

    pub moved_before : o < m
    unfolding unmarkedb
    moved_before = ltb-true o m u

    -- where the two states stand that change places
    pub record BothMoved : Type 0 where
      pub known : b < p.count
      pub from : get_or p.begin b 0 ≤ o
      pub to : m ≤ get_or p.end b 0
      pub most : get_or p.end b 0 ≤ p.n
      pub here : get_or p.elements o 0 ≡ s
      pub there : get_or p.element_to_block (get_or p.elements (m - 1) 0) 0 ≡ b
      pub there_state : get_or p.elements (m - 1) 0 < p.n

    pub both : BothMoved
    both =
        let c = g.consistent in
        let l = c.lies s w in
        let v = c.bounds b l.known in
        record {
          known = l.known;
          from = l.from;
          to = v.to;
          most = v.most;
          here = c.places.back s w;
          there = owned p c b (m - 1) l.known (omega (arith, l.from, moved_before)) (omega (arith, v.to, moved_before));
          there_state = c.order.below (m - 1) (omega (arith, v.to, v.most, moved_before));
        }

    moved_grown : MarksGrown b p (moved p s)
    unfolding moved
    moved_grown =
        let k = both in
        let u' = moved_before in
        let c = g.consistent in
        let hi : o < p.n = omega (arith, k.to, k.most) in
        let hj : m - 1 < p.n = omega (arith, k.to, k.most) in
        let other : (x : ℕ) → (x ≡ o → ⊥) → (x ≡ m - 1 → ⊥) → get_or (moved p s).elements x 0 ≡ get_or p.elements x 0
        = swapped_other p.elements o (m - 1) (omega (arith, g.long.elements)) (omega (arith, g.long.elements)) in
        record {
          sound = moved_sound;
          element_to_block = refl;
          begin = refl;
          end = refl;
          n = refl;
          count = refl;
          elements = length-swapped o (m - 1) p.elements;
          element_offset = length-swapped_inverse o (m - 1) p.elements p.element_offset;
          marked_split = length-set p.marked_split b (m - 1);
          falls = omega (arith, get_or-set_same p.marked_split b (m - 1) 0 (omega (arith, k.known, c.most, g.long.marked_split)));
          splits = λ j f. get_or-set_other p.marked_split b j (m - 1) 0 f;
          marked = λ x a. other x (λ e. omega (arith, e)) (λ e. omega (arith, e));
          outside = λ x f.
              other x (λ e. f (omega (arith, e, k.from)) (omega (arith, e, k.to)))
              (λ e. f (omega (arith, e, k.from)) (omega (arith, e, k.to)));
          places = λ x f.
              offset_other p.elements p.element_offset p.n o (m - 1) c.order g.long.elements g.long.element_offset hi hj
              x
              (λ e. f (omega (arith, e, k.here)) (ap (λ (y : ℕ). get_or p.element_to_block y 0) (e ∙ k.here)))
              (λ e. f (omega (arith, e, k.there_state)) (ap (λ (y : ℕ). get_or p.element_to_block y 0) e ∙ k.there));
        }

  pub mark_grown : MarksGrown b p (mark p s)
  unfolding mark
  mark_grown = go (unmarkedb p s) refl
    where
      go : (t : Bool) → unmarkedb p s ≡ t → MarksGrown b p (cond t (moved p s) p)
      go true e = moved_grown e
      go false e = grown_none b p g
