-- The rows that `InnerList` lists are all that the definition marks by: marking by way of the list is marking by way of all rows.
use Rattle.std.specs.Prelude.{◌≡◌, ℕ, zero, suc, ◌<◌, ◌≤◌, Bool, true, false, cond, eqb, List, get_or}
use native.Mathlib.Omega.{arith}
use borrow.Author.Tests.{eqb-true, eqb-false}
use mathlib.Core.Path.{refl, ap, sym, subst, ◌∙◌}
use Rattle.partition.specs.Mark.{Marks, marks_of, with_marks, mark_in}
use Rattle.partition.specs.Partition.{Partition, Sound}
use Rattle.partition.proofs.Owned.{owned}
use Rattle.table.specs.Lts.{Lts, Valid}
use Rattle.table_closure.specs.Closure.{mark_into, goes_on, read_down, close}
use Rattle.table_closure.specs.Inner.{InnerList}
use Rattle.table_closure.specs.Listed.{RowList, row_list, comes_from, leads_to, mark_listed, read_listed, Listed, Fits}
use Rattle.table_closure.proofs.Closing.{goes_marked}
use Rattle.table_closure.proofs.Reading.{
  Reading,
  listed_below,
  listed_rising,
  reading_start,
  reading_marks,
  reading_past,
  reading_end,
}
use Rattle.table_closure.proofs.Steps.{into_grown}

-- the columns of a sound partition fit
pub fits : (p : Partition) → Sound p → Fits p.n p.element_to_block (marks_of p)
fits p g = record { begin = p.begin; end = p.end; count = p.count; sound = g }

module _ (t : Lts) (v : Valid t) (home : List ℕ) (b : ℕ) (order : List ℕ) (h : ℕ) (l : InnerList t home b order h) where
  abbrev R : RowList
  R = row_list t.source t.target order

  pub listed : Listed t.n R h
  listed =
      record {
        by_target = record { room = l.room; row = listed_below t v home b order h l; rising = listed_rising t v home b order h l };
        source = λ k w. omega (arith, l.row k w, v.long.source);
        state = λ k w. (v.fields (get_or order k 0) (l.row k w)).source;
      }

module _ (t : Lts) (v : Valid t) (b : ℕ) (p : Partition) (same : p.n ≡ t.n) (order : List ℕ) (h : ℕ)
    (l : InnerList t p.element_to_block b order h) where
  abbrev home : List ℕ
  home = p.element_to_block

  abbrev S : RowList
  S = row_list t.source t.target order

  -- ---- the rows that lead to u, for columns c of the partition
  module _ (u : ℕ) (eu : get_or p.element_to_block u 0 ≡ b) (c : Marks) (g : Sound (with_marks p c)) where
    reading : (j : ℕ) → j ≤ h → Reading t b u order h (with_marks p c) (with_marks p (mark_listed S home u j c)) j
    unfolding mark_listed
    reading zero w = reading_start t v b u (with_marks p c) same g order h l
    reading (suc j) w = go (mark_listed S home u j c) (reading j (omega arith)) (eqb (leads_to S j) u) refl
      where
        go : (d : Marks) → Reading t b u order h (with_marks p c) (with_marks p d) j → (x : Bool) → eqb (leads_to S j) u ≡ x
            → Reading t b u order h (with_marks p c) (with_marks p (cond x (mark_in home d (comes_from S j)) d)) (suc j)
        go d q true e =
            reading_marks t v b u (with_marks p c) same g order h l (with_marks p d) j q eu w (eqb-true (leads_to S j) u e)
            (mark_in home d (comes_from S j)) refl
        go d q false e =
            reading_past t v b u (with_marks p c) same g order h l (with_marks p d) j q eu (eqb-false (leads_to S j) u e)

    listed_into : with_marks p (mark_listed S home u h c) ≡ mark_into t b u t.m (with_marks p c)
    listed_into =
        reading_end t v b u (with_marks p c) same g order h l (with_marks p (mark_listed S home u h c)) h (reading h (omega arith)) eu
        (omega arith)

  -- ---- the positions from the block's end down
  module _ (w : b < p.count) where
    read_lift : (it : ℕ) (c : Marks) → Sound (with_marks p c) → it ≤ get_or p.end b 0
        → with_marks p (read_listed S h home b (get_or p.begin b 0) it c) ≡ read_down t b it (with_marks p c)
    unfolding read_listed read_down goes_on
    read_lift zero c g m = refl
    read_lift (suc it) c g m = go (λ d k. read_lift it d k (omega arith)) (goes_on (with_marks p c) b (suc it)) refl
      where
        go : ((d : Marks) → Sound (with_marks p d)
            → with_marks p (read_listed S h home b (get_or p.begin b 0) it d) ≡ read_down t b it (with_marks p d))
            → (x : Bool) → goes_on (with_marks p c) b (suc it) ≡ x
            → with_marks p (cond x (read_listed S h home b (get_or p.begin b 0) it (mark_listed S home (get_or c.elements it 0) h c)) c)
            ≡ cond x (read_down t b it (mark_into t b (get_or c.elements it 0) t.m (with_marks p c))) (with_marks p c)
        go on true e =
            let a = goes_marked (with_marks p c) b it e in
            let q = g.consistent in
            let eu = owned (with_marks p c) q b it w (omega (arith, a, (q.bounds b w).from)) (omega arith) in
            let f = listed_into (get_or c.elements it 0) eu c g in
            let k = into_grown t v b (get_or c.elements it 0) t.m (with_marks p c) (omega arith) same g in
            on (mark_listed S home (get_or c.elements it 0) h c) (subst Sound (sym f) k.sound) ∙ ap (read_down t b it) f
        go on false e = refl

    -- the closure of the block's marks, by way of the list
    pub listed-close : Sound p → (c : Marks) → c ≡ read_listed S h home b (get_or p.begin b 0) (get_or p.end b 0) (marks_of p)
        → with_marks p c ≡ close t p b
    unfolding close
    listed-close g c e = ap (with_marks p) e ∙ read_lift (get_or p.end b 0) (marks_of p) g (omega arith)
