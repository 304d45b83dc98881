-- Marking by way of listed rows, as it stands between two turns of the code's loops.
use Rattle.std.specs.Prelude.{◌≡◌, ℕ, zero, suc, ◌+◌, ◌-◌, ◌<◌, ◌≤◌, Bool, true, false, cond, eqb, List, length, get_or}
use native.Mathlib.Omega.{arith}
use native.Mathlib.Nat.{eq-or-lt_of_le}
use native.Mathlib.Numerals.{add-one}
use borrow.Author.Tests.{eq-eqb, ne_eqb}
use mathlib.Core.Path.{refl, ap, sym, subst, ◌∙◌}
use mathlib.Core.Logic.{⊎_elim}
use Rattle.partition.specs.Mark.{Marks, mark_in}
use Rattle.partition.specs.Cores.{Markable}
use Rattle.partition.specs.Partition.{Partition, parts, Sound}
use Rattle.partition.proofs.Marks.{markable, mark_done}
use Rattle.table.specs.Stretch.{StretchOf}
use Rattle.table_closure.specs.Closure.{going_on}
use Rattle.table_closure.specs.Listed.{RowList, comes_from, leads_to, mark_listed, read_listed, Listed, Fits}
use Rattle.table_closure.proofs.Growing.{mark_grown}

-- ---- the columns stay those of a partition, and as long as they were
pub record Kept (n : ℕ) (home : List ℕ) (c d : Marks) : Type 0 where
  pub fits : Fits n home d
  pub elements : length d.elements ≡ length c.elements
  pub element_offset : length d.element_offset ≡ length c.element_offset
  pub marked_split : length d.marked_split ≡ length c.marked_split

pub kept_none : {n : ℕ} {home : List ℕ} {c : Marks} → Fits n home c → Kept n home c c
kept_none f = record { fits = f; elements = refl; element_offset = refl; marked_split = refl }

pub kept_more : {n : ℕ} {home : List ℕ} {c d e : Marks} → Kept n home c d → Kept n home d e → Kept n home c e
kept_more k l =
    record {
      fits = l.fits;
      elements = l.elements ∙ k.elements;
      element_offset = l.element_offset ∙ k.element_offset;
      marked_split = l.marked_split ∙ k.marked_split;
    }

module _ (n : ℕ) (home : List ℕ) where
  -- the partition that the columns fit
  abbrev whole : (c : Marks) → Fits n home c → Partition
  whole c f = parts c.elements c.element_offset home f.begin c.marked_split f.end n f.count

  fits_markable : (c : Marks) → Fits n home c → (s : ℕ) → s < n → Markable home c s
  fits_markable c f s w = markable (whole c f) s f.sound w

  kept_mark : (c : Marks) → Fits n home c → (s : ℕ) → s < n → Kept n home c (mark_in home c s)
  kept_mark c f s w =
      let e = mark_done (whole c f) s (mark_in home c s) refl in
      let g = mark_grown (whole c f) f.sound s w in
      record {
        fits = record { begin = f.begin; end = f.end; count = f.count; sound = subst Sound (sym e) g.sound };
        elements = ap (λ (q : Partition). length q.elements) e ∙ g.elements;
        element_offset = ap (λ (q : Partition). length q.element_offset) e ∙ g.element_offset;
        marked_split = ap (λ (q : Partition). length q.marked_split) e ∙ g.marked_split;
      }

-- the rows before position j are read
pub record Into (r : RowList) (home : List ℕ) (h u : ℕ) (c d : Marks) (j : ℕ) : Type 0 where
  pub most : j ≤ h
  pub done : d ≡ mark_listed r home u j c

-- the positions of block b, from x to before z, are read from `it` on, and reading on gives what is asked for
pub record Down (n : ℕ) (r : RowList) (home : List ℕ) (h b x z : ℕ) (c d : Marks) (it : ℕ) : Type 0 where
  pub most : it ≤ z
  pub kept : Kept n home c d
  pub rest : read_listed r h home b x it d ≡ read_listed r h home b x z c

module _ (n : ℕ) (home : List ℕ) (r : RowList) (h : ℕ) (l : Listed n r h) where
  pub kept_listed : (u k : ℕ) → k ≤ h → (c : Marks) → Fits n home c → Kept n home c (mark_listed r home u k c)
  unfolding mark_listed
  kept_listed u zero w c f = kept_none f
  kept_listed u (suc k) w c f =
      let q = kept_listed u k (omega arith) c f in
      go (mark_listed r home u k c) q (kept_mark n home (mark_listed r home u k c) q.fits (comes_from r k) (l.state k w))
      (eqb (leads_to r k) u)
    where
      go : (d : Marks) → Kept n home c d → Kept n home d (mark_in home d (comes_from r k)) → (t : Bool)
          → Kept n home c (cond t (mark_in home d (comes_from r k)) d)
      go d q m true = kept_more q m
      go d q m false = q

  -- ---- the rows that lead to u
  module _ (u : ℕ) (c : Marks) where
    listed_next : (k : ℕ) → leads_to r k ≡ u → mark_in home (mark_listed r home u k c) (comes_from r k) ≡ mark_listed r home u (suc k) c
    unfolding mark_listed
    listed_next k e = rw (eq-eqb (leads_to r k) u e)

    listed_past : (k : ℕ) → (leads_to r k ≡ u → ⊥) → mark_listed r home u k c ≡ mark_listed r home u (suc k) c
    unfolding mark_listed
    listed_past k m = rw (ne_eqb (leads_to r k) u m)

    -- rows that lead elsewhere change nothing
    listed_skip : (i j : ℕ) → i ≤ j → ((k : ℕ) → i ≤ k → k < j → leads_to r k ≡ u → ⊥) → mark_listed r home u i c ≡ mark_listed r home u j c
    listed_skip i zero w f = ap (λ (k : ℕ). mark_listed r home u k c) (zero_is w)
      where
        zero_is : {k : ℕ} → k ≤ 0 → k ≡ 0
        zero_is w = omega arith
    listed_skip i (suc j) w f =
        ⊎_elim (λ (e : i ≡ suc j). ap (λ (k : ℕ). mark_listed r home u k c) e)
        (λ (q : i < suc j).
        listed_skip i j (omega arith) (λ k a z. f k a (omega arith)) ∙ listed_past j (f j (omega arith) (omega arith)))
        (eq-or-lt_of_le w)

    -- those that lead to u are listed from `first` to before `end`
    pub into_start : (first end : ℕ) → StretchOf (leads_to r) h u first end → Into r home h u c c first
    unfolding mark_listed
    into_start first end t =
        record {
          most = omega (arith, t.low, t.most);
          done = listed_skip 0 first (omega arith) (λ k a z e. omega (arith, z, ((t.exactly k (omega (arith, z, t.low, t.most))).0 e).0));
        }

    module _ (d : Marks) (j : ℕ) (i : Into r home h u c d j) where
      pub into_kept : Fits n home c → Kept n home c d
      into_kept f = rw i.done (kept_listed u j i.most c f)

      -- row x, listed at j, comes from s
      pub into_markable : Fits n home c → j < h → (x s : ℕ) → x ≡ get_or r.order j 0 → s ≡ get_or r.source x 0 → Markable home d s
      into_markable f w x s ex es =
          fits_markable n home d (into_kept f).fits s
          (omega (arith, es, ap (λ (y : ℕ). get_or r.source y 0) ex, l.state j w))

      pub into_more : j < h → leads_to r j ≡ u → (x s : ℕ) → x ≡ get_or r.order j 0 → s ≡ get_or r.source x 0
          → (e : Marks) → e ≡ mark_in home d s → Into r home h u c e (j + 1)
      into_more w q x s ex es e f =
          record {
            most = omega arith;
            done =
                f ∙ ap (mark_in home d) (es ∙ ap (λ (y : ℕ). get_or r.source y 0) ex)
                ∙ ap (λ (y : Marks). mark_in home y (comes_from r j)) i.done
                ∙ listed_next j q
                ∙ ap (λ (k : ℕ). mark_listed r home u k c) (sym (add-one j));
          }

      pub into_end : (first end : ℕ) → StretchOf (leads_to r) h u first end → j ≡ end → d ≡ mark_listed r home u h c
      into_end first end t q = i.done ∙ listed_skip j h i.most (λ k a z e. omega (arith, a, q, ((t.exactly k z).0 e).1))

  -- ---- the positions of block b, from its end down
  module _ (b x : ℕ) where
    read_on : (it : ℕ) (d : Marks) → going_on x (get_or d.marked_split b 0) (suc it) ≡ true
        → read_listed r h home b x it (mark_listed r home (get_or d.elements it 0) h d) ≡ read_listed r h home b x (suc it) d
    unfolding read_listed
    read_on it d e = rw e

    read_stop : (it : ℕ) (d : Marks) → going_on x (get_or d.marked_split b 0) it ≡ false → read_listed r h home b x it d ≡ d
    unfolding read_listed
    read_stop zero d e = refl
    read_stop (suc it) d e = rw e

    pub down_start : (z it : ℕ) → it ≡ z → (c : Marks) → Fits n home c → Down n r home h b x z c c it
    down_start z it e c f = record { most = omega arith; kept = kept_none f; rest = ap (λ (k : ℕ). read_listed r h home b x k c) e }

    module _ (z : ℕ) (c d : Marks) (it : ℕ) (w : Down n r home h b x z c d it) (x' m : ℕ) (ex : x' ≡ x)
        (em : m ≡ get_or d.marked_split b 0) where
      goes : (t : Bool) → going_on x' m it ≡ t → going_on x (get_or d.marked_split b 0) it ≡ t
      goes t e = ap (λ (y : ℕ). going_on y (get_or d.marked_split b 0) it) (sym ex) ∙ ap (λ (y : ℕ). going_on x' y it) (sym em) ∙ e

      pub down_more : 0 < it → going_on x' m it ≡ true → (u : ℕ) → u ≡ get_or d.elements (it - 1) 0
          → (e : Marks) → e ≡ mark_listed r home u h d → Down n r home h b x z c e (it - 1)
      down_more p t u eu e f =
          let k : it ≡ suc (it - 1) = omega arith in
          record {
            most = omega (arith, w.most);
            kept = rw f (kept_more w.kept (kept_listed u h (omega arith) d w.kept.fits));
            rest =
                ap (read_listed r h home b x (it - 1)) (f ∙ ap (λ (y : ℕ). mark_listed r home y h d) eu)
                ∙ read_on (it - 1) d (ap (going_on x (get_or d.marked_split b 0)) (sym k) ∙ goes true t)
                ∙ ap (λ (y : ℕ). read_listed r h home b x y d) (sym k)
                ∙ w.rest;
          }

      pub down_end : going_on x' m it ≡ false → d ≡ read_listed r h home b x z c
      down_end t = sym (read_stop it d (goes false t)) ∙ w.rest
