-- The rows that lead to a state, read one after the other, as it stands between two turns.
use Rattle.std.specs.Prelude.{◌≡◌, ℕ, zero, suc, ◌<◌, ◌≤◌, Bool, true, false, eqb, List, length, get_or}
use native.Mathlib.Omega.{arith}
use native.Mathlib.Nat.{eq-or-lt_of_le}
use borrow.Author.Tests.{eq-eqb, eqb-true}
use mathlib.Core.Path.{refl, ap, sym, ◌∙◌}
use mathlib.Core.Logic.{⊎_elim}
use Rattle.table_closure.specs.Closure.{silentb, mark_source, mark_into}
use Rattle.table_closure.specs.Inner.{innerb, InnerList}
use Rattle.columns.proofs.All.{lt-or-le}
use Rattle.columns.proofs.Bools.{and_left, and_both, fails}
use Rattle.partition.specs.Mark.{Marks, marks_of, with_marks, mark, mark_in}
use Rattle.partition.specs.Partition.{Partition, Sound}
use Rattle.partition.proofs.Marks.{mark_done}
use Rattle.table.specs.Lts.{Lts, Valid}
use Rattle.table_closure.proofs.Growing.{MarksGrown}
use Rattle.table_closure.proofs.Steps.{into_grown}

-- ---- one row
module _ (t : Lts) (b i : ℕ) (p : Partition) where
  source_done :
      (q : Partition) → silentb t p.element_to_block b i ≡ true → q ≡ mark p (get_or t.source i 0) → q ≡ mark_source t b i p
  unfolding mark_source
  source_done q e eq = rw e eq

  source_idle : silentb t p.element_to_block b i ≡ false → p ≡ mark_source t b i p
  unfolding mark_source
  source_idle e = rw e

-- ---- the rows that lead to u
module _ (t : Lts) (v : Valid t) (b u : ℕ) (p : Partition) (same : p.n ≡ t.n) (g : Sound p) where
  abbrev to : ℕ → ℕ
  to i = get_or t.target i 0

  -- row i is hidden and comes from block b
  abbrev Silent : ℕ → Type 0
  Silent i = silentb t p.element_to_block b i ≡ true

  into_row : (i : ℕ) → to i ≡ u → mark_source t b i (mark_into t b u i p) ≡ mark_into t b u (suc i) p
  unfolding mark_into
  into_row i e = rw (eq-eqb (to i) u e)

  -- a row changes nothing that does not lead to u or is not silent
  into_idle : (i : ℕ) → i < t.m → (to i ≡ u → Silent i → ⊥) → mark_into t b u i p ≡ mark_into t b u (suc i) p
  unfolding mark_into
  into_idle i h f = go (eqb (to i) u) refl
    where
      past : eqb (to i) u ≡ false → mark_into t b u i p ≡ mark_into t b u (suc i) p
      past e = rw e

      go : (c : Bool) → eqb (to i) u ≡ c → mark_into t b u i p ≡ mark_into t b u (suc i) p
      go true e =
          let r = into_grown t v b u i p (omega arith) same g in
          source_idle t b i (mark_into t b u i p)
          (ap (λ (x : List ℕ). silentb t x b i) r.element_to_block ∙ fails (f (eqb-true (to i) u e)))
          ∙ into_row i (eqb-true (to i) u e)
      go false e = past e

  -- nor do several of them
  into_skip : (i j : ℕ) → i ≤ j → j ≤ t.m → ((k : ℕ) → i ≤ k → k < j → to k ≡ u → Silent k → ⊥) → mark_into t b u i p ≡ mark_into t b u j p
  into_skip i zero h w f = ap (λ (k : ℕ). mark_into t b u k p) (zero_is h)
    where
      zero_is : {k : ℕ} → k ≤ 0 → k ≡ 0
      zero_is h = omega arith
  into_skip i (suc j) h w f =
      ⊎_elim (λ (e : i ≡ suc j). ap (λ (k : ℕ). mark_into t b u k p) e)
      (λ (l : i < suc j).
      into_skip i j (omega arith) (omega arith) (λ k a z. f k a (omega arith)) ∙ into_idle j w (f j (omega arith) (omega arith)))
      (eq-or-lt_of_le h)

-- the rows before `next` are read; of the listed rows that lead to u these are those before position j
pub record Reading (t : Lts) (b u : ℕ) (order : List ℕ) (h : ℕ) (p q : Partition) (j : ℕ) : Type 0 where
  pub next : ℕ
  pub most : next ≤ t.m
  pub done : q ≡ mark_into t b u next p
  pub before : (k : ℕ) → k < j → k < h → get_or t.target (get_or order k 0) 0 ≡ u → get_or order k 0 < next
  pub after : (k : ℕ) → j ≤ k → k < h → get_or t.target (get_or order k 0) 0 ≡ u → next ≤ get_or order k 0

-- what the listed rows are asked for when they are looked up
module _ (t : Lts) (v : Valid t) (home : List ℕ) (b : ℕ) (order : List ℕ) (h : ℕ) (l : InnerList t home b order h) where
  pub listed_below : (k : ℕ) → k < h → get_or order k 0 < length t.target
  listed_below k w = omega (arith, l.row k w, v.long.target)

  pub listed_rising : (j k : ℕ) → j ≤ k → k < h → get_or t.target (get_or order j 0) 0 ≤ get_or t.target (get_or order k 0) 0
  listed_rising j k a w =
      ⊎_elim (λ (e : j ≡ k). omega (arith, ap (λ (x : ℕ). get_or t.target (get_or order x 0) 0) e))
      (λ (n : j < k).
      ⊎_elim (λ (x : get_or t.target (get_or order j 0) 0 < get_or t.target (get_or order k 0) 0). omega arith)
      (λ (x : (get_or t.target (get_or order j 0) 0 ≡ get_or t.target (get_or order k 0) 0) × (get_or order j 0 < get_or order k 0)). omega
      (arith, x.0))
      (l.ascending j k n w))
      (eq-or-lt_of_le a)

  listed_less : (j k : ℕ) → j < k → k < h → get_or t.target (get_or order j 0) 0 ≡ get_or t.target (get_or order k 0) 0 →
      get_or order j 0 < get_or order k 0
  listed_less j k a w e =
      ⊎_elim (λ (x : get_or t.target (get_or order j 0) 0 < get_or t.target (get_or order k 0) 0). absurd (omega arith))
      (λ (x : (get_or t.target (get_or order j 0) 0 ≡ get_or t.target (get_or order k 0) 0) × (get_or order j 0 < get_or order k 0)). x.1)
      (l.ascending j k a w)

  listed_silent : (j : ℕ) → j < h → silentb t home b (get_or order j 0) ≡ true
  unfolding innerb
  listed_silent j w =
      and_left (silentb t home b (get_or order j 0)) (eqb (get_or home (get_or t.target (get_or order j 0) 0) 0) b) (l.inner j w)

  -- a silent row that leads into the block is listed
  listed-all : (i : ℕ) → i < t.m → silentb t home b i ≡ true → get_or home (get_or t.target i 0) 0 ≡ b → (j : ℕ) × (j < h) ×
      (get_or order j 0 ≡ i)
  unfolding innerb
  listed-all i w s e = l.all i w (and_both s (eq-eqb (get_or home (get_or t.target i 0) 0) b e))

module _ (t : Lts) (v : Valid t) (b u : ℕ) (p : Partition) (same : p.n ≡ t.n) (g : Sound p) where
  abbrev home : List ℕ
  home = p.element_to_block

  module _ (order : List ℕ) (h : ℕ) (l : InnerList t home b order h) where
    abbrev listed : ℕ → ℕ
    listed k = get_or order k 0

    abbrev into : ℕ → ℕ
    into i = get_or t.target i 0

    pub reading_start : Reading t b u order h p p 0
    unfolding mark_into
    reading_start =
        record {
          next = 0;
          most = omega arith;
          done = refl;
          before = λ k a w e. absurd (omega (arith, a));
          after = λ k a w e. omega arith;
        }

    module _ (q : Partition) (j : ℕ) (c : Reading t b u order h p q j) where
      pub reading_grown : MarksGrown b p q
      reading_grown = rw c.done (into_grown t v b u c.next p c.most same g)

      -- a silent row that leads to u and is not read yet is listed at j or later
      unread : (i : ℕ) → c.next ≤ i → i < t.m → into i ≡ u → silentb t home b i ≡ true → get_or home u 0 ≡ b
          → (k : ℕ) × (j ≤ k) × (k < h) × (listed k ≡ i)
      unread i a w e s eu =
          let x = listed-all t v home b order h l i w s (ap (λ (y : ℕ). get_or home y 0) e ∙ eu) in (
            x.0,
            ⊎_elim
                (λ (n : x.0 < j). absurd (omega (arith, c.before x.0 n x.1 (ap into x.2 ∙ e), x.2, a)))
                (λ (n : j ≤ x.0). n) (lt-or-le x.0 j),
            x.1,
            x.2,
          )

      module _ (eu : get_or home u 0 ≡ b) where
        reading_more : j < h → into (listed j) ≡ u → (r : Partition) → r ≡ mark_source t b (listed j) q → Reading t b u order h p r (suc j)
        reading_more w e r f =
            let a : c.next ≤ listed j = c.after j (omega arith) w e in
            let m : listed j < t.m = l.row j w in
            record {
              next = suc (listed j);
              most = m;
              done =
                  f ∙ ap (mark_source t b (listed j)) (c.done ∙ into_skip t v b u p same g c.next (listed j) a (omega arith) between)
                  ∙ into_row t v b u p same g (listed j) e;
              before = λ k x y d.
                  ⊎_elim (λ (z : k ≡ j). omega (arith, ap listed z)) (λ (z : k < j). omega (arith, c.before k z y d, a))
                  (eq-or-lt_of_le (omega (arith, x)));
              after = λ k x y d. listed_less t v home b order h l j k (omega (arith, x)) y (e ∙ sym d);
            }
          where
            between : (k : ℕ) → c.next ≤ k → k < listed j → into k ≡ u → silentb t home b k ≡ true → ⊥
            between k x z d s =
                let y = unread k x (omega (arith, l.row j w)) d s eu in
                ⊎_elim (λ (n : j ≡ y.0). absurd (omega (arith, ap listed n, y.3, z)))
                (λ (n : j < y.0). absurd (omega (
                  arith,
                  listed_less t v home b order h l j y.0 n y.2 (e ∙ sym (ap into y.3 ∙ d)),
                  y.3,
                  z,
                )))
                (eq-or-lt_of_le y.1)

        -- the row listed at j leads to u, and its source is marked
        pub reading_marks : j < h → into (listed j) ≡ u → (d : Marks)
            → d ≡ mark_in q.element_to_block (marks_of q) (get_or t.source (listed j) 0) → Reading t b u order h p (with_marks q d) (suc j)
        reading_marks w e d f =
            reading_more w e (with_marks q d)
            (source_done t b (listed j) q (with_marks q d)
            (ap (λ (x : List ℕ). silentb t x b (listed j)) reading_grown.element_to_block ∙ listed_silent t v home b order h l j w)
            (mark_done q (get_or t.source (listed j) 0) d f))

        -- it leads elsewhere
        pub reading_past : (into (listed j) ≡ u → ⊥) → Reading t b u order h p q (suc j)
        reading_past m =
            record {
              next = c.next;
              most = c.most;
              done = c.done;
              before = λ k x y d.
                  ⊎_elim (λ (z : k ≡ j). absurd (m (ap (λ (o : ℕ). into (listed o)) (sym z) ∙ d))) (λ (z : k < j). c.before k z y d)
                  (eq-or-lt_of_le (omega (arith, x)));
              after = λ k x y d. c.after k (omega (arith, x)) y d;
            }

        pub reading_end : h ≤ j → q ≡ mark_into t b u t.m p
        reading_end w =
            c.done ∙ into_skip t v b u p same g c.next t.m c.most (omega arith)
            (λ k x z d s. let y = unread k x z d s eu in omega (arith, y.1, y.2))
