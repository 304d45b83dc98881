-- A block cut in two: what each cell holds then, and that the partition stays consistent.
use Rattle.std.specs.Prelude.{◌≡◌, ℕ, ◌+◌, ◌<◌, ◌≤◌, get_or}
use native.Mathlib.Omega.{arith}
use mathlib.Core.Path.{ap, sym, subst, ◌∙◌}
use mathlib.Core.Logic.{⊎_elim}
use lib.ListN.{length-set}
use lib.Seq.{get_or-set_same, get_or-set_other}
use Rattle.columns.proofs.All.{same_or_not, not-below}
use Rattle.columns.proofs.Swaps.{two_last, two_first, two_other}
use Rattle.partition.specs.Partition.{Partition, Consistent, Within, Lies, Sound}
use Rattle.partition.proofs.Owned.{owned}
use Rattle.partition.proofs.Renumbering.{length-renumbered, renumbered_in, renumbered_out}
use Rattle.partition.proofs.Whole.{whole_of, room}
use Rattle.partition_split.specs.Split.{cut}
use Rattle.partition_split.proofs.Sieves.{inside}

-- block j is from x to z, unmarked
pub record Unmarked (q : Partition) (j x z : ℕ) : Type 0 where
  pub begin : get_or q.begin j 0 ≡ x
  pub marked_split : get_or q.marked_split j 0 ≡ z
  pub end : get_or q.end j 0 ≡ z

-- block j has the entry of the table that it had
pub record SameEntry (p q : Partition) (j : ℕ) : Type 0 where
  pub begin : get_or q.begin j 0 ≡ get_or p.begin j 0
  pub marked_split : get_or q.marked_split j 0 ≡ get_or p.marked_split j 0
  pub end : get_or q.end j 0 ≡ get_or p.end j 0

module _ (p : Partition) (g : Sound p) (b : ℕ) (w : b < p.count) (e : ℕ) (from : get_or p.begin b 0 < e) (to : e < get_or p.end b 0)
  where
    abbrev z : ℕ
    z = get_or p.end b 0

    abbrev h : Consistent p
    h = g.consistent

    -- a block of two states or more leaves room for another block
    pub room_for : p.count < p.n
    room_for = omega (arith, room p h b w, h.some)

    -- ---- the cells
    pub home_in : (s : ℕ) → s < p.n → e ≤ get_or p.element_offset s 0 → get_or p.element_offset s 0 < z →
        get_or (cut p b e).element_to_block s 0 ≡ p.count
    unfolding cut
    home_in s ws a y =
        renumbered_in p.elements e p.count p.element_to_block z (get_or p.element_offset s 0) s a y (h.places.back s ws)
        (omega (arith, g.long.element_to_block))

    pub home_out : (s : ℕ) → s < p.n → (e ≤ get_or p.element_offset s 0 → get_or p.element_offset s 0 < z → ⊥) →
        get_or (cut p b e).element_to_block s 0 ≡ get_or p.element_to_block s 0
    unfolding cut
    home_out s ws out =
        renumbered_out p.elements e p.count p.element_to_block z s
        (λ k a y q.
        let r : get_or p.element_offset s 0 ≡ k
        = ap (λ (t : ℕ). get_or p.element_offset t 0) (sym q) ∙ h.order.back k (omega (arith, (h.bounds b w).most)) in
        out (omega (arith, r)) (omega (arith, r)))

    -- ---- the table
    begin_old : (j : ℕ) → j < p.count → get_or (cut p b e).begin j 0 ≡ get_or p.begin j 0
    unfolding cut
    begin_old j wj = get_or-set_other p.begin p.count j e 0 (λ q. omega arith)

    pub cut_new : Unmarked (cut p b e) p.count e z
    unfolding cut
    cut_new =
        record {
          begin = get_or-set_same p.begin p.count e 0 (omega (arith, room_for, g.long.begin));
          marked_split = two_last p.marked_split b p.count e z (omega (arith, room_for, g.long.marked_split));
          end = two_last p.end b p.count e z (omega (arith, room_for, g.long.end));
        }

    pub cut_old : Unmarked (cut p b e) b (get_or p.begin b 0) e
    unfolding cut
    cut_old =
        record {
          begin = begin_old b w;
          marked_split = two_first p.marked_split b p.count e z (omega (arith, room_for, g.long.marked_split)) (λ q. omega arith);
          end = two_first p.end b p.count e z (omega (arith, room_for, g.long.end)) (λ q. omega arith);
        }

    pub cut_other : (j : ℕ) → j < p.count → (j ≡ b → ⊥) → SameEntry p (cut p b e) j
    unfolding cut
    cut_other j wj m =
        record {
          begin = begin_old j wj;
          marked_split = two_other p.marked_split b p.count e z j m (λ q. omega arith);
          end = two_other p.end b p.count e z j m (λ q. omega arith);
        }

    -- ---- a block is the new one, block b, or another
    by_block : (P : ℕ → Type 0) → P p.count → P b → ((j : ℕ) → j < p.count → (j ≡ b → ⊥) → P j) → (j : ℕ) → j < p.count + 1 → P j
    by_block P new old other j wj =
        ⊎_elim (λ (q : j ≡ p.count). subst P (sym q) new)
        (λ (m : j ≡ p.count → ⊥). ⊎_elim (λ (q : j ≡ b). subst P (sym q) old) (λ (m' : j ≡ b → ⊥). other j (omega arith) m')
        (same_or_not j b))
        (same_or_not j p.count)

    bounds : (j : ℕ) → j < p.count + 1
        → Within (get_or (cut p b e).begin j 0) (get_or (cut p b e).marked_split j 0) (get_or (cut p b e).end j 0) p.n
    bounds =
        let i = h.bounds b w in
        let new = cut_new in
        let old = cut_old in
        by_block (λ j. Within (get_or (cut p b e).begin j 0) (get_or (cut p b e).marked_split j 0) (get_or (cut p b e).end j 0) p.n)
        (record {
          some = omega (arith, new);
          from = omega (arith, new);
          to = omega (arith, new);
          most = omega (arith, new, i.most);
        })
        (record {
          some = omega (arith, old);
          from = omega (arith, old);
          to = omega (arith, old);
          most = omega (arith, old, i.most);
        })
        (λ j wj m.
        let v = h.bounds j wj in
        let same = cut_other j wj m in
        record {
          some = omega (arith, same, v.some);
          from = omega (arith, same, v.from);
          to = omega (arith, same, v.to);
          most = omega (arith, same, v.most);
        })

    -- where a state stands that is not of the second part
    first_part : (s : ℕ) → s < p.n → (e ≤ get_or p.element_offset s 0 → get_or p.element_offset s 0 < z → ⊥)
        → get_or p.element_offset s 0 < get_or (cut p b e).end (get_or p.element_to_block s 0) 0
    first_part s ws out =
        let v = h.lies s ws in
        ⊎_elim
        (λ (q : get_or p.element_to_block s 0 ≡ b).
        let t : get_or p.element_offset s 0 < z = subst (λ (y : ℕ). get_or p.element_offset s 0 < get_or p.end y 0) q v.to in
        let u : get_or p.element_offset s 0 < e = not-below (λ a. out (omega arith) t) in
        omega (arith, ap (λ (y : ℕ). get_or (cut p b e).end y 0) q, cut_old.end))
        (λ (m : get_or p.element_to_block s 0 ≡ b → ⊥). omega (arith, (cut_other (get_or p.element_to_block s 0) v.known m).end, v.to))
        (same_or_not (get_or p.element_to_block s 0) b)

    lies : (s : ℕ) → s < p.n → Lies (cut p b e) s
    unfolding cut
    lies s ws =
        let B = get_or (cut p b e).element_to_block s 0 in
        ⊎_elim
        (λ (i : (e ≤ get_or p.element_offset s 0) × (get_or p.element_offset s 0 < z)).
        let q : B ≡ p.count = home_in s ws i.0 i.1 in
        record {
          known = omega (arith, q);
          from = omega (arith, ap (λ (y : ℕ). get_or (cut p b e).begin y 0) q, cut_new.begin, i.0);
          to = omega (arith, ap (λ (y : ℕ). get_or (cut p b e).end y 0) q, cut_new.end, i.1);
        })
        (λ (out : e ≤ get_or p.element_offset s 0 → get_or p.element_offset s 0 < z → ⊥).
        let q : B ≡ get_or p.element_to_block s 0 = home_out s ws out in
        let v = h.lies s ws in
        record {
          known = omega (arith, q, v.known);
          from = omega (
            arith,
            ap (λ (y : ℕ). get_or (cut p b e).begin y 0) q,
            begin_old (get_or p.element_to_block s 0) v.known,
            v.from,
          );
          to = omega (arith, ap (λ (y : ℕ). get_or (cut p b e).end y 0) q, first_part s ws out);
        })
        (inside e (get_or p.element_offset s 0) z)

    -- a position of a block's stretch that is not of the second part holds a state of that block
    kept : (j : ℕ) → j < p.count → (k : ℕ) → get_or p.begin j 0 ≤ k → k < get_or p.end j 0 → (e ≤ k → k < z → ⊥) →
        get_or (cut p b e).element_to_block (get_or p.elements k 0) 0 ≡ j
    kept j wj k a y out =
        let wk : k < p.n = omega (arith, (h.bounds j wj).most) in
        let q = h.order.back k wk in
        home_out (get_or p.elements k 0) (h.order.below k wk) (λ f t. out (omega (arith, q)) (omega (arith, q))) ∙ owned p h j k wj a y

    own : (j : ℕ) → j < p.count + 1 → (k : ℕ) → get_or (cut p b e).begin j 0 ≤ k → k < get_or (cut p b e).end j 0
        → get_or (cut p b e).element_to_block (get_or p.elements k 0) 0 ≡ j
    own =
        let new = cut_new in
        let old = cut_old in
        by_block
        (λ j. (k : ℕ) → get_or (cut p b e).begin j 0 ≤ k → k < get_or (cut p b e).end j 0 →
        get_or (cut p b e).element_to_block (get_or p.elements k 0) 0 ≡ j)
        (λ k a y.
        let wk : k < p.n = omega (arith, new, (h.bounds b w).most) in
        let q = h.order.back k wk in
        home_in (get_or p.elements k 0) (h.order.below k wk) (omega (arith, q, new)) (omega (arith, q, new)))
        (λ k a y. kept b w k (omega (arith, old)) (omega (arith, old)) (λ f t. omega (arith, old)))
        (λ j wj m k a y.
        let same = cut_other j wj m in
        let f : get_or p.begin j 0 ≤ k = omega (arith, same) in
        let t : k < get_or p.end j 0 = omega (arith, same) in
        kept j wj k f t (λ u v. m (sym (owned p h j k wj f t) ∙ owned p h b k w (omega arith) v)))

    pub cut_sound : Sound (cut p b e)
    unfolding cut
    cut_sound =
        record {
          small = g.small;
          long = record {
            elements = g.long.elements;
            element_offset = g.long.element_offset;
            element_to_block = omega (
              arith,
              g.long.element_to_block,
              length-renumbered p.elements e p.count p.element_to_block z,
            );
            begin = omega (arith, g.long.begin, length-set p.begin p.count e);
            marked_split = simp length-set g.long.marked_split;
            end = simp length-set g.long.end;
          };
          consistent = record {
            some = omega arith;
            most = omega (arith, room_for);
            order = h.order;
            places = h.places;
            bounds = bounds;
            lies = lies;
            whole = whole_of (cut p b e) h.order bounds lies (λ j k wj. own j wj k);
          };
        }
