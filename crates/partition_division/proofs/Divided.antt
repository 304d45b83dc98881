-- What `divided` leaves, cell by cell; and it leaves a consistent partition.
use Rattle.std.specs.Prelude.{◌≡◌, ℕ, zero, suc, ◌+◌, ◌-◌, ◌<◌, ◌≤◌, Bool, true, false, ltb, ◌⊎◌, List, get_or, set}
use native.Mathlib.Omega.{arith}
use borrow.Author.Tests.{lt-ltb, ltb-true}
use mathlib.Core.Path.{refl, ap, sym, subst, ◌∙◌}
use mathlib.Core.Logic.{inl, inr, ⊎_elim}
use lib.ListN.{length-set}
use lib.Seq.{get_or-set_other}
use Rattle.columns.proofs.Lists.{set_here}
use Rattle.columns.specs.Inverse.{Inverse}
use Rattle.columns.proofs.All.{same_or_not, lt-or-le}
use Rattle.columns.proofs.Bools.{cases, contra}
use Rattle.columns.proofs.Inverses.{other_way}
use Rattle.columns.proofs.Stores.{stores_hit, stores_miss, length-stores}
use Rattle.partition_passes.proofs.PassLaws.{by_end, by_zero, by_new}
use Rattle.partition_division.specs.Divide.{start, position, has_unmarked_at, home, divided}
use Rattle.partition_division.specs.Marked.{missing, denseb}
use Rattle.partition.specs.Marked.{marked_in}
use Rattle.partition.specs.Partition.{Partition, Consistent, Long, Within, Lies}
use Rattle.partition_division.proofs.Marked.{
  start_mono,
  start-zero,
  start_less,
  dense_below,
  place_only,
  marked_there,
  start_most,
  start_last,
  place_from,
  place_to,
  place_least,
  place_most,
}
use Rattle.partition.proofs.Marked.{marked_of}
use Rattle.partition.proofs.Owned.{owned}
use Rattle.partition.proofs.Whole.{whole_of, room}

-- ---- home, the block of a number
module _ (p : Partition) (b k : ℕ) where
  pub home_end : has_unmarked_at p b ≡ true → home p b k ≡ p.count + k
  unfolding home
  home_end u = sym (by_end (has_unmarked_at p b) p.count b k u)

  pub home-zero : has_unmarked_at p b ≡ false → k ≡ 0 → home p b k ≡ b
  unfolding home
  home-zero u e = sym (by_zero (has_unmarked_at p b) p.count b k u e)

  pub home_new : has_unmarked_at p b ≡ false → (k ≡ 0 → ⊥) → home p b k ≡ p.count + k - 1
  unfolding home
  home_new u e = sym (by_new (has_unmarked_at p b) p.count b k u e)

  pub home_where : 1 ≤ p.count → ((home p b k ≡ b) × ((has_unmarked_at p b ≡ false) × (k ≡ 0))) ⊎ (p.count ≤ home p b k)
  home_where h =
      ⊎_elim (λ u. inr (omega (arith, home_end u)))
      (λ u.
      ⊎_elim (λ e. inl (home-zero u e, (u, e))) (λ m. inr (omega (arith, home_new u m, m))) (same_or_not k 0))
      (cases (has_unmarked_at p b))

module _ (p : Partition) (b : ℕ) (h : 1 ≤ p.count) (hb : b < p.count) where
  pub home_only : (j k : ℕ) → home p b j ≡ home p b k → j ≡ k
  home_only j k e =
      ⊎_elim (λ u. omega (arith, home_end p b j u, home_end p b k u, e))
      (λ u.
      ⊎_elim
      (λ (a : j ≡ 0).
      ⊎_elim (λ (c : k ≡ 0). omega (arith, a, c)) (λ (c : k ≡ 0 → ⊥). absurd (omega (arith, home-zero p b j u a, home_new p b k u c, e, c)))
      (same_or_not k 0))
      (λ (a : j ≡ 0 → ⊥).
      ⊎_elim (λ (c : k ≡ 0). absurd (omega (arith, home_new p b j u a, home-zero p b k u c, e, a)))
      (λ (c : k ≡ 0 → ⊥). omega (arith, home_new p b j u a, home_new p b k u c, e, a, c)) (same_or_not k 0))
      (same_or_not j 0))
      (cases (has_unmarked_at p b))

  pub home_grows : (k m : ℕ) → k < m → home p b k < home p b m
  home_grows k m w =
      ⊎_elim (λ u. omega (arith, home_end p b k u, home_end p b m u))
      (λ u.
      ⊎_elim (λ (a : k ≡ 0). omega (arith, home-zero p b k u a, home_new p b m u (λ q. omega (arith, w, q))))
      (λ (a : k ≡ 0 → ⊥). omega (arith, home_new p b k u a, home_new p b m u (λ q. omega (arith, w, q)), a)) (same_or_not k 0))
      (cases (has_unmarked_at p b))

-- a block of the divided partition: that of a number, or one of old
record Newly (p : Partition) (b : ℕ) (v : List ℕ) (j : ℕ) : Type 0 where
  number : ℕ
  small : number < missing p b v
  is : home p b number ≡ j

record Still (p : Partition) (b : ℕ) (j : ℕ) : Type 0 where
  known : j < p.count
  apart : (k : ℕ) → home p b k ≡ j → ⊥
  kept : j ≡ b → has_unmarked_at p b ≡ true

module _ (p : Partition) (b : ℕ) (v : List ℕ) (h : Consistent p) (g : Long p) (hb : b < p.count)
    (mk : get_or p.marked_split b 0 < get_or p.end b 0) (d : denseb p b v ≡ true) where
  pub some_number : 0 < missing p b v
  some_number =
      ⊎_elim (λ (l : 0 < missing p b v). l)
      (λ (l : missing p b v ≤ 0).
      let e : missing p b v ≡ 0 = omega (arith, l) in
      absurd (omega (arith, mk, start_last p b v h hb d, start-zero p b v, ap (start p b v) e)))
      (lt-or-le 0 (missing p b v))

  pub steps : (k : ℕ) → k ≤ missing p b v → get_or p.marked_split b 0 + k ≤ start p b v k
  steps zero w = omega (arith, start-zero p b v)
  steps (suc k) w =
      omega (arith, steps k (omega arith), start_less p b v k (omega arith), ap (start p b v) (one_more k))
    where
      one_more : (k : ℕ) → k + 1 ≡ suc k
      one_more k = omega arith

  -- there is room for the new blocks
  pub count_most : home p b (missing p b v) ≤ p.n
  unfolding has_unmarked_at
  count_most =
      let r = room p h b hb in
      let s = steps (missing p b v) (omega arith) in
      let l = start_last p b v h hb d in
      let w = h.bounds b hb in
      ⊎_elim (λ u. omega (
        arith,
        home_end p b (missing p b v) u,
        ltb-true (get_or p.begin b 0) (get_or p.marked_split b 0) u,
        w.some,
        r,
        s,
        l,
        h.some,
      ))
      (λ u. omega (
        arith,
        home_new p b (missing p b v) u (λ q. omega (arith, some_number, q)),
        w.from,
        w.some,
        r,
        s,
        l,
        h.some,
        some_number,
      ))
      (cases (ltb (get_or p.begin b 0) (get_or p.marked_split b 0)))

  pub count_more : p.count ≤ home p b (missing p b v)
  count_more =
      ⊎_elim (λ x. absurd (omega (arith, x.1.1, some_number))) (λ x. x) (home_where p b (missing p b v) h.some)

  pub home_known : (k : ℕ) → k < missing p b v → home p b k < p.n
  home_known k w = omega (arith, home_grows p b h.some hb k (missing p b v) w, count_most)

  kind : (j : ℕ) → j < home p b (missing p b v) → Newly p b v j ⊎ Still p b j
  kind j w =
      ⊎_elim
      (λ (o : j < p.count).
      ⊎_elim
      (λ (e : j ≡ b).
      ⊎_elim
      (λ (u : has_unmarked_at p b ≡ true).
      inr (record { known = o; apart = λ k q. omega (arith, o, q, home_end p b k u); kept = λ _. u }))
      (λ (u : has_unmarked_at p b ≡ false). inl (record { number = 0; small = some_number; is = home-zero p b 0 u refl ∙ sym e }))
      (cases (has_unmarked_at p b)))
      (λ (m : j ≡ b → ⊥).
      inr (record {
        known = o;
        apart = λ k q. ⊎_elim (λ x. m (sym q ∙ x.0)) (λ x. omega (arith, o, q, x)) (home_where p b k h.some);
        kept = λ e. absurd (m e);
      }))
      (same_or_not j b))
      (λ (o : p.count ≤ j).
      ⊎_elim
      (λ (u : has_unmarked_at p b ≡ true).
      inl (record {
        number = j - p.count;
        small = omega (arith, w, o, home_end p b (missing p b v) u);
        is = home_end p b (j - p.count) u ∙ omega (arith, o);
      }))
      (λ (u : has_unmarked_at p b ≡ false).
      inl (record {
        number = j - p.count + 1;
        small = omega (arith, w, o, home_new p b (missing p b v) u (λ q. omega (arith, some_number, q)));
        is = home_new p b (j - p.count + 1) u (λ q. omega arith) ∙ omega (arith, o);
      }))
      (cases (has_unmarked_at p b)))
      (lt-or-le j p.count)

  -- ---- the table's cells
  always : ℕ → Bool
  always _ = true

  module _ (k : ℕ) (w : k < missing p b v) where
    pub begin_new : get_or (divided p b v).begin (home p b k) 0 ≡ start p b v k
    unfolding divided
    begin_new =
        stores_hit (λ _. true) (home p b) (start p b v) (missing p b v) p.begin (home p b k) (start p b v k) k
        (omega (arith, home_known k w, g.begin)) w refl refl
        (λ t _ _ q. ap (start p b v) (home_only p b h.some hb t k q))

    pub split_new : get_or (divided p b v).marked_split (home p b k) 0 ≡ start p b v (k + 1)
    unfolding divided
    split_new =
        stores_hit (λ _. true) (home p b) (λ k. start p b v (k + 1)) (missing p b v) p.marked_split (home p b k) (start p b v (k + 1)) k
        (omega (arith, home_known k w, g.marked_split)) w refl refl
        (λ t _ _ q. ap (λ (x : ℕ). start p b v (x + 1)) (home_only p b h.some hb t k q))

    pub end_new : get_or (divided p b v).end (home p b k) 0 ≡ start p b v (k + 1)
    unfolding divided
    end_new =
        stores_hit (λ _. true) (home p b) (λ k. start p b v (k + 1)) (missing p b v) (set p.end b (get_or p.marked_split b 0))
        (home p b k) (start p b v (k + 1)) k
        (omega (arith, home_known k w, g.end, length-set p.end b (get_or p.marked_split b 0))) w refl refl
        (λ t _ _ q. ap (λ (x : ℕ). start p b v (x + 1)) (home_only p b h.some hb t k q))

  module _ (j : ℕ) (a : (k : ℕ) → home p b k ≡ j → ⊥) where
    pub begin_still : get_or (divided p b v).begin j 0 ≡ get_or p.begin j 0
    unfolding divided
    begin_still = stores_miss (λ _. true) (home p b) (start p b v) (missing p b v) p.begin j (λ k _ _ q. a k q)

    pub split_still : get_or (divided p b v).marked_split j 0 ≡ get_or p.marked_split j 0
    unfolding divided
    split_still = stores_miss (λ _. true) (home p b) (λ k. start p b v (k + 1)) (missing p b v) p.marked_split j (λ k _ _ q. a k q)

    pub end_still : (j ≡ b → ⊥) → get_or (divided p b v).end j 0 ≡ get_or p.end j 0
    unfolding divided
    end_still m =
        stores_miss (λ _. true) (home p b) (λ k. start p b v (k + 1)) (missing p b v) (set p.end b (get_or p.marked_split b 0)) j
        (λ k _ _ q. a k q)
        ∙ get_or-set_other p.end b j (get_or p.marked_split b 0) 0 m

    end_left : j ≡ b → get_or (divided p b v).end j 0 ≡ get_or p.marked_split b 0
    unfolding divided
    end_left e =
        stores_miss (λ _. true) (home p b) (λ k. start p b v (k + 1)) (missing p b v) (set p.end b (get_or p.marked_split b 0)) j
        (λ k _ _ q. a k q)
        ∙ set_here p.end b (get_or p.marked_split b 0) j (omega (arith, hb, h.most, g.end)) e

  -- ---- the states' cells
  module _ (s : ℕ) (w : s < p.n) where
    pub offset_marked : marked_in p b s ≡ true → get_or (divided p b v).element_offset s 0 ≡ position p b v s
    unfolding divided
    offset_marked y =
        stores_hit (marked_in p b) (λ s. s) (position p b v) p.n p.element_offset s (position p b v s) s
        (omega (arith, g.element_offset)) w y refl
        (λ t _ _ q. ap (position p b v) q)

    pub offset_kept : marked_in p b s ≡ false → get_or (divided p b v).element_offset s 0 ≡ get_or p.element_offset s 0
    unfolding divided
    offset_kept y = stores_miss (marked_in p b) (λ s. s) (position p b v) p.n p.element_offset s
        (λ t _ z q. contra (ap (marked_in p b) (sym q) ∙ z) y)

    pub block_marked : marked_in p b s ≡ true → get_or (divided p b v).element_to_block s 0 ≡ home p b (get_or v s 0)
    unfolding divided
    block_marked y =
        stores_hit (marked_in p b) (λ s. s) (λ s. home p b (get_or v s 0)) p.n p.element_to_block s (home p b (get_or v s 0)) s
        (omega (arith, g.element_to_block)) w y refl
        (λ t _ _ q. ap (λ (x : ℕ). home p b (get_or v x 0)) q)

    pub block_kept : marked_in p b s ≡ false → get_or (divided p b v).element_to_block s 0 ≡ get_or p.element_to_block s 0
    unfolding divided
    block_kept y = stores_miss (marked_in p b) (λ s. s) (λ s. home p b (get_or v s 0)) p.n p.element_to_block s
        (λ t _ z q. contra (ap (marked_in p b) (sym q) ∙ z) y)

    element_marked : marked_in p b s ≡ true → get_or (divided p b v).elements (position p b v s) 0 ≡ s
    unfolding divided
    element_marked y =
        stores_hit (marked_in p b) (position p b v) (λ s. s) p.n p.elements (position p b v s) s s
        (omega (arith, place_most p b v h hb s w y, (h.bounds b hb).most, g.elements)) w y refl
        (λ t wt z q. place_only p b v t s wt w z y q)

    element_kept : marked_in p b s ≡ false → get_or (divided p b v).elements (get_or p.element_offset s 0) 0 ≡ s
    unfolding divided
    element_kept y =
        stores_miss (marked_in p b) (position p b v) (λ s. s) p.n p.elements (get_or p.element_offset s 0)
        (λ t wt z q.
        contra
        (marked_there p b v h hb s w (omega (arith, q, place_least p b v t wt z)) (omega (arith, q, place_most p b v h hb t wt z)))
        y)
        ∙ h.places.back s w

  places : Inverse (divided p b v).element_offset (divided p b v).elements p.n
  places =
      record {
        below = λ s w.
            ⊎_elim (λ y. omega (arith, offset_marked s w y, place_most p b v h hb s w y, (h.bounds b hb).most))
            (λ y. omega (arith, offset_kept s w y, h.places.below s w)) (cases (marked_in p b s));
        back = λ s w.
            ⊎_elim (λ y. ap (λ (x : ℕ). get_or (divided p b v).elements x 0) (offset_marked s w y) ∙ element_marked s w y)
            (λ y. ap (λ (x : ℕ). get_or (divided p b v).elements x 0) (offset_kept s w y) ∙ element_kept s w y)
            (cases (marked_in p b s));
      }

  order : Inverse (divided p b v).elements (divided p b v).element_offset p.n
  order = other_way (divided p b v).element_offset (divided p b v).elements p.n places

  -- ---- a block's stretch: that of a number, that of the unmarked, or as it was
  new_bounds : (k j : ℕ) → k < missing p b v → home p b k ≡ j
      → Within (get_or (divided p b v).begin j 0) (get_or (divided p b v).marked_split j 0) (get_or (divided p b v).end j 0) p.n
  new_bounds k j w e =
      let x : get_or (divided p b v).begin j 0 ≡ start p b v k = ap (λ (y : ℕ). get_or (divided p b v).begin y 0) (sym e) ∙ begin_new k w in
      let y : get_or (divided p b v).marked_split j 0 ≡ start p b v (k + 1) =
      ap (λ (y : ℕ). get_or (divided p b v).marked_split y 0) (sym e) ∙ split_new k w in
      let z : get_or (divided p b v).end j 0 ≡ start p b v (k + 1) = ap (λ (y : ℕ). get_or (divided p b v).end y 0) (sym e) ∙ end_new k w in
      let l = start_less p b v k w in
      let m = start_most p b v h hb (k + 1) in
      record {
        some = omega (arith, x, z, l);
        from = omega (arith, x, y, l);
        to = omega (arith, y, z);
        most = omega (arith, z, m, (h.bounds b hb).most);
      }

  still_bounds : (j : ℕ) → Still p b j
      → Within (get_or (divided p b v).begin j 0) (get_or (divided p b v).marked_split j 0) (get_or (divided p b v).end j 0) p.n
  unfolding has_unmarked_at
  still_bounds j t =
      let x = begin_still j t.apart in
      let y = split_still j t.apart in
      let i = h.bounds j t.known in
      ⊎_elim
      (λ (e : j ≡ b).
      let z = end_left j t.apart e in
      let eb = ap (λ (y : ℕ). get_or p.begin y 0) e in
      let es = ap (λ (y : ℕ). get_or p.marked_split y 0) e in
      let u = ltb-true (get_or p.begin b 0) (get_or p.marked_split b 0) (t.kept e) in
      record {
        some = omega (arith, x, z, eb, u);
        from = omega (arith, x, y, es, eb, u);
        to = omega (arith, y, z, es);
        most = omega (arith, z, mk, (h.bounds b hb).most);
      })
      (λ (m : j ≡ b → ⊥).
      let z = end_still j t.apart m in
      record {
        some = omega (arith, x, z, i.some);
        from = omega (arith, x, y, i.from);
        to = omega (arith, y, z, i.to);
        most = omega (arith, z, i.most);
      })
      (same_or_not j b)

  bounds : (j : ℕ) → j < home p b (missing p b v)
      → Within (get_or (divided p b v).begin j 0) (get_or (divided p b v).marked_split j 0) (get_or (divided p b v).end j 0) p.n
  bounds j w = ⊎_elim (λ t. new_bounds t.number j t.small t.is) (λ t. still_bounds j t) (kind j w)

  -- an unmarked state of block b
  pub unmarked_there : (s : ℕ) → s < p.n → marked_in p b s ≡ false → get_or p.element_to_block s 0 ≡ b
      → (get_or p.begin b 0 ≤ get_or p.element_offset s 0) ×
      ((get_or p.element_offset s 0 < get_or p.marked_split b 0) × (has_unmarked_at p b ≡ true))
  unfolding has_unmarked_at
  unmarked_there s w y e =
      let f : get_or p.begin b 0 ≤ get_or p.element_offset s 0 =
      subst (λ (x : ℕ). get_or p.begin x 0 ≤ get_or p.element_offset s 0) e (h.lies s w).from in
      ⊎_elim (λ (l : get_or p.element_offset s 0 < get_or p.marked_split b 0).
      (f, (l, lt-ltb (get_or p.begin b 0) (get_or p.marked_split b 0) (omega (arith, f, l)))))
      (λ (l : get_or p.marked_split b 0 ≤ get_or p.element_offset s 0). absurd (contra (marked_of p b s e l) y))
      (lt-or-le (get_or p.element_offset s 0) (get_or p.marked_split b 0))

  -- an old block other than b
  other_still : (j : ℕ) → j < p.count → (j ≡ b → ⊥) → Still p b j
  other_still j w m =
      record {
        known = w;
        apart = λ k q. ⊎_elim (λ x. m (sym q ∙ x.0)) (λ x. omega (arith, w, q, x)) (home_where p b k h.some);
        kept = λ e. absurd (m e);
      }

  left_still : has_unmarked_at p b ≡ true → Still p b b
  left_still u = record { known = hb; apart = λ k q. omega (arith, hb, q, home_end p b k u); kept = λ _. u }

  lies : (s : ℕ) → s < p.n → Lies (divided p b v) s
  unfolding divided
  lies s w =
      ⊎_elim
      (λ (y : marked_in p b s ≡ true).
      let k = get_or v s 0 in
      let l = dense_below p b v d s w y in
      lie s (home p b k) (block_marked s w y) (home_grows p b h.some hb k (missing p b v) l)
      (omega (arith, begin_new k l, offset_marked s w y, place_from p b v s w y))
      (omega (arith, end_new k l, offset_marked s w y, place_to p b v s w y)))
      (λ (y : marked_in p b s ≡ false).
      let c = h.lies s w in
      let o = offset_kept s w y in
      ⊎_elim
      (λ (e : get_or p.element_to_block s 0 ≡ b).
      let u = unmarked_there s w y e in
      let t = left_still u.1.1 in
      lie s b (block_kept s w y ∙ e) (omega (arith, hb, count_more)) (omega (arith, begin_still b t.apart, o, u.0))
      (omega (arith, end_left b t.apart refl, o, u.1.0)))
      (λ (m : get_or p.element_to_block s 0 ≡ b → ⊥).
      let t = other_still (get_or p.element_to_block s 0) c.known m in
      lie s (get_or p.element_to_block s 0) (block_kept s w y) (omega (arith, c.known, count_more))
      (omega (arith, begin_still (get_or p.element_to_block s 0) t.apart, o, c.from))
      (omega (arith, end_still (get_or p.element_to_block s 0) t.apart m, o, c.to)))
      (same_or_not (get_or p.element_to_block s 0) b))
      (cases (marked_in p b s))
    where
      lie : (s j : ℕ) → get_or (divided p b v).element_to_block s 0 ≡ j → j < home p b (missing p b v)
          → get_or (divided p b v).begin j 0 ≤ get_or (divided p b v).element_offset s 0
          → get_or (divided p b v).element_offset s 0 < get_or (divided p b v).end j 0 → Lies (divided p b v) s
      lie s j e w f t =
          record {
            known = omega (arith, e, w);
            from = subst (λ (x : ℕ). get_or (divided p b v).begin x 0 ≤ get_or (divided p b v).element_offset s 0) (sym e) f;
            to = subst (λ (x : ℕ). get_or (divided p b v).element_offset s 0 < get_or (divided p b v).end x 0) (sym e) t;
          }

  -- a state that stands in a block's stretch is in the block
  own_state : (j s : ℕ) → j < home p b (missing p b v) → s < p.n
      → get_or (divided p b v).begin j 0 ≤ get_or (divided p b v).element_offset s 0 →
      get_or (divided p b v).element_offset s 0 < get_or (divided p b v).end j 0
      → get_or (divided p b v).element_to_block s 0 ≡ j
  own_state j s w ws f t = ⊎_elim (λ x. in_new x) (λ x. in_still x) (kind j w)
    where
      at_old : (i : ℕ) → i < p.count → get_or p.begin i 0 ≤ get_or p.element_offset s 0 →
          get_or p.element_offset s 0 < get_or p.end i 0 → get_or p.element_to_block s 0 ≡ i
      at_old i wi a c = ap (λ (x : ℕ). get_or p.element_to_block x 0) (sym (h.places.back s ws)) ∙
          owned p h i (get_or p.element_offset s 0) wi a c

      in_new : Newly p b v j → get_or (divided p b v).element_to_block s 0 ≡ j
      in_new x =
          let k = x.number in
          let bg : get_or (divided p b v).begin j 0 ≡ start p b v k = ap (λ (y : ℕ). get_or (divided p b v).begin y 0) (sym x.is) ∙
          begin_new k x.small in
          let en : get_or (divided p b v).end j 0 ≡ start p b v (k + 1) = ap (λ (y : ℕ). get_or (divided p b v).end y 0) (sym x.is) ∙
          end_new k x.small in
          ⊎_elim
          (λ (y : marked_in p b s ≡ true).
          let o = offset_marked s ws y in
          let i = get_or v s 0 in
          let e : i ≡ k
          = ⊎_elim (λ (l : i < k). absurd (omega (arith, f, bg, o, place_to p b v s ws y, start_mono p b v (i + 1) k (omega (arith, l)))))
          (λ (r : k ≤ i).
          ⊎_elim (λ (l : k < i). absurd (omega (arith, t, en, o, place_from p b v s ws y, start_mono p b v (k + 1) i (omega (arith, l)))))
          (λ (l : i ≤ k). omega (arith, r, l)) (lt-or-le k i))
          (lt-or-le i k) in
          block_marked s ws y ∙ ap (home p b) e ∙ x.is)
          (λ (y : marked_in p b s ≡ false).
          let o = offset_kept s ws y in
          absurd
          (contra
          (marked_there p b v h hb s ws (omega (arith, o, f, bg, start-zero p b v, start_mono p b v 0 k (omega arith)))
          (omega (arith, o, t, en, start_most p b v h hb (k + 1))))
          y))
          (cases (marked_in p b s))

      in_still : Still p b j → get_or (divided p b v).element_to_block s 0 ≡ j
      in_still x =
          let bg = begin_still j x.apart in
          ⊎_elim
          (λ (e : j ≡ b).
          let en = end_left j x.apart e in
          let eb = ap (λ (y : ℕ). get_or p.begin y 0) e in
          ⊎_elim (λ (y : marked_in p b s ≡ true). absurd (omega (arith, t, en, offset_marked s ws y, place_least p b v s ws y)))
          (λ (y : marked_in p b s ≡ false).
          let o = offset_kept s ws y in
          block_kept s ws y ∙ at_old b hb (omega (arith, f, bg, eb, o)) (omega (arith, t, en, o, mk)) ∙ sym e)
          (cases (marked_in p b s)))
          (λ (m : j ≡ b → ⊥).
          let en = end_still j x.apart m in
          ⊎_elim
          (λ (y : marked_in p b s ≡ true).
          let o = offset_marked s ws y in
          absurd
          (m
          (sym (owned p h j (position p b v s) x.known (omega (arith, f, bg, o)) (omega (arith, t, en, o)))
          ∙ owned p h b (position p b v s) hb (omega (arith, (h.bounds b hb).from, place_least p b v s ws y))
          (place_most p b v h hb s ws y))))
          (λ (y : marked_in p b s ≡ false).
          let o = offset_kept s ws y in
          block_kept s ws y ∙ at_old j x.known (omega (arith, f, bg, o)) (omega (arith, t, en, o)))
          (cases (marked_in p b s)))
          (same_or_not j b)

  own : (j k : ℕ) → j < home p b (missing p b v) → get_or (divided p b v).begin j 0 ≤ k → k < get_or (divided p b v).end j 0
      → get_or (divided p b v).element_to_block (get_or (divided p b v).elements k 0) 0 ≡ j
  own j k w f t =
      let kn : k < p.n = omega (arith, t, (bounds j w).most) in
      let e = order.back k kn in
      own_state j (get_or (divided p b v).elements k 0) w (order.below k kn) (omega (arith, e, f)) (omega (arith, e, t))

  pub divided_consistent : Consistent (divided p b v)
  unfolding divided
  divided_consistent =
      record {
        some = omega (arith, count_more, h.some);
        most = count_most;
        order = order;
        places = places;
        bounds = bounds;
        lies = lies;
        whole = whole_of (divided p b v) order bounds lies own;
      }

  pub divided_long : Long (divided p b v)
  unfolding divided
  divided_long =
      record {
        elements = omega (arith, g.elements, length-stores (marked_in p b) (position p b v) (λ s. s) p.n p.elements);
        element_offset = omega (
          arith,
          g.element_offset,
          length-stores (marked_in p b) (λ s. s) (position p b v) p.n p.element_offset,
        );
        element_to_block = omega (
          arith,
          g.element_to_block,
          length-stores (marked_in p b) (λ s. s) (λ s. home p b (get_or v s 0)) p.n
              p.element_to_block,
        );
        begin = omega (arith, g.begin, length-stores (λ _. true) (home p b) (start p b v) (missing p b v) p.begin);
        marked_split = omega (
          arith,
          g.marked_split,
          length-stores (λ _. true) (home p b) (λ k. start p b v (k + 1)) (missing p b v)
              p.marked_split,
        );
        end = omega (
          arith,
          g.end,
          length-set p.end b (get_or p.marked_split b 0),
          length-stores (λ _. true) (home p b) (λ k. start p b v (k + 1)) (missing p b v) (set p.end b (get_or p.marked_split b 0)),
        );
      }

  -- the block b and those of the numbers are unmarked
  pub divided-unmarked : (j : ℕ) → (j ≡ b) ⊎ (p.count ≤ j) → j < home p b (missing p b v) →
      get_or (divided p b v).marked_split j 0 ≡ get_or (divided p b v).end j 0
  divided-unmarked j w w' =
      ⊎_elim
      (λ t.
      ap (λ (x : ℕ). get_or (divided p b v).marked_split x 0) (sym t.is)
      ∙ split_new t.number t.small
      ∙ sym (end_new t.number t.small)
      ∙ ap (λ (x : ℕ). get_or (divided p b v).end x 0) t.is)
      (λ t.
      ⊎_elim (λ (e : j ≡ b). split_still j t.apart ∙ ap (λ (x : ℕ). get_or p.marked_split x 0) e ∙ sym (end_left j t.apart e))
      (λ (e : p.count ≤ j). absurd (omega (arith, e, t.known))) w)
      (kind j w')
