-- The marked stretch of a block sifted: each position keeps its block, so the partition stays consistent.
use Rattle.std.specs.Prelude.{◌≡◌, ℕ, ◌+◌, ◌-◌, ◌<◌, ◌≤◌, List, get_or}
use native.Mathlib.Omega.{arith}
use mathlib.Core.Path.{ap, sym, subst, ◌∙◌}
use mathlib.Core.Logic.{⊎_elim}
use Rattle.columns.specs.Inverse.{Inverse}
use Rattle.columns.proofs.Inverses.{other_way}
use Rattle.partition.specs.Partition.{Partition, Consistent, Lies, Sound, reordered}
use Rattle.partition.proofs.Changed.{order_sound}
use Rattle.partition.proofs.Owned.{owned}
use Rattle.partition_split.specs.Split.{sifted_in}
use Rattle.partition_split.proofs.Sieves.{Sieved, sieve, rests, stays, inside}

module _ (p : Partition) (b : ℕ) (c : List ℕ) (g : Sound p) (w : b < p.count) where
  abbrev m : ℕ
  m = get_or p.marked_split b 0

  abbrev z : ℕ
  z = get_or p.end b 0

  abbrev l : List ℕ
  l = (sifted_in p b c).elements

  abbrev o : List ℕ
  o = (sifted_in p b c).element_offset

  abbrev h : Consistent p
  h = g.consistent

  pub sieved : Sieved p.n c p.elements p.element_offset m z (sifted_in p b c)
  unfolding sifted_in
  sieved =
      let i = h.bounds b w in
      let q : m + (z - m) ≡ z = omega (arith, i.to) in
      subst (λ (y : ℕ). Sieved p.n c p.elements p.element_offset m y (sifted_in p b c)) q
      (sieve p.n c (z - m) p.elements p.element_offset m h.order g.long.elements g.long.element_offset
      (omega (arith, i.most)))

  pub sieved_places : Inverse o l p.n
  sieved_places = other_way l o p.n sieved.order

  -- the marked states stand in the marked stretch, as they did
  pub marked_stay : (s : ℕ) → s < p.n → m ≤ get_or p.element_offset s 0 → get_or p.element_offset s 0 < z → (m ≤ get_or o s 0) ×
      (get_or o s 0 < z)
  marked_stay = stays p.n m z p.elements p.element_offset l o h.order sieved_places sieved.outside

  pub marked_stood : (s : ℕ) → s < p.n → m ≤ get_or o s 0 → get_or o s 0 < z → (m ≤ get_or p.element_offset s 0) ×
      (get_or p.element_offset s 0 < z)
  marked_stood = stays p.n m z l o p.elements p.element_offset sieved.order h.places (λ k out. sym (sieved.outside k out))

  -- and all others stand where they stood
  pub unmoved : (s : ℕ) → s < p.n → (m ≤ get_or p.element_offset s 0 → get_or p.element_offset s 0 < z → ⊥) →
      get_or o s 0 ≡ get_or p.element_offset s 0
  unmoved = rests p.n m z l o p.elements p.element_offset sieved.order h.places (λ k out. sym (sieved.outside k out))

  -- a marked state is of block b
  pub marked_home : (s : ℕ) → s < p.n → m ≤ get_or p.element_offset s 0 → get_or p.element_offset s 0 < z →
      get_or p.element_to_block s 0 ≡ b
  marked_home s ws a y =
      ap (λ (t : ℕ). get_or p.element_to_block t 0) (sym (h.places.back s ws))
      ∙ owned p h b (get_or p.element_offset s 0) w (omega (arith, (h.bounds b w).from)) y

  -- each position holds a state of the block that it did
  pub same_home : (k : ℕ) → k < p.n → get_or p.element_to_block (get_or l k 0) 0 ≡ get_or p.element_to_block (get_or p.elements k 0) 0
  same_home k wk =
      ⊎_elim
      (λ (i : (m ≤ k) × (k < z)).
      let q = sieved.order.back k wk in
      let s = marked_stood (get_or l k 0) (sieved.order.below k wk) (omega (arith, q, i.0)) (omega (arith, q, i.1)) in
      marked_home (get_or l k 0) (sieved.order.below k wk) s.0 s.1 ∙
      sym (owned p h b k w (omega (arith, (h.bounds b w).from, i.0)) i.1))
      (λ (out : m ≤ k → k < z → ⊥). ap (λ (t : ℕ). get_or p.element_to_block t 0) (sieved.outside k out)) (inside m k z)

  lies : (s : ℕ) → s < p.n → Lies (reordered p l o) s
  lies s ws =
      let k = get_or o s 0 in
      let wk = sieved_places.below s ws in
      let t = get_or p.elements k 0 in
      let v = h.lies t (h.order.below k wk) in
      let y = h.order.back k wk in
      let q : get_or p.element_to_block t 0 ≡ get_or p.element_to_block s 0
      = sym (same_home k wk) ∙ ap (λ (u : ℕ). get_or p.element_to_block u 0) (sieved_places.back s ws) in
      record {
        known = omega (arith, v.known, q);
        from = subst (λ (u : ℕ). get_or p.begin u 0 ≤ k) q (omega (arith, v.from, y));
        to = subst (λ (u : ℕ). k < get_or p.end u 0) q (omega (arith, v.to, y));
      }

  pub reordered_sound : Sound (reordered p l o)
  reordered_sound =
      order_sound p g l o (omega (arith, g.long.elements, sieved.long)) (omega (arith, g.long.element_offset, sieved.long_offset))
      sieved.order sieved_places lies
