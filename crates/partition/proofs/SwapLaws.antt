-- Exchanging two blocks: renumbering the two stretches renumbers the states of the two blocks, and consistency is kept.
use Prim.Native.Nat.{ℕ, ◌≤◌, ◌<◌}
use native.Mathlib.Omega.{arith}
use borrow.Author.Tests.{eq-eqb, ne_eqb}
use mathlib.Core.Path.{◌≡◌, ap, sym, subst, ◌∙◌}
use mathlib.Core.Logic.{⊎_elim}
use mathlib.Core.List.{List}
use lib.ListN.{length, get_or}
use lib.Seq.{ext_get_or}
use Rattle.columns.specs.Columns.{swapped, written}
use Rattle.columns.proofs.All.{same_or_not, lt-or-le}
use Rattle.columns.proofs.Lists.{length-written, written_at, written_after}
use Rattle.partition.specs.Partition.{Partition, Consistent, Long, Sound}
use Rattle.partition.specs.SwapBlocks.{exchange, renumbered, swap}
use Rattle.partition.specs.Cores.{Blocks, blocks, blocks_of, with_blocks, swap_in, Swappable}
use Rattle.partition.proofs.Owned.{owned}
use Rattle.partition.proofs.Renumbering.{length-renumbered, renumbered_in, renumbered_out}

module _ (l r b : ℕ) where
  pub exchange-left : b ≡ l → exchange l r b ≡ r
  unfolding exchange
  exchange-left e = rw (eq-eqb b l e)

  pub exchange_right : (b ≡ l → ⊥) → b ≡ r → exchange l r b ≡ l
  unfolding exchange
  exchange_right m e = rw (ne_eqb b l m, eq-eqb b r e)

  pub exchange_other : (b ≡ l → ⊥) → (b ≡ r → ⊥) → exchange l r b ≡ b
  unfolding exchange
  exchange_other m m' = rw (ne_eqb b l m, ne_eqb b r m')

module _ (p : Partition) (h : Consistent p) where
  -- a state of another block stands at none of a block's places
  pub not_there : (j s k : ℕ) → j < p.count → (get_or p.element_to_block s 0 ≡ j → ⊥) → get_or p.begin j 0 ≤ k → k < get_or p.end j 0 →
      get_or p.elements k 0 ≡ s → ⊥
  not_there j s k w m a z q = m (ap (λ (x : ℕ). get_or p.element_to_block x 0) (sym q) ∙ owned p h j k w a z)

  -- a state of block j stands at its offset, in the stretch
  pub there : (j s : ℕ) → s < p.n → get_or p.element_to_block s 0 ≡ j
      → (get_or p.begin j 0 ≤ get_or p.element_offset s 0) ×
      ((get_or p.element_offset s 0 < get_or p.end j 0) × (get_or p.elements (get_or p.element_offset s 0) 0 ≡ s))
  there j s w e =
      let v = h.lies s w in (
        subst (λ (x : ℕ). get_or p.begin x 0 ≤ get_or p.element_offset s 0) e v.from,
        (subst (λ (x : ℕ). get_or p.element_offset s 0 < get_or p.end x 0) e v.to, h.places.back s w),
      )

module _ (p : Partition) (h : Consistent p) (g : Long p) (l r : ℕ) (hl : l < p.count) (hr : r < p.count) where
  once : List ℕ
  once = renumbered p.elements (get_or p.begin r 0) (get_or p.end r 0) l p.element_to_block

  twice : List ℕ
  twice = renumbered p.elements (get_or p.begin l 0) (get_or p.end l 0) r once

  lo : length once ≡ length p.element_to_block
  unfolding once
  lo = length-renumbered p.elements (get_or p.begin r 0) l p.element_to_block (get_or p.end r 0)

  lt : length twice ≡ length once
  unfolding twice
  lt = length-renumbered p.elements (get_or p.begin l 0) r once (get_or p.end l 0)

  once_out : (s : ℕ) → ((k : ℕ) → get_or p.begin r 0 ≤ k → k < get_or p.end r 0 → get_or p.elements k 0 ≡ s → ⊥) →
      get_or once s 0 ≡ get_or p.element_to_block s 0
  unfolding once
  once_out s = renumbered_out p.elements (get_or p.begin r 0) l p.element_to_block (get_or p.end r 0) s

  twice_out : (s : ℕ) → ((k : ℕ) → get_or p.begin l 0 ≤ k → k < get_or p.end l 0 → get_or p.elements k 0 ≡ s → ⊥) →
      get_or twice s 0 ≡ get_or once s 0
  unfolding twice
  twice_out s = renumbered_out p.elements (get_or p.begin l 0) r once (get_or p.end l 0) s

  to : ℕ → ℕ
  to s = exchange l r (get_or p.element_to_block s 0)

  low : (s : ℕ) → s < p.n → get_or twice s 0 ≡ to s
  unfolding to once twice
  low s w =
      ⊎_elim
      (λ (e : get_or p.element_to_block s 0 ≡ l).
      let t = there p h l s w e in
      renumbered_in p.elements (get_or p.begin l 0) r once (get_or p.end l 0) (get_or p.element_offset s 0) s t.0 t.1.0
      t.1.1 (omega (arith, lo, g.element_to_block))
      ∙ sym (exchange-left l r (get_or p.element_to_block s 0) e))
      (λ (m : get_or p.element_to_block s 0 ≡ l → ⊥).
      twice_out s (λ k a z q. not_there p h l s k hl m a z q)
      ∙ ⊎_elim
      (λ (e : get_or p.element_to_block s 0 ≡ r).
      let t = there p h r s w e in
      renumbered_in p.elements (get_or p.begin r 0) l p.element_to_block (get_or p.end r 0) (get_or p.element_offset s 0) s t.0
      t.1.0 t.1.1 (omega (arith, g.element_to_block))
      ∙ sym (exchange_right l r (get_or p.element_to_block s 0) m e))
      (λ (m' : get_or p.element_to_block s 0 ≡ r → ⊥).
      once_out s (λ k a z q. not_there p h r s k hr m' a z q) ∙ sym (exchange_other l r (get_or p.element_to_block s 0) m m'))
      (same_or_not (get_or p.element_to_block s 0) r))
      (same_or_not (get_or p.element_to_block s 0) l)

  beyond : (j s k : ℕ) → j < p.count → p.n ≤ s → k < get_or p.end j 0 → get_or p.elements k 0 ≡ s → ⊥
  beyond j s k wj w z q = omega (arith, (h.bounds j wj).most, h.order.below k (omega (arith, (h.bounds j wj).most)))

  high : (s : ℕ) → p.n ≤ s → get_or twice s 0 ≡ get_or p.element_to_block s 0
  high s w = twice_out s (λ k a z q. beyond l s k hl w z q) ∙ once_out s (λ k a z q. beyond r s k hr w z q)

  cell : (s : ℕ) → get_or twice s 0 ≡ get_or (written p.n to p.element_to_block) s 0
  cell s =
      ⊎_elim (λ (w : s < p.n). low s w ∙ sym (written_at p.n to p.element_to_block s w))
      (λ (w : p.n ≤ s). high s w ∙ sym (written_after p.n to p.element_to_block s w)) (lt-or-le s p.n)

  pub renumbers :
      renumbered p.elements (get_or p.begin l 0) (get_or p.end l 0) r
      (renumbered p.elements (get_or p.begin r 0) (get_or p.end r 0) l p.element_to_block)
      ≡ written p.n (λ s. exchange l r (get_or p.element_to_block s 0)) p.element_to_block
  unfolding once twice to
  renumbers = ext_get_or 0 twice (written p.n to p.element_to_block)
      (lt ∙ lo ∙ sym (length-written p.n to p.element_to_block g.element_to_block)) (λ s w. cell s)

-- two blocks of a sound partition can be exchanged
pub swappable : (p : Partition) → Sound p → (b : ℕ) → b < p.count → Swappable p.elements (blocks_of p) b
swappable p s b w =
    let h = s.consistent in
    let g = s.long in
    let i = h.bounds b w in
    record {
      begin = omega (arith, h.most, g.begin);
      marked_split = omega (arith, h.most, g.marked_split);
      end = omega (arith, h.most, g.end);
      small = omega (arith, h.most, s.small);
      from = omega (arith, i.some);
      to = omega (arith, i.most, g.elements);
      states = λ k m. omega (arith, h.order.below k (omega (arith, m, i.most)), g.element_to_block);
    }

-- a partition's columns with two blocks exchanged are the partition with the two exchanged
pub swap_done : (p : Partition) → Sound p → (l r : ℕ) → l < p.count → r < p.count
    → (c : Blocks) → c ≡ swap_in p.elements (blocks_of p) l r → with_blocks p c ≡ swap p l r
unfolding swap swap_in
swap_done p s l r hl hr c e =
    ap (with_blocks p) e ∙
    ap (λ (x : List ℕ). with_blocks p (blocks x (swapped l r p.begin) (swapped l r p.marked_split) (swapped l r p.end)))
    (renumbers p s.consistent s.long l r hl hr)

-- ---- the exchange, by what the code has read and left
module _ (e : List ℕ) (c : Blocks) where
  pub swap_columns :
      (l r xl zl xr zr : ℕ)
      → xl ≡ get_or c.begin l 0 → zl ≡ get_or c.end l 0 → xr ≡ get_or c.begin r 0 → zr ≡ get_or c.end r 0
      → (bg sp en b1 b2 : List ℕ) → bg ≡ swapped l r c.begin → sp ≡ swapped l r c.marked_split → en ≡ swapped l r c.end
      → b1 ≡ renumbered e xr zr l c.element_to_block → b2 ≡ renumbered e xl zl r b1 → blocks b2 bg sp en ≡ swap_in e c l r
  unfolding swap_in
  swap_columns l r xl zl xr zr e1 e2 e3 e4 bg sp en b1 b2 q1 q2 q3 q4 q5 = rw (q5, q4, q3, q2, q1, e1, e2, e3, e4)

  -- what `renumber` asks of a block's stretch
  pub swap-reads :
      (b v x z : ℕ) → Swappable e c b → v < 65536 → x ≡ get_or c.begin b 0 → z ≡ get_or c.end b 0
      → (l : List ℕ) → length l ≡ length c.element_to_block
      → ((x ≤ z) × (z ≤ length e) × (v < 65536)) × ((k : ℕ) → k < z → get_or e k 0 < length l)
  swap-reads b v x z s w ex ez l el =
      ((omega (arith, s.from), omega (arith, s.to), w), λ k m. omega (arith, s.states k (omega (arith, m)), el))
