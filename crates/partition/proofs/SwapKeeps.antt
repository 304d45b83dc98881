-- Exchanging two blocks of a consistent partition leaves it consistent.
use Prim.Native.Nat.{ℕ, ◌≤◌, ◌<◌}
use native.Mathlib.Omega.{arith}
use mathlib.Core.Path.{◌≡◌, refl, ap, sym, ◌∙◌}
use mathlib.Core.Logic.{⊎_elim}
use mathlib.Core.List.{List}
use lib.ListN.{length, get_or}
use Rattle.columns.specs.Columns.{swapped}
use Rattle.columns.proofs.All.{same_or_not}
use Rattle.columns.proofs.Lists.{length-written, written_at}
use Rattle.columns.proofs.Swaps.{swapped_i, swapped_j, swapped_other, length-swapped}
use Rattle.partition.specs.Partition.{Partition, Consistent, Long, Within, Lies}
use Rattle.partition.specs.SwapBlocks.{exchange, swap}
use Rattle.partition.proofs.Owned.{owned}
use Rattle.partition.proofs.SwapLaws.{exchange-left, exchange_right, exchange_other}
use Rattle.partition.proofs.Whole.{whole_of}

module _ (l r : ℕ) where
  pub exchange_twice : (j : ℕ) → exchange l r (exchange l r j) ≡ j
  exchange_twice j =
      ⊎_elim
      (λ (e : j ≡ l).
      ap (exchange l r) (exchange-left l r j e)
      ∙ ⊎_elim (λ (q : r ≡ l). exchange-left l r r q ∙ q ∙ sym e) (λ (m : r ≡ l → ⊥). exchange_right l r r m refl ∙ sym e)
      (same_or_not r l))
      (λ (m : j ≡ l → ⊥).
      ⊎_elim (λ (e : j ≡ r). ap (exchange l r) (exchange_right l r j m e) ∙ exchange-left l r l refl ∙ sym e)
      (λ (m' : j ≡ r → ⊥). ap (exchange l r) (exchange_other l r j m m') ∙ exchange_other l r j m m') (same_or_not j r))
      (same_or_not j l)

  pub exchange_only : (i j : ℕ) → exchange l r i ≡ exchange l r j → i ≡ j
  exchange_only i j e = sym (exchange_twice i) ∙ ap (exchange l r) e ∙ exchange_twice j

  pub exchange-below : (c j : ℕ) → l < c → r < c → j < c → exchange l r j < c
  exchange-below c j hl hr hj =
      ⊎_elim (λ e. omega (arith, exchange-left l r j e))
      (λ m. ⊎_elim (λ e. omega (arith, exchange_right l r j m e)) (λ m'. omega (arith, exchange_other l r j m m')) (same_or_not j r))
      (same_or_not j l)

  -- a cell of an exchanged column is the exchanged cell
  pub swapped_at : (c : List ℕ) (j : ℕ) → l < length c → r < length c → get_or (swapped l r c) j 0 ≡ get_or c (exchange l r j) 0
  swapped_at c j hl hr =
      ⊎_elim
      (λ (e : j ≡ l). ap (λ (x : ℕ). get_or (swapped l r c) x 0) e ∙ swapped_i c l r hl hr ∙
      ap (λ (x : ℕ). get_or c x 0) (sym (exchange-left l r j e)))
      (λ (m : j ≡ l → ⊥).
      ⊎_elim
      (λ (e : j ≡ r). ap (λ (x : ℕ). get_or (swapped l r c) x 0) e ∙ swapped_j c l r hl hr ∙
      ap (λ (x : ℕ). get_or c x 0) (sym (exchange_right l r j m e)))
      (λ (m' : j ≡ r → ⊥). swapped_other c l r hl hr j m m' ∙ ap (λ (x : ℕ). get_or c x 0) (sym (exchange_other l r j m m')))
      (same_or_not j r))
      (same_or_not j l)

module _ (p : Partition) (h : Consistent p) (g : Long p) (l r : ℕ) (hl : l < p.count) (hr : r < p.count) where
  pub swap_block : (s : ℕ) → s < p.n → get_or (swap p l r).element_to_block s 0 ≡ exchange l r (get_or p.element_to_block s 0)
  unfolding swap
  swap_block s w = written_at p.n (λ s. exchange l r (get_or p.element_to_block s 0)) p.element_to_block s w

  pub swap_begin : (j : ℕ) → get_or (swap p l r).begin j 0 ≡ get_or p.begin (exchange l r j) 0
  unfolding swap
  swap_begin j = swapped_at l r p.begin j (omega (arith, h.most, g.begin)) (omega (arith, h.most, g.begin))

  pub swap-split : (j : ℕ) → get_or (swap p l r).marked_split j 0 ≡ get_or p.marked_split (exchange l r j) 0
  unfolding swap
  swap-split j = swapped_at l r p.marked_split j (omega (arith, h.most, g.marked_split)) (omega (arith, h.most, g.marked_split))

  pub swap_end : (j : ℕ) → get_or (swap p l r).end j 0 ≡ get_or p.end (exchange l r j) 0
  unfolding swap
  swap_end j = swapped_at l r p.end j (omega (arith, h.most, g.end)) (omega (arith, h.most, g.end))

  bounds : (j : ℕ) → j < p.count
      → Within (get_or (swap p l r).begin j 0) (get_or (swap p l r).marked_split j 0) (get_or (swap p l r).end j 0) p.n
  bounds j w =
      let i = h.bounds (exchange l r j) (exchange-below l r p.count j hl hr w) in
      record {
        some = omega (arith, i.some, swap_begin j, swap_end j);
        from = omega (arith, i.from, swap_begin j, swap-split j);
        to = omega (arith, i.to, swap-split j, swap_end j);
        most = omega (arith, i.most, swap_end j);
      }

  lies : (s : ℕ) → s < p.n → Lies (swap p l r) s
  unfolding swap
  lies s w =
      let i = h.lies s w in
      let B = get_or p.element_to_block s 0 in
      let e = swap_block s w in
      let x : get_or (swap p l r).begin (get_or (swap p l r).element_to_block s 0) 0 ≡ get_or p.begin B 0
      = ap (λ (y : ℕ). get_or (swap p l r).begin y 0) e ∙ swap_begin (exchange l r B) ∙
      ap (λ (y : ℕ). get_or p.begin y 0) (exchange_twice l r B) in
      let z : get_or (swap p l r).end (get_or (swap p l r).element_to_block s 0) 0 ≡ get_or p.end B 0
      = ap (λ (y : ℕ). get_or (swap p l r).end y 0) e ∙ swap_end (exchange l r B) ∙
      ap (λ (y : ℕ). get_or p.end y 0) (exchange_twice l r B) in
      record {
        known = omega (arith, e, exchange-below l r p.count B hl hr i.known);
        from = omega (arith, x, i.from);
        to = omega (arith, z, i.to);
      }

  own : (j k : ℕ) → j < p.count → get_or (swap p l r).begin j 0 ≤ k → k < get_or (swap p l r).end j 0
      → get_or (swap p l r).element_to_block (get_or p.elements k 0) 0 ≡ j
  own j k w f t =
      let wj = exchange-below l r p.count j hl hr w in
      let kn : k < p.n = omega (arith, t, swap_end j, (h.bounds (exchange l r j) wj).most) in
      swap_block (get_or p.elements k 0) (h.order.below k kn)
      ∙ ap (exchange l r) (owned p h (exchange l r j) k wj (omega (arith, f, swap_begin j)) (omega (arith, t, swap_end j)))
      ∙ exchange_twice l r j

  pub swap_consistent : Consistent (swap p l r)
  unfolding swap
  swap_consistent =
      record {
        some = h.some;
        most = h.most;
        order = h.order;
        places = h.places;
        bounds = bounds;
        lies = lies;
        whole = whole_of (swap p l r) h.order bounds lies own;
      }

  pub swap_long : Long (swap p l r)
  unfolding swap
  swap_long =
      record {
        elements = g.elements;
        element_offset = g.element_offset;
        element_to_block = omega (
          arith,
          g.element_to_block,
          length-written p.n (λ s. exchange l r (get_or p.element_to_block s 0))
              p.element_to_block g.element_to_block,
        );
        begin = omega (arith, g.begin, length-swapped l r p.begin);
        marked_split = omega (arith, g.marked_split, length-swapped l r p.marked_split);
        end = omega (arith, g.end, length-swapped l r p.end);
      }
