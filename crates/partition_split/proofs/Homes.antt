-- Whose block changes: after a split the new block holds the marked and chosen states of block b and nobody else, and every other
-- state has the block that it had. And when a split happens.
use Rattle.std.specs.Prelude.{◌≡◌, ℕ, ◌-◌, ◌<◌, ◌≤◌, Bool, true, false, cond, List, get_or}
use native.Mathlib.Omega.{arith}
use mathlib.Core.Path.{ap, sym, subst, ◌∙◌}
use mathlib.Core.Logic.{⊎_elim}
use Rattle.columns.proofs.All.{lt-or-le, not-below}
use Rattle.columns.proofs.Bools.{cases, contra, fails, and_left, and_right, and_both}
use Rattle.partition.specs.Partition.{Partition, Sound, reordered}
use Rattle.partition.specs.Marked.{marked_in}
use Rattle.partition.proofs.Marked.{marked_block, marked_from_lem, marked_of}
use Rattle.partition.proofs.Owned.{owned}
use Rattle.partition_split.specs.Split.{chosen, Sifted, sifted_in, splitsb, split, taken}
use Rattle.partition_split.proofs.Cutting.{home_in, home_out}
use Rattle.partition_split.proofs.Reordering.{
  sieved,
  sieved_places,
  marked_stay,
  marked_stood,
  marked_home,
  same_home,
  reordered_sound,
}
use Rattle.partition_split.proofs.Sieves.{Sieved, sieve_idle}
use Rattle.partition_split.proofs.Splits.{
  parts_nothing,
  parts_all,
  parts_both,
  sifted_of,
  place_of,
  split_made,
  split_stays,
  apart,
  table_stays,
}

-- ---- `taken` is two tests
module _ (p : Partition) (b : ℕ) (c : List ℕ) (s : ℕ) where
  module _ (t : taken p b c s ≡ true) where
    pub taken_marked : marked_in p b s ≡ true
    unfolding taken
    taken_marked = and_left (marked_in p b s) (chosen c s) t

    pub taken-chosen : chosen c s ≡ true
    unfolding taken
    taken-chosen = and_right (marked_in p b s) (chosen c s) t

  pub is-taken : marked_in p b s ≡ true → chosen c s ≡ true → taken p b c s ≡ true
  unfolding taken
  is-taken m t = and_both m t

module _ (p : Partition) (b : ℕ) (c : List ℕ) (g : Sound p) (w : b < p.count) where
  abbrev block : ℕ → ℕ
  block s = get_or p.element_to_block s 0

  -- where a state stood, and where it stands
  abbrev stood : ℕ → ℕ
  stood s = get_or p.element_offset s 0

  abbrev stands : ℕ → ℕ
  stands s = get_or (sifted_in p b c).element_offset s 0

  abbrev x : ℕ
  x = get_or p.begin b 0

  abbrev m : ℕ
  m = get_or p.marked_split b 0

  abbrev z : ℕ
  z = get_or p.end b 0

  abbrev e : ℕ
  e = place_of p b c

  abbrev v : Sieved p.n c p.elements p.element_offset m z (sifted_in p b c)
  v = sieved p b c g w

  -- ---- the states that are taken stand from e to before z
  same-choice : (s : ℕ) → s < p.n → chosen c s ≡ chosen c (get_or (sifted_in p b c).elements (stands s) 0)
  same-choice s ws = ap (chosen c) (sym ((sieved_places p b c g w).back s ws))

  pub taken_stands : (s : ℕ) → s < p.n → taken p b c s ≡ true → (e ≤ stands s) × (stands s < z)
  taken_stands s ws t =
      let m = taken_marked p b c s t in
      let q = marked_block p b s m in
      let u : stood s < z = subst (λ (y : ℕ). stood s < get_or p.end y 0) q (g.consistent.lies s ws).to in
      let i = marked_stay p b c g w s ws (marked_from_lem p b s m) u in
      (not-below (λ a. contra (taken-chosen p b c s t) (same-choice s ws ∙ v.passed (stands s) i.0 a)), i.1)

  pub stands_taken : (s : ℕ) → s < p.n → e ≤ stands s → stands s < z → taken p b c s ≡ true
  stands_taken s ws a y =
      let i = marked_stood p b c g w s ws (omega (arith, v.low)) y in
      let q = marked_home p b c g w s ws i.0 i.1 in
      is-taken p b c s (marked_of p b s q i.0) (same-choice s ws ∙ v.took (stands s) a y)

  -- the other states of block b stand before e
  pub untaken_stands : (s : ℕ) → s < p.n → block s ≡ b → taken p b c s ≡ false → (x ≤ stands s) × (stands s < e)
  untaken_stands s ws q k =
      let i = (reordered_sound p b c g w).consistent.lies s ws in
      let u : stands s < z = subst (λ (y : ℕ). stands s < get_or p.end y 0) q i.to in (
        subst (λ (y : ℕ). get_or p.begin y 0 ≤ stands s) q i.from,
        not-below (λ a. contra (stands_taken s ws (omega arith) u) k),
      )

  -- ---- the blocks after a split
  pub split-home : splitsb p b c ≡ true → (s : ℕ) → s < p.n → get_or (split p b c).element_to_block s 0 ≡ cond (taken p b c s) p.count
      (block s)
  split-home t s ws =
      let a = apart p b c g w t in
      let q = reordered_sound p b c g w in
      ap (λ (y : Partition). get_or y.element_to_block s 0) (split_made p b c t)
      ∙ ⊎_elim
      (λ (k : taken p b c s ≡ true).
      let i = taken_stands s ws k in
      home_in (sifted_of p b c) q b w e a.0 a.1 s ws i.0 i.1 ∙ ap (λ (y : Bool). cond y p.count (block s)) (sym k))
      (λ (k : taken p b c s ≡ false).
      home_out (sifted_of p b c) q b w e a.0 a.1 s ws (λ f u. contra (stands_taken s ws f u) k)
      ∙ ap (λ (y : Bool). cond y p.count (block s)) (sym k))
      (cases (taken p b c s))

  pub taken_move : splitsb p b c ≡ true → (s : ℕ) → s < p.n → taken p b c s ≡ true → get_or (split p b c).element_to_block s 0 ≡ p.count
  taken_move t s ws k = split-home t s ws ∙ ap (λ (y : Bool). cond y p.count (block s)) k

  -- a state that is not taken keeps its block, split or not
  pub untaken_stay : (s : ℕ) → s < p.n → taken p b c s ≡ false → get_or (split p b c).element_to_block s 0 ≡ block s
  untaken_stay s ws k =
      ⊎_elim (λ (t : splitsb p b c ≡ true). split-home t s ws ∙ ap (λ (y : Bool). cond y p.count (block s)) k)
      (λ (t : splitsb p b c ≡ false). ap (λ (y : List ℕ). get_or y s 0) (table_stays p b c t).element_to_block)
      (cases (splitsb p b c))

  -- ---- when a split happens: some state of the block is taken, and some is not
  pub split_happens : (s t : ℕ) → s < p.n → t < p.n → taken p b c s ≡ true → block t ≡ b → taken p b c t ≡ false → splitsb p b c ≡ true
  unfolding splitsb
  split_happens s t ws wt k q k' =
      let i = taken_stands s ws k in
      let j = untaken_stands t wt q k' in
      parts_both p b e (λ r. omega arith) (λ r. omega arith)

  pub nothing_taken : ((s : ℕ) → s < p.n → taken p b c s ≡ false) → splitsb p b c ≡ false
  unfolding splitsb
  nothing_taken h =
      ⊎_elim
      (λ (a : e < z).
      let we : e < p.n = omega (arith, (g.consistent.bounds b w).most) in
      let s = get_or (sifted_in p b c).elements e 0 in
      let q = v.order.back e we in
      absurd (contra (stands_taken s (v.order.below e we) (omega (arith, q)) (omega (arith, q))) (h s (v.order.below e we))))
      (λ (a : z ≤ e). parts_nothing p b e (omega (arith, v.high))) (lt-or-le e z)

  pub all-taken : ((s : ℕ) → s < p.n → block s ≡ b → taken p b c s ≡ true) → splitsb p b c ≡ false
  unfolding splitsb
  all-taken h =
      let n = g.consistent.bounds b w in
      ⊎_elim
      (λ (a : x < e).
      let wx : x < p.n = omega (arith, n.some, n.most) in
      let s = get_or (sifted_in p b c).elements x 0 in
      let ws = v.order.below x wx in
      let q = v.order.back x wx in
      let k = h s ws (same_home p b c g w x wx ∙ owned p g.consistent b x w (omega arith) n.some) in
      absurd (omega (arith, taken_stands s ws k, q)))
      (λ (a : e ≤ x). parts_all p b e (omega (arith, v.low, n.from))) (lt-or-le x e)

  -- ---- with nothing taken, as with nothing marked, nothing changes at all
  unchosen : ((s : ℕ) → s < p.n → taken p b c s ≡ false) → (k : ℕ) → m ≤ k → k < z → chosen c (get_or p.elements k 0) ≡ false
  unchosen h k a y =
      let i = g.consistent.bounds b w in
      let wk : k < p.n = omega (arith, i.most) in
      let s = get_or p.elements k 0 in
      let r = g.consistent.order.back k wk in
      let q = owned p g.consistent b k w (omega (arith, i.from)) y in
      fails (λ t. contra (is-taken p b c s (marked_of p b s q (omega (arith, r))) t) (h s (g.consistent.order.below k wk)))

  pub untouched : ((s : ℕ) → s < p.n → taken p b c s ≡ false) → split p b c ≡ p
  unfolding sifted_in
  untouched h =
      let i = g.consistent.bounds b w in
      split_stays p b c (nothing_taken h)
      ∙ ap (λ (f : Sifted). reordered p f.elements f.element_offset)
      (sieve_idle (z - m) c p.elements p.element_offset m (λ k a y. unchosen h k a (omega (arith, i.to))))
