-- The marks of block b stay within every set that holds them and is closed under incoming hidden steps within the block.
use Rattle.std.specs.Prelude.{◌≡◌, ℕ, zero, suc, ◌<◌, ◌≤◌, Bool, true, false, cond, eqb, List, get_or}
use native.Mathlib.Omega.{arith}
use borrow.Author.Tests.{eqb-true}
use mathlib.Core.Path.{refl, ap, sym, subst, ◌∙◌}
use mathlib.Core.Logic.{⊎_elim}
use Rattle.table_closure.specs.Promise.{Marked}
use Rattle.table_closure.specs.Closure.{silentb, mark_source, mark_into, goes_on, read_down}
use Rattle.partition.specs.Mark.{mark}
use Rattle.partition.specs.Partition.{Partition, Sound, home_of}
use Rattle.partition.proofs.Owned.{owned}
use Rattle.table.specs.Lts.{Lts, Valid}
use Rattle.table_closure.proofs.Closing.{goes_marked}
use Rattle.table_closure.proofs.Growing.{MarksGrown}
use Rattle.table_closure.proofs.Marking.{from_marked, mark_only}
use Rattle.table_closure.proofs.Steps.{silent_home, into_grown}

module _ (t : Lts) (v : Valid t) (b : ℕ) (home : List ℕ) (M : ℕ → Type 0)
    (steps : (i : ℕ) → i < t.m → silentb t home b i ≡ true → get_or home (get_or t.target i 0) 0 ≡ b → M (get_or t.target i 0) →
    M (get_or t.source i 0)) where
  -- the marks of block b are in M
  abbrev pub Inside : Partition → Type 0
  Inside p = (s : ℕ) → s < t.n → get_or home s 0 ≡ b → Marked p s → M s

  -- p is a sound partition of the table's states into these blocks
  pub record Ours (p : Partition) : Type 0 where
    pub same : p.n ≡ t.n
    pub homes : p.element_to_block ≡ home
    pub sound : Sound p

  ours_grown : (p q : Partition) → Ours p → MarksGrown b p q → Ours q
  ours_grown p q o g = record { same = g.n ∙ o.same; homes = g.element_to_block ∙ o.homes; sound = g.sound }

  home_at : (p : Partition) → Ours p → (s : ℕ) → get_or home s 0 ≡ home_of p s
  home_at p o s = ap (λ (l : List ℕ). get_or l s 0) (sym o.homes)

  source_inside :
      (i : ℕ) (p : Partition) → i < t.m → Ours p → get_or home (get_or t.target i 0) 0 ≡ b → M (get_or t.target i 0) → Inside p →
      Inside (mark_source t b i p)
  unfolding mark_source
  source_inside i p h o e k inside = go (silentb t p.element_to_block b i) refl
    where
      go : (c : Bool) → silentb t p.element_to_block b i ≡ c → Inside (cond c (mark p (get_or t.source i 0)) p)
      go true l s w es m =
          let x = get_or t.source i 0 in
          let l' : silentb t home b i ≡ true = ap (λ (y : List ℕ). silentb t y b i) (sym o.homes) ∙ l in
          ⊎_elim (λ (q : s ≡ x). subst M (sym q) (steps i h l' e k)) (λ (q : Marked p s). inside s w es q)
          (mark_only p o.sound x (omega (arith, o.same, (v.fields i h).source)) s (omega (arith, o.same))
          (sym (home_at p o s) ∙ es ∙ sym (silent_home t p.element_to_block b i l)) m)
      go false l s w es m = inside s w es m

  into_inside :
      (u k : ℕ) (p : Partition) → k ≤ t.m → Ours p → get_or home u 0 ≡ b → M u → Inside p → Inside (mark_into t b u k p)
  unfolding mark_into
  into_inside u zero p h o e x inside = inside
  into_inside u (suc k) p h o e x inside =
      let q = mark_into t b u k p in
      let r = into_grown t v b u k p (omega arith) o.same o.sound in
      go q (ours_grown p q o r) (into_inside u k p (omega arith) o e x inside) (eqb (get_or t.target k 0) u) refl
    where
      go : (q : Partition) → Ours q → Inside q → (c : Bool) → eqb (get_or t.target k 0) u ≡ c → Inside (cond c (mark_source t b k q) q)
      go q oq i true f =
          let z : get_or t.target k 0 ≡ u = eqb-true _ _ f in
          source_inside k q h oq (ap (λ (y : ℕ). get_or home y 0) z ∙ e) (subst M (sym z) x) i
      go q oq i false f = i

  -- a marked position of block b
  position :
      (p : Partition) → Ours p → b < p.count → (k : ℕ) → get_or p.marked_split b 0 ≤ k → k < get_or p.end b 0 → Inside p
      → (get_or home (get_or p.elements k 0) 0 ≡ b) × M (get_or p.elements k 0)
  position p o w k a z inside =
      let c = o.sound.consistent in
      let y = c.bounds b w in
      let s = get_or p.elements k 0 in
      let e : home_of p s ≡ b = owned p c b k w (omega (arith, y.from)) z in
      let kn : k < p.n = omega (arith, y.most) in
      let es : get_or home s 0 ≡ b = home_at p o s ∙ e in
      (es, inside s (omega (arith, o.same, c.order.below k kn)) es (from_marked p b s e (omega (arith, c.order.back k kn))))

  pub read_inside : (it : ℕ) (p : Partition) → Ours p → b < p.count → it ≤ get_or p.end b 0 → Inside p → Inside (read_down t b it p)
  unfolding read_down
  read_inside zero p o w h inside = inside
  read_inside (suc it) p o w h inside =
      let q = mark_into t b (get_or p.elements it 0) t.m p in
      let r = into_grown t v b (get_or p.elements it 0) t.m p (omega arith) o.same o.sound in
      go (goes_on p b (suc it)) refl
      (read_inside it q (ours_grown p q o r) (omega (arith, r.count)) (omega (arith, ap (λ (l : List ℕ). get_or l b 0) r.end)))
    where
      go : (c : Bool) → goes_on p b (suc it) ≡ c
          → (Inside (mark_into t b (get_or p.elements it 0) t.m p) →
          Inside (read_down t b it (mark_into t b (get_or p.elements it 0) t.m p)))
          → Inside (cond c (read_down t b it (mark_into t b (get_or p.elements it 0) t.m p)) p)
      go true e rest =
          let k = position p o w it (goes_marked p b it e) (omega arith) inside in
          rest (into_inside (get_or p.elements it 0) t.m p (omega arith) o k.0 k.1 inside)
      go false e rest = inside
