-- Laws of `iter_block` and `iter_begin`: the two ways out, and that what is answered is empty exactly where the call is refused.
use Prim.Native.Nat.{ℕ, ◌<◌, ◌-◌}
use native.Mathlib.Omega.{arith}
use borrow.Author.Tests.{eq-eqb, ne_eqb}
use mathlib.Core.Bool.{true}
use mathlib.Core.Path.{◌≡◌, refl, sym}
use mathlib.Core.List.{[]}
use lib.ListN.{length, get_or, take, drop, length-drop}
use lib.Seq.{length-take-le}
use Rattle.columns.specs.Answers.{Refusal}
use Rattle.partition.specs.Partition.{Partition}
use Rattle.partition.specs.Checks.{block_refusal}
use Rattle.partition.specs.Readers.{stretch, iter_block, iter_begin}
use Rattle.partition.proofs.Refusals.{argument_ready}

module _ (p : Partition) (b : ℕ) where
  module _ (t : Refusal) (e : t ≡ block_refusal p b) where
    pub iter_refused : (t.number ≡ 0 → ⊥) → [] ≡ iter_block p b
    unfolding iter_block
    iter_refused n = rw (← e, ne_eqb t.number 0 n)

    pub iter_done :
        t.number ≡ 0 → (x z : ℕ) → x ≡ get_or p.begin b 0 → z ≡ get_or p.end b 0 → take (z - x) (drop x p.elements) ≡ iter_block p b
    unfolding iter_block stretch
    iter_done q x z ex ez = rw (← e, eq-eqb t.number 0 q) (cc)

    pub begin_refused : (t.number ≡ 0 → ⊥) → 0 ≡ iter_begin p b
    unfolding iter_begin
    begin_refused n = rw (← e, ne_eqb t.number 0 n)

    pub begin_done : t.number ≡ 0 → (x : ℕ) → x ≡ get_or p.begin b 0 → x ≡ iter_begin p b
    unfolding iter_begin
    begin_done q x ex = rw (← e, eq-eqb t.number 0 q) (cc)

  -- a block that is found has a state
  pub iter_some : (block_refusal p b).number ≡ 0 → 0 < length (iter_block p b)
  unfolding iter_block stretch
  iter_some e =
      let q = argument_ready p b p.count true (block_refusal p b) refl e in
      let w = q.sound.consistent.bounds b q.known in
      let x = get_or p.begin b 0 in
      let z = get_or p.end b 0 in
      let d : length (drop x p.elements) ≡ length p.elements - x = length-drop x p.elements in
      let t : length (take (z - x) (drop x p.elements)) ≡ z - x
      = length-take-le (z - x) (drop x p.elements) (omega (arith, w.most, w.some, q.sound.long.elements)) in
      rw (eq-eqb (block_refusal p b).number 0 e) (omega (arith, w.some))

  pub iter_empty : ((block_refusal p b).number ≡ 0 → ⊥) → iter_block p b ≡ []
  iter_empty n = sym (iter_refused (block_refusal p b) refl n)
