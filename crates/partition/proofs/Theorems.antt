-- The main laws of a partition, in document 01's words: when six columns hold one, and what the calls have done where they say done. p is
-- the partition that is lent, q the one at return.
use Prim.Native.Nat.{ℕ, ◌<◌}
use native.Mathlib.Omega.{arith}
use borrow.Author.Tests.{le-ltb}
use mathlib.Core.Bool.{Bool, true, false, cond}
use mathlib.Core.Logic.{◌↔◌}
use mathlib.Core.Path.{◌≡◌, refl, sym, ap, subst, ◌∙◌}
use mathlib.Core.List.{List, [], ◌∷◌}
use lib.ListN.{length, get_or, length-replicate}
use lib.Seq.{get_or-set_same}
use Rattle.columns.specs.Answers.{done}
use Rattle.columns.specs.Columns.{wiped, zeros}
use Rattle.columns.proofs.Doing.{leaving_done}
use Rattle.columns.proofs.Lists.{over_front, written_at, zeros_at}
use Rattle.partition.specs.Partition.{Partition, Consistent, Sound, consistentb}
use Rattle.partition.specs.Checks.{blocks_refusal, state_refusal}
use Rattle.partition.specs.Fresh.{fresh, new_refusal, new_partition}
use Rattle.partition.specs.Mark.{moved, mark, mark_element}
use Rattle.partition.specs.Marked.{unmarkedb}
use Rattle.partition.specs.SwapBlocks.{exchange, swap, swap_blocks}
use Rattle.partition.proofs.Freshness.{fresh_sound}
use Rattle.partition.proofs.Holds.{consistent_of, of_consistent}
use Rattle.partition.proofs.Keeps.{mark_consistent}
use Rattle.partition.proofs.Refusals.{argument_ready, blocks_ready, new_ready}
use Rattle.partition.proofs.SwapKeeps.{swap_block, swap_begin, swap-split, swap_end, swap_consistent, swap_long}
-- What `new` and `new_unmarked` of a block make meets the bounds that a block given alone is held to, and is all marked, or not at all.
pub use Rattle.partition.proofs.Blocks.{new_done, new_unmarked_done}
-- What the readers say of one block, and of a partition.
pub use Rattle.partition.proofs.Readings.{
  len_done,
  len_marked_done,
  has_marked_done,
  has_unmarked_done,
  num_of_blocks_done,
  len_of_done,
  block_number_done,
  is_element_marked_done,
  read_block_done,
  iter_block_refusal_done,
}
-- That blocks do not overlap follows from their lengths: a state that stands in the stretch of a block is of that block.
pub use Rattle.partition.proofs.Owned.{owned}
-- A state of a block is a marked one of it exactly if it is marked; the states of a block stand between its bounds, each once.
pub use Rattle.partition.proofs.Marked.{marked_in_lem}
pub use Rattle.partition.proofs.Standing.{stands}
-- `iter_block` answers the empty part exactly where it is refused.
pub use Rattle.partition.proofs.Stretches.{iter_some, iter_empty}

-- ---- consistency
-- The test of the code is document 01's consistency: an inverse one way is one both ways.
pub consistent_exactly : (p : Partition) → (consistentb p ≡ true) ↔ Consistent p
consistent_exactly p = (consistent_of p, of_consistent p)

-- ---- `BlockPartition::new`
pub record NewDone (p : Partition) (values : List ℕ) (q : Partition) : Type 0 where
  -- the answer is the number of states, and one block
  pub answer : values ≡ p.n ∷ 1 ∷ []
  -- one block 0, order 0..n-1, all marked
  pub block : (s : ℕ) → s < p.n → get_or q.element_to_block s 0 ≡ 0
  pub order : (s : ℕ) → s < p.n → get_or q.elements s 0 ≡ s
  pub marked : (s : ℕ) → s < p.n → unmarkedb q s ≡ false
  pub left : q ≡ fresh p
  pub sound : Sound q

module _ (p : Partition) (some : 0 < length p.marked_split) where
  fresh_block : (s : ℕ) → s < p.n → get_or (fresh p).element_to_block s 0 ≡ 0
  unfolding fresh wiped
  fresh_block s h =
      over_front (zeros p.n) p.element_to_block s (omega (arith, length-replicate {A = ℕ} p.n 0, h)) ∙ zeros_at p.n s

  fresh_order : (s : ℕ) → s < p.n → get_or (fresh p).elements s 0 ≡ s
  unfolding fresh
  fresh_order s h = written_at p.n (λ k. k) p.elements s h

  fresh-split : get_or (fresh p).marked_split 0 0 ≡ 0
  unfolding fresh
  fresh-split = get_or-set_same p.marked_split 0 0 0 some

  fresh_marked : (s : ℕ) → s < p.n → unmarkedb (fresh p) s ≡ false
  unfolding unmarkedb
  fresh_marked s h =
      let z : get_or (fresh p).marked_split (get_or (fresh p).element_to_block s 0) 0 ≡ 0
      = ap (λ (b : ℕ). get_or (fresh p).marked_split b 0) (fresh_block s h) ∙ fresh-split in
      le-ltb (get_or (fresh p).element_offset s 0) (get_or (fresh p).marked_split (get_or (fresh p).element_to_block s 0) 0) (omega (arith, z))

pub new_partition_done :
    (p : Partition) → p.count ≡ 1 → (values : List ℕ) (q : Partition) → (done values, q) ≡ new_partition p → NewDone p values q
unfolding new_partition
new_partition_done p one values q e =
    let k = leaving_done (new_refusal p) p q (fresh p) values (p.n ∷ 1 ∷ []) e in
    let r = new_ready p (new_refusal p) refl k.0 in
    let room : 0 < length p.marked_split = omega (arith, r.some, r.long.marked_split) in
    record {
      answer = k.1;
      block = λ s h. ap (λ (x : Partition). get_or x.element_to_block s 0) k.2 ∙ fresh_block p room s h;
      order = λ s h. ap (λ (x : Partition). get_or x.elements s 0) k.2 ∙ fresh_order p room s h;
      marked = λ s h. ap (λ (x : Partition). unmarkedb x s) k.2 ∙ fresh_marked p room s h;
      left = k.2;
      sound = subst Sound (sym k.2) (fresh_sound p r.some r.small r.long one);
    }

-- ---- `mark_element`
pub record MarkDone (p : Partition) (s : ℕ) (values : List ℕ) (q : Partition) : Type 0 where
  pub sound : Sound p
  pub known : s < p.n
  pub answer : values ≡ []
  -- an unmarked state swaps places with the state at marked_split - 1, and marked_split falls by one
  pub unmarked : unmarkedb p s ≡ true → q ≡ moved p s
  -- a marked one: no change
  pub marked : unmarkedb p s ≡ false → q ≡ p
  pub consistent : Consistent q

pub mark_element_done :
    (p : Partition) (s : ℕ) (values : List ℕ) (q : Partition) → (done values, q) ≡ mark_element p s → MarkDone p s values q
unfolding mark_element mark
mark_element_done p s values q e =
    let k = leaving_done (state_refusal p s) p q (mark p s) values [] e in
    let r = argument_ready p s p.n true (state_refusal p s) refl k.0 in
    record {
      sound = r.sound;
      known = r.known;
      answer = k.1;
      unmarked = λ u. k.2 ∙ ap (λ (b : Bool). cond b (moved p s) p) u;
      marked = λ u. k.2 ∙ ap (λ (b : Bool). cond b (moved p s) p) u;
      consistent = subst Consistent (sym k.2) (mark_consistent p r.sound.consistent r.sound.long s r.known);
    }

-- ---- `swap_blocks`
pub record SwapDone (p : Partition) (l r : ℕ) (values : List ℕ) (q : Partition) : Type 0 where
  pub sound : Sound p
  pub left : l < p.count
  pub right : r < p.count
  pub answer : values ≡ []
  -- the two table entries are exchanged
  pub begin : (j : ℕ) → get_or q.begin j 0 ≡ get_or p.begin (exchange l r j) 0
  pub marked_split : (j : ℕ) → get_or q.marked_split j 0 ≡ get_or p.marked_split (exchange l r j) 0
  pub end : (j : ℕ) → get_or q.end j 0 ≡ get_or p.end (exchange l r j) 0
  -- and their states renumbered
  pub block : (s : ℕ) → s < p.n → get_or q.element_to_block s 0 ≡ exchange l r (get_or p.element_to_block s 0)
  -- the order stays
  pub elements : q.elements ≡ p.elements
  pub element_offset : q.element_offset ≡ p.element_offset
  pub still_sound : Sound q

pub swap_blocks_done :
    (p : Partition) (l r : ℕ) (values : List ℕ) (q : Partition) → (done values, q) ≡ swap_blocks p l r → SwapDone p l r values q
unfolding swap_blocks swap
swap_blocks_done p l r values q e =
    let k = leaving_done (blocks_refusal p l r) p q (swap p l r) values [] e in
    let y = blocks_ready p l r (blocks_refusal p l r) refl k.0 in
    let h = y.sound.consistent in
    let g = y.sound.long in
    subst (SwapDone p l r values) (sym k.2)
    (record {
      sound = y.sound;
      left = y.left;
      right = y.right;
      answer = k.1;
      begin = swap_begin p h g l r y.left y.right;
      marked_split = swap-split p h g l r y.left y.right;
      end = swap_end p h g l r y.left y.right;
      block = swap_block p h g l r y.left y.right;
      elements = refl;
      element_offset = refl;
      still_sound = record {
        small = y.sound.small;
        long = swap_long p h g l r y.left y.right;
        consistent = swap_consistent p h g l r y.left y.right;
      };
    })
