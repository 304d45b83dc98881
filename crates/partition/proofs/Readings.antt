-- What a call says that reads one block or a partition and is done, in document 01's words.
use Prim.Native.Nat.{ℕ, ◌-◌, ◌≤◌, ◌<◌}
use borrow.Author.Tests.{ltb-true, lt-ltb}
use mathlib.Core.Path.{◌≡◌, refl, ap}
use mathlib.Core.Bool.{true, not}
use mathlib.Core.List.{List, [], ◌∷◌}
use lib.Dec.{ltb}
use lib.ListN.{get_or}
use Rattle.columns.specs.Limits.{max_states, inconsistent}
use Rattle.columns.specs.Answers.{done, answering}
use Rattle.columns.specs.Counting.{bit}
use Rattle.columns.specs.Due.{Test, test, due}
use Rattle.columns.proofs.All.{not-below}
use Rattle.columns.proofs.Bools.{contra, fails}
use Rattle.columns.proofs.Chains.{passed}
use Rattle.columns.proofs.Doing.{answering_done, SaysWhether, says_whether}
use Rattle.partition.specs.declared.block.Block.{Block}
use Rattle.partition.specs.Partition.{Partition, Within, Sound}
use Rattle.partition.specs.Block.{boundedb, broken_block, len, len_marked, has_marked, has_unmarked}
use Rattle.partition.specs.Checks.{partition_refusal, state_refusal, block_refusal}
use Rattle.partition.specs.Readers.{num_of_blocks, len_of, block_number, is_element_marked, read_block, iter_block_refusal}
use Rattle.partition.specs.Marked.{unmarkedb}
use Rattle.partition.proofs.Holds.{sound_of}
use Rattle.partition.proofs.Refusals.{partition_sound, argument_ready}
use native.Mathlib.Omega.{arith}

-- ---- one block, given by value
module _ (b : Block) where
  -- its bounds hold
  abbrev pub Bounds : Type 0
  Bounds = Within b.begin b.marked_split b.end max_states

  read : (values said : List ℕ) → done values ≡ answering (broken_block b) said → Bounds × (values ≡ said)
  unfolding broken_block
  read values said e =
      let bounds : List Test = test (boundedb b) inconsistent 0 ∷ [] in
      let d = answering_done (due bounds) values said e in
      (sound_of b (passed bounds refl (due bounds) refl d.0).0, d.1)

  -- how many positions it has, and how many of them are marked
  pub len_done : (values : List ℕ) → done values ≡ len b → Bounds × (values ≡ (b.end - b.begin) ∷ [])
  unfolding len
  len_done values e = read values ((b.end - b.begin) ∷ []) e

  pub len_marked_done : (values : List ℕ) → done values ≡ len_marked b → Bounds × (values ≡ (b.end - b.marked_split) ∷ [])
  unfolding len_marked
  len_marked_done values e = read values ((b.end - b.marked_split) ∷ []) e

  -- yes exactly if some position is marked; if some is not
  pub has_marked_done : (values : List ℕ) → done values ≡ has_marked b → Bounds × SaysWhether values (b.marked_split < b.end)
  unfolding has_marked
  has_marked_done values e =
      let d = read values (bit (ltb b.marked_split b.end) ∷ []) e in
      (d.0, says_whether (ltb b.marked_split b.end) values d.1 (ltb-true _ _, lt-ltb _ _))

  pub has_unmarked_done : (values : List ℕ) → done values ≡ has_unmarked b → Bounds × SaysWhether values (b.begin < b.marked_split)
  unfolding has_unmarked
  has_unmarked_done values e =
      let d = read values (bit (ltb b.begin b.marked_split) ∷ []) e in
      (d.0, says_whether (ltb b.begin b.marked_split) values d.1 (ltb-true _ _, lt-ltb _ _))

-- ---- a lent partition
module _ (p : Partition) where
  -- how many blocks there are, and how many states
  pub num_of_blocks_done : (values : List ℕ) → done values ≡ num_of_blocks p → Sound p × (values ≡ p.count ∷ [])
  unfolding num_of_blocks
  num_of_blocks_done values e =
      let d = answering_done (partition_refusal p) values (p.count ∷ []) e in (partition_sound p d.0, d.1)

  pub len_of_done : (values : List ℕ) → done values ≡ len_of p → Sound p × (values ≡ p.n ∷ [])
  unfolding len_of
  len_of_done values e = let d = answering_done (partition_refusal p) values (p.n ∷ []) e in (partition_sound p d.0, d.1)

  -- the block of state s
  pub block_number_done :
      (s : ℕ) (values : List ℕ) → done values ≡ block_number p s
      → Sound p × (s < p.n) × (values ≡ get_or p.element_to_block s 0 ∷ [])
  unfolding block_number
  block_number_done s values e =
      let d = answering_done (state_refusal p s) values (get_or p.element_to_block s 0 ∷ []) e in
      let r = argument_ready p s p.n true (state_refusal p s) refl d.0 in
      (r.sound, r.known, d.1)

  -- yes exactly if its position is not before its block's marked_split
  pub is_element_marked_done :
      (s : ℕ) (values : List ℕ) → done values ≡ is_element_marked p s
      → Sound p × (s < p.n)
      × SaysWhether values (get_or p.marked_split (get_or p.element_to_block s 0) 0 ≤ get_or p.element_offset s 0)
  unfolding is_element_marked unmarkedb
  is_element_marked_done s values e =
      let o = get_or p.element_offset s 0 in
      let m = get_or p.marked_split (get_or p.element_to_block s 0) 0 in
      let d = answering_done (state_refusal p s) values (bit (not (ltb o m)) ∷ []) e in
      let r = argument_ready p s p.n true (state_refusal p s) refl d.0 in
      (r.sound, r.known, says_whether (not (ltb o m)) values d.1 (not_less o m, at_least o m))
    where
      not_less : (o m : ℕ) → not (ltb o m) ≡ true → m ≤ o
      not_less o m h = not-below (λ l. contra h (ap not (lt-ltb o m l)))

      at_least : (o m : ℕ) → m ≤ o → not (ltb o m) ≡ true
      at_least o m h = ap not (fails (λ t. absurd (below (ltb-true o m t) h)))
        where
          below : {o m : ℕ} → o < m → m ≤ o → ⊥
          below l h = omega arith

  -- the bounds of block b
  pub read_block_done :
      (b : ℕ) (values : List ℕ) → done values ≡ read_block p b
      → Sound p × (b < p.count)
      × (values ≡ get_or p.begin b 0 ∷ get_or p.marked_split b 0 ∷ get_or p.end b 0 ∷ [])
  unfolding read_block
  read_block_done b values e =
      let d = answering_done (block_refusal p b) values (get_or p.begin b 0 ∷ get_or p.marked_split b 0 ∷ get_or p.end b 0 ∷ []) e in
      let r = argument_ready p b p.count true (block_refusal p b) refl d.0 in
      (r.sound, r.known, d.1)

  -- `iter_block` is not refused
  pub iter_block_refusal_done : (b : ℕ) (values : List ℕ) → done values ≡ iter_block_refusal p b → Sound p × (b < p.count) × (values ≡ [])
  unfolding iter_block_refusal
  iter_block_refusal_done b values e =
      let d = answering_done (block_refusal p b) values [] e in
      let r = argument_ready p b p.count true (block_refusal p b) refl d.0 in
      (r.sound, r.known, d.1)
