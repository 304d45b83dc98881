-- A block that `new` or `new_unmarked` makes meets the bounds that a block given alone is held to, and is all marked, or not at all.
use Prim.Native.Nat.{ℕ, ◌-◌}
use native.Mathlib.Omega.{arith}
use mathlib.Core.Path.{◌≡◌, refl, sym, ◌∙◌}
use mathlib.Core.Bool.{true}
use mathlib.Core.List.{List, [], ◌∷◌}
use Rattle.columns.specs.Limits.{max_states, out_of_range}
use Rattle.columns.specs.Answers.{done, answering}
use Rattle.columns.specs.Due.{Test, test, due}
use Rattle.columns.proofs.Chains.{passed}
use Rattle.columns.proofs.Doing.{answering_done}
use Rattle.partition.specs.declared.block.Block.{Block}
use Rattle.partition.specs.Partition.{Within, withinb}
use Rattle.partition.specs.Block.{block_values, new_block, boundedb, broken_block, len, len_marked}
use Rattle.partition.proofs.Holds.{sound_of}

-- a new block from begin to end: begin < end <= 4,096, marked_split from begin to end
pub record NewBlock (begin end : ℕ) (b : Block) : Type 0 where
  pub begins : b.begin ≡ begin
  pub ends : b.end ≡ end
  pub sound : boundedb b ≡ true
  pub bounds : Within b.begin b.marked_split b.end max_states

module _ (begin split end : ℕ) (b : Block) (e : done (block_values b) ≡ new_block begin split end) where
  given : (withinb begin split end max_states ≡ true) × (block_values b ≡ begin ∷ split ∷ end ∷ [])
  unfolding new_block
  given =
      let bounds : List Test = test (withinb begin split end max_states) out_of_range end ∷ [] in
      let d = answering_done (due bounds) (block_values b) (begin ∷ split ∷ end ∷ []) e in
      ((passed bounds refl (due bounds) refl d.0).0, d.1)

  made_begin : b.begin ≡ begin
  made_begin = cc given.1

  made_split : b.marked_split ≡ split
  made_split = cc given.1

  made_end : b.end ≡ end
  made_end = cc given.1

  made : NewBlock begin end b
  unfolding boundedb
  made =
      let t : boundedb b ≡ true = rw (made_begin, made_split, made_end) given.0 in
      record { begins = made_begin; ends = made_end; sound = t; bounds = sound_of b t }

-- `new`: every element is marked
pub new_done : (begin end : ℕ) (b : Block) → done (block_values b) ≡ new_block begin begin end → NewBlock begin end b × (len_marked b ≡ len b)
unfolding len_marked len
new_done begin end b e =
    let m : b.marked_split ≡ b.begin = made_split begin begin end b e ∙ sym (made_begin begin begin end b e) in
    (made begin begin end b e, rw m)

-- `new_unmarked`: no element is
pub new_unmarked_done :
    (begin end : ℕ) (b : Block) → done (block_values b) ≡ new_block begin end end → NewBlock begin end b × (len_marked b ≡ done (0 ∷ []))
unfolding len_marked broken_block answering due
new_unmarked_done begin end b e =
    let m : b.end - b.marked_split ≡ 0 = omega (arith, made_split begin end end b e, made_end begin end end b e) in
    let n = made begin end end b e in
    (n, rw (n.sound, m))
