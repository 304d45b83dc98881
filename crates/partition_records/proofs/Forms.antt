-- The two forms of `swap_blocks` agree: the fields of the records it leaves are the columns that the column form leaves. So a consistent
-- partition stays consistent.
use Prim.Native.Nat.{ℕ}
use borrow.Author.Tests.{eqb-true}
use mathlib.Core.Bool.{Bool, true, false, cond}
use mathlib.Core.Path.{◌≡◌, refl, ap, sym, subst}
use mathlib.Core.List.{List, []}
use lib.Dec.{eqb}
use Rattle.columns.specs.Columns.{exchanged}
use Rattle.columns.specs.Answers.{Refusal}
use Rattle.columns.specs.Answers.{Said, done, refused, leaving}
use Rattle.partition.specs.declared.block.Block.{Block}
use Rattle.partition.specs.Checks.{blocks_refusal}
use Rattle.partition.specs.Partition.{Partition, parts, Consistent}
use Rattle.partition.specs.SwapBlocks.{swap, swap_blocks}
use Rattle.partition.proofs.Refusals.{blocks_ready}
use Rattle.partition.proofs.SwapKeeps.{swap_consistent}
use Rattle.partition_records.specs.Records.{lent, swap_records, no_block}
use Rattle.partition_records.proofs.Fields.{begins-exchanged, splits-exchanged, ends-exchanged}

module _ (e o b : List ℕ) (bs : List Block) (n count l r : ℕ) where
  abbrev p : Partition
  p = lent e o b bs n count

  -- the partition that is left
  abbrev after : Said × (List ℕ × List Block) → Partition
  after s = lent e o s.1.0 s.1.1 n count

  -- what is said and left, as the test for a refusal decides
  abbrev left : Refusal → Partition → List Block → Bool → Said × (List ℕ × List Block)
  left q x ex y = cond y (done [], (x.element_to_block, ex)) (refused q.number q.place, (b, bs))

  swap-lent : lent e o (swap p l r).element_to_block (exchanged no_block l r bs) n count ≡ swap p l r
  unfolding swap
  swap-lent = λ i. parts e o (swap p l r).element_to_block (begins-exchanged l r bs i) (splits-exchanged l r bs i)
      (ends-exchanged l r bs i) n count

  pub forms_agree : ◌≡◌ {A = Said × Partition} ((swap_records e o b bs n count l r).0, after (swap_records e o b bs n count l r))
      (swap_blocks p l r)
  unfolding swap_records swap_blocks leaving
  forms_agree = by (blocks_refusal p l r) (swap p l r) (exchanged no_block l r bs) swap-lent (eqb (blocks_refusal p l r).number 0)
    where
      by : (q : Refusal) (x : Partition) (ex : List Block) → lent e o x.element_to_block ex n count ≡ x → (y : Bool)
          → ◌≡◌ {A = Said × Partition} ((left q x ex y).0, after (left q x ex y)) (cond y (done [], x) (refused q.number q.place, p))
      by q x ex s true = λ i. (done [], s i)
      by q x ex s false = refl

  column_consistent : Consistent p → Consistent (swap_blocks p l r).1
  unfolding swap_blocks leaving
  column_consistent h = by (blocks_refusal p l r) refl (eqb (blocks_refusal p l r).number 0) refl
    where
      by : (q : Refusal) → q ≡ blocks_refusal p l r → (y : Bool) → eqb q.number 0 ≡ y
          → Consistent (cond {A = Said × Partition} y (done [], swap p l r) (refused q.number q.place, p)).1
      by q f true t =
          let d = blocks_ready p l r q f (eqb-true q.number 0 t) in
          swap_consistent p h d.sound.long l r d.left d.right
      by q f false t = h

  pub records_consistent : Consistent p → Consistent (after (swap_records e o b bs n count l r))
  records_consistent h = subst Consistent (sym (ap (λ (s : Said × Partition). s.1) forms_agree)) (column_consistent h)
