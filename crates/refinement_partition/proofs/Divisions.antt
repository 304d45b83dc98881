-- A block that is wholly marked, divided by `partition_marked_with`: a turn of a round.
use mathlib.Core.Path.{◌≡◌}
use mathlib.Core.Bool.{true}
use mathlib.Core.List.{List}
use Prim.Native.Nat.{ℕ, ◌+◌, ◌≤◌, ◌<◌}
use lib.ListN.{get_or}
use Rattle.partition_division.specs.Divide.{partition_marked}
use Rattle.partition.specs.Marked.{marked_in}
use Rattle.partition_division.specs.Steps.{Dividable}
use Rattle.partition.proofs.Marked.{whole_marked}
use Rattle.partition_division.proofs.PartitionMarked.{Splits, partition_marked-splits}
use Rattle.partition.specs.Partition.{Partition, home_of}
use Rattle.refinement.specs.Rounds.{Signature}
use Rattle.refinement.specs.Runs.{RefinedBelow}
use Rattle.refinement.proofs.BlockByBlock.{Divides, Numbers, below_more}

-- block b can be divided by the numbers v, and all its states are marked: its marks begin where it begins
module _ (p : Partition) (b : ℕ) (v : List ℕ) (y : Dividable p b v) (all : get_or p.marked_split b 0 ≡ get_or p.begin b 0) where
  marked : (s : ℕ) → s < p.n → home_of p s ≡ b → marked_in p b s ≡ true
  marked = whole_marked p y.sound.consistent b all

  pub divides : Divides p.n b p.count v p.element_to_block (partition_marked p b v).element_to_block
  divides =
      let d : Splits p b v (partition_marked p b v) = partition_marked-splits p b v y in
      record {
        outside = d.outside;
        inside = d.inside;
        together = λ s t hs ht e f. d.together s t hs ht (marked s hs e) (marked t ht f);
        numbers = λ s t hs ht e f. d.numbers s t hs ht (marked s hs e) (marked t ht f);
      }

  -- p has the blocks below b of `home` split, `home` being the block column as the round began, of `count` blocks; now b is split too
  pub turn :
      (sig : Signature) (home : List ℕ) (count : ℕ) → RefinedBelow p.n sig home count b p.element_to_block → b < count
      → count ≤ p.count → Numbers p.n sig home b v
      → RefinedBelow p.n sig home count (b + 1) (partition_marked p b v).element_to_block
  turn sig home count f w more num =
      below_more p.n sig home count b p.element_to_block f w p.count v (partition_marked p b v).element_to_block more
      (λ s l. (y.sound.consistent.lies s l).known) divides num
