-- What `split_marked` refuses, says and leaves. b is the block, c the bytes of the choice.
use Rattle.std.specs.Prelude.{ℕ, zero, suc, ◌+◌, ◌-◌, Bool, cond, not, ◌&&◌, List, [], ◌∷◌, length, ◌==◌, nat_le, slice_index, slice_index_or, slice_set}
use Rattle.columns.specs.Answers.{Refusal}
use Rattle.columns.specs.Answers.{Said, leaving}
use Rattle.columns.specs.Columns.{swapped}
use Rattle.columns.specs.Inverse.{swapped_inverse}
use Rattle.partition.specs.Checks.{argument_refusal}
use Rattle.partition.specs.Partition.{Partition, reordered}
use Rattle.partition.specs.Marked.{marked_in}
use Rattle.partition.specs.SwapBlocks.{renumbered}

-- state s is chosen: 0 no, others yes
unfoldable pub chosen : List ℕ → ℕ → Bool
chosen c s = not (slice_index c s == 0)

-- an order, its inverse, and the first position taken
pub record Sifted : Type 0 where
  pub elements : List ℕ
  pub element_offset : List ℕ
  pub first : ℕ

abbrev pub sifting : List ℕ → List ℕ → ℕ → Sifted
sifting l o i = record { elements = l; element_offset = o; first = i }

-- d positions from i on are neither read nor taken. A chosen state is swapped to the last of them, and position i is read again
unfoldable pub sifted : ℕ → List ℕ → List ℕ → List ℕ → ℕ → Sifted
unfolding chosen swapped swapped_inverse
sifted zero c l o i = sifting l o i
sifted (suc d) c l o i =
    cond (chosen c (slice_index l i)) (sifted d c (swapped i (i + d) l) (swapped_inverse i (i + d) l o) i) (sifted d c l o (i + 1))

-- the marked stretch of block b sifted: the chosen stand from `first` on
unfoldable pub sifted_in : Partition → ℕ → List ℕ → Sifted
unfolding sifted
sifted_in p b c = let m = slice_index_or p.marked_split b 0 in sifted (slice_index p.end b - m) c p.elements p.element_offset m

-- block b cut at position e: what stands from e on is a new last block, and both are unmarked
unfoldable pub cut : Partition → ℕ → ℕ → Partition
unfolding renumbered
cut p b e =
    let z = slice_index_or p.end b 0 in
    record {
      elements = p.elements;
      element_offset = p.element_offset;
      element_to_block = renumbered p.elements e z p.count p.element_to_block;
      begin = slice_set p.begin p.count e;
      marked_split = slice_set (slice_set p.marked_split b e) p.count z;
      end = slice_set (slice_set p.end b e) p.count z;
      n = p.n;
      count = p.count + 1;
    }

-- whether a block is made: the chosen, from position e on, are not nothing and not the whole block
unfoldable pub makes_block : Partition → ℕ → ℕ → Bool
makes_block p b e = not (e == slice_index p.end b) && not (e == slice_index p.begin b)

unfoldable pub splitsb : Partition → ℕ → List ℕ → Bool
unfolding makes_block sifted_in
splitsb p b c = makes_block p b (sifted_in p b c).first

-- otherwise the table and its marks stay, and the swaps made stay too
unfoldable pub split : Partition → ℕ → List ℕ → Partition
unfolding splitsb cut
split p b c =
    let f = sifted_in p b c in
    let q = reordered p f.elements f.element_offset in
    cond (splitsb p b c) (cut q b f.first) q

-- 1, 7 (a byte for each state), 14, 8
unfoldable pub split_refusal : Partition → ℕ → List ℕ → Refusal
unfolding argument_refusal
split_refusal p b c = argument_refusal p b p.count (nat_le p.n (length c))

-- done says the block count
unfoldable pub split_marked : Partition → ℕ → List ℕ → Said × Partition
unfolding leaving split_refusal split
split_marked p b c = leaving (split_refusal p b c) p ((split p b c).count ∷ []) (split p b c)

-- state s is a marked one of block b and chosen
unfoldable pub taken : Partition → ℕ → List ℕ → ℕ → Bool
unfolding marked_in chosen
taken p b c s = marked_in p b s && chosen c s
