-- A partition divided by the signatures that are stored: one block, all blocks of a round, and the rounds until nothing splits.
use Rattle.std.specs.Prelude.{ℕ, ◌+◌, ◌<◌, ◌≤◌, List, slice_index}
use Rattle.partition.specs.Partition.{Partition, Sound, with_split}
use Rattle.refinement.specs.Rounds.{Signature, Refined}
use Rattle.refinement.specs.Runs.{RefinedBelow, Settled}
use Rattle.refinement_signing.specs.Stored.{Store, stored}

-- the stored signatures, which were made under the partition as the round began
abbrev pub stored_signature : Store → Signature
stored_signature σ = λ _ s. stored σ s

-- p with block b wholly marked
abbrev pub wholly : Partition → ℕ → Partition
wholly p b = with_split p b (slice_index p.begin b)

-- q comes of p when block b is divided by signature: it is sound, has no fewer blocks, and is the next turn of any round that began with
-- the block column `home` and has come to b
pub record Split (sig : Signature) (p : Partition) (b : ℕ) (q : Partition) : Type 0 where
  pub sound : Sound q
  pub more : p.count ≤ q.count
  pub turned :
      (home : List ℕ) (count : ℕ) → RefinedBelow p.n sig home count b p.element_to_block → b < count → count ≤ p.count
      → RefinedBelow p.n sig home count (b + 1) q.element_to_block

-- q is p with every block divided by signature
pub record Rounded (sig : Signature) (p q : Partition) : Type 0 where
  pub sound : Sound q
  pub more : p.count ≤ q.count
  pub refined : Refined p.n sig p.element_to_block q.element_to_block

-- the rounds are over: k of them split something, and q has the blocks that they leave
pub record Ended (sig : Signature) (k : ℕ) (q : Partition) : Type 0 where
  pub sound : Sound q
  pub settled : Settled q.n sig k q.element_to_block
