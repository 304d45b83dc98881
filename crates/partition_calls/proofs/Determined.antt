-- Any two results that the contract of a call on a partition allows are equal. p is the partition that is lent.
use Rattle.std.specs.Prelude.{◌≡◌, ℕ, List}
use mathlib.Core.Path.{sym, ◌∙◌}
use Rattle.std.specs.Borrow.{Bor}
use Rattle.columns.specs.Answers.{said, said_number, said_flag}
use Rattle.columns.specs.Determined.{DeterminedAnswer, Determined}
use Rattle.columns.proofs.Determined.{determined_answer, determined}
use Rattle.columns.proofs.Saying.{same_answer, same_number, same_flag}
use Rattle.partition.specs.Block.{said_block}
use Rattle.partition.specs.Fresh.{new_partition}
use Rattle.partition.specs.Lent.{BeginsAt}
use Rattle.partition.specs.Mark.{mark_element}
use Rattle.partition.specs.Partition.{Partition}
use Rattle.partition.specs.Readers.{num_of_blocks, len_of, block_number, is_element_marked, read_block, iter_block, iter_begin, iter_block_refusal}
use Rattle.partition.specs.SwapBlocks.{swap_blocks}
use Rattle.partition.proofs.Sayings.{same_block}
use Rattle.partition_calls.specs.Saying.{said_partition}
use Rattle.partition_calls.proofs.Sayings.{same_partition}

pub new : (p : Partition) → Determined said_partition (new_partition p)
new p = determined same_partition

pub num_of_blocks_lem : (p : Partition) → DeterminedAnswer said_number (num_of_blocks p)
num_of_blocks_lem p = determined_answer same_number

pub len : (p : Partition) → DeterminedAnswer said_number (len_of p)
len p = determined_answer same_number

pub block_number_lem : (p : Partition) (s : ℕ) → DeterminedAnswer said_number (block_number p s)
block_number_lem p s = determined_answer same_number

pub is_element_marked_lem : (p : Partition) (s : ℕ) → DeterminedAnswer said_flag (is_element_marked p s)
is_element_marked_lem p s = determined_answer same_flag

pub read_block_lem : (p : Partition) (b : ℕ) → DeterminedAnswer said_block (read_block p b)
read_block_lem p b = determined_answer same_block

-- what `iter_block` answers: a part of the lent elements
abbrev pub Iterated : Partition → ℕ → Bor (List ℕ) → Bor (List ℕ) → Type 0
Iterated p b elements r = (r.now ≡ iter_block p b) × BeginsAt r elements (iter_begin p b)

-- two parts that it may answer have the same cells, and lie at the same place
pub iter_block_lem :
    (p : Partition) (b : ℕ) (elements : Bor (List ℕ)) (r q : Bor (List ℕ)) → Iterated p b elements r → Iterated p b elements q →
    (r.now ≡ q.now) × (r.ref_ptr ≡ q.ref_ptr)
iter_block_lem p b elements r q u v = (u.0 ∙ sym v.0, u.1 ∙ sym v.1)

pub iter_block_refusal_lem : (p : Partition) (b : ℕ) → DeterminedAnswer said (iter_block_refusal p b)
iter_block_refusal_lem p b = determined_answer same_answer

pub mark_element_lem : (p : Partition) (s : ℕ) → Determined said (mark_element p s)
mark_element_lem p s = determined same_answer

pub swap-blocks : (p : Partition) (l r : ℕ) → Determined said (swap_blocks p l r)
swap-blocks p l r = determined same_answer
