-- Any two results that the contract of a call on one block allows are equal.
use Prim.Native.Nat.{ℕ}
use Rattle.columns.specs.Answers.{said_number, said_flag}
use Rattle.columns.specs.Determined.{DeterminedAnswer}
use Rattle.columns.proofs.Determined.{determined_answer}
use Rattle.columns.proofs.Saying.{same_number, same_flag}
use Rattle.partition.specs.declared.block.Block.{Block}
use Rattle.partition.specs.Block as calls
use Rattle.partition.proofs.Sayings.{same_block}

pub new : (begin end : ℕ) → DeterminedAnswer calls.said_block (calls.new_block begin begin end)
new begin end = determined_answer same_block

pub new_unmarked_lem : (begin end : ℕ) → DeterminedAnswer calls.said_block (calls.new_block begin end end)
new_unmarked_lem begin end = determined_answer same_block

pub len : (b : Block) → DeterminedAnswer said_number (calls.len b)
len b = determined_answer same_number

pub len_marked_lem : (b : Block) → DeterminedAnswer said_number (calls.len_marked b)
len_marked_lem b = determined_answer same_number

pub has_marked_lem : (b : Block) → DeterminedAnswer said_flag (calls.has_marked b)
has_marked_lem b = determined_answer same_flag

pub has_unmarked_lem : (b : Block) → DeterminedAnswer said_flag (calls.has_unmarked b)
has_unmarked_lem b = determined_answer same_flag
