-- Any two results that the contract of a call on one block allows are equal.
use mathlib.Core.Path.{refl}
use Rattle.columns.specs.OneResult.{OneResult}
use Rattle.columns.proofs.OneResult.{determined_answer}
use Rattle.columns.proofs.Saying.{same_number, same_flag}
use Rattle.partition.specs.contracts.block.Block as calls_said
use Rattle.partition.proofs.block.Block as calls
use Rattle.partition.proofs.Sayings.{same_block}

pub new : OneResult calls_said.new.ended calls.new.Reads.Learnt
new κs a r q x y e f = (determined_answer same_block r q e f, refl)

pub new_unmarked_lem : OneResult calls_said.new_unmarked.ended calls.new_unmarked.Reads.Learnt
new_unmarked_lem κs a r q x y e f = (determined_answer same_block r q e f, refl)

pub len : OneResult calls_said.len.ended calls.len.Reads.Learnt
len κs a r q x y e f = (determined_answer same_number r q e f, refl)

pub len_marked_lem : OneResult calls_said.len_marked.ended calls.len_marked.Reads.Learnt
len_marked_lem κs a r q x y e f = (determined_answer same_number r q e f, refl)

pub has_marked_lem : OneResult calls_said.has_marked.ended calls.has_marked.Reads.Learnt
has_marked_lem κs a r q x y e f = (determined_answer same_flag r q e f, refl)

pub has_unmarked_lem : OneResult calls_said.has_unmarked.ended calls.has_unmarked.Reads.Learnt
has_unmarked_lem κs a r q x y e f = (determined_answer same_flag r q e f, refl)
