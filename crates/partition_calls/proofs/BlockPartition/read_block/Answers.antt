-- `read_block` meets its contract.
use Rattle.std.proofs.Common.{true, refl, ap, ◌∙◌, arith}
use Rattle.columns.specs.Answers.{none, done}
use Rattle.columns.proofs.Saying.{numbered, asked_refused, asked_done}
use Rattle.partition.specs.Block.{block_values, entry, said_block}
use Rattle.partition.specs.Checks.{block_refusal}
use Rattle.partition.specs.Partition.{parts_of}
use Rattle.partition.specs.Readers.{read_block}
use Rattle.partition.specs.declared.block.Block.{Block}
use Rattle.partition.proofs.Refusals.{argument_ready}
use Rattle.partition_calls.proofs.BlockPartition.read_block.Goals as goal

pub returns-in-Err : goal.returns-in-Err
unfolding read_block
returns-in-Err c =
    let p = parts_of c.args.columns.now c.args.self.n c.args.self.count in
    let b = c.args.block_index in
    ap said_block c.refused.ensures
    ∙ asked_refused (block_refusal p b) _ c.in-Err.ensures (block_values (entry p.begin p.marked_split p.end b)) (numbered _)

pub read_block-requires : goal.read_block-requires
read_block-requires c =
    let p = parts_of c.args.columns.now c.args.self.n c.args.self.count in
    let q = argument_ready p c.args.block_index p.count true none c.in_default.ensures refl in
    omega (arith, q.known, q.sound.consistent.most, q.sound.long.begin, q.sound.long.marked_split, q.sound.long.end)

pub returns : goal.returns
unfolding read_block
returns c =
    let p = parts_of c.args.columns.now c.args.self.n c.args.self.count in
    let b = c.args.block_index in
    ap said_block c.done.ensures ∙ ap (λ (x : Block). done (block_values x)) c.read_block.ensures
    ∙ asked_done (block_refusal p b) none c.in_default.ensures (block_values (entry p.begin p.marked_split p.end b)) refl
