-- `block_number` meets its contract.
use Rattle.std.proofs.Common.{true, refl, ap, ◌∙◌, [], ◌∷◌, arith}
use Rattle.columns.specs.Answers.{none, said_number}
use Rattle.columns.proofs.Saying.{numbered, asked_refused, asked_done}
use Rattle.partition.specs.Checks.{state_refusal}
use Rattle.partition.specs.Partition.{home_of, parts_of}
use Rattle.partition.specs.Readers.{block_number}
use Rattle.partition.proofs.Refusals.{argument_ready}
use Rattle.partition_calls.proofs.BlockPartition.block_number.Goals as goal

pub returns-in-Err : goal.returns-in-Err
unfolding block_number
returns-in-Err c =
    let p = parts_of c.args.columns.now c.args.self.n c.args.self.count in
    let s = c.args.element in
    ap said_number c.refused.ensures ∙ asked_refused (state_refusal p s) _ c.in-Err.ensures (home_of p s ∷ []) (numbered _)

pub bounds-columns-s : goal.bounds-columns-s
bounds-columns-s c =
    let p = parts_of c.args.columns.now c.args.self.n c.args.self.count in
    let q = argument_ready p c.args.element p.n true none c.in_default.ensures refl in
    omega (arith, q.known, q.sound.long.element_to_block)

pub returns : goal.returns
unfolding block_number
returns c =
    let p = parts_of c.args.columns.now c.args.self.n c.args.self.count in
    let s = c.args.element in
    ap said_number c.done.ensures ∙ asked_done (state_refusal p s) none c.in_default.ensures (home_of p s ∷ []) refl
