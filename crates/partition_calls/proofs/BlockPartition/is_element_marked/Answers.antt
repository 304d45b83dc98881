-- `is_element_marked` meets its contract.
use Rattle.std.proofs.Common.{Bool, true, not, refl, ap, ◌∙◌, [], ◌∷◌, arith}
use Rattle.columns.specs.Answers.{none, done, said_flag}
use Rattle.columns.specs.Counting.{bit}
use Rattle.columns.proofs.Saying.{numbered, asked_refused, asked_done}
use Rattle.partition.specs.Checks.{state_refusal}
use Rattle.partition.specs.Marked.{unmarkedb}
use Rattle.partition.specs.Partition.{parts_of}
use Rattle.partition.specs.Readers.{is_element_marked}
use Rattle.partition.proofs.Marks.{block_known, marked_read}
use Rattle.partition.proofs.Refusals.{argument_ready}
use Rattle.partition_calls.proofs.BlockPartition.is_element_marked.Goals as goal

pub returns-in-Err : goal.returns-in-Err
unfolding is_element_marked
returns-in-Err c =
    let p = parts_of c.args.columns.now c.args.self.n c.args.self.count in
    let s = c.args.element in
    ap said_flag c.refused.ensures
    ∙ asked_refused (state_refusal p s) _ c.in-Err.ensures (bit (not (unmarkedb p s)) ∷ []) (numbered _)

pub at-b-requires : goal.at-b-requires
at-b-requires c =
    let p = parts_of c.args.columns.now c.args.self.n c.args.self.count in
    let q = argument_ready p c.args.element p.n true none c.in_default.ensures refl in
    omega (arith, q.known, q.sound.long.element_to_block)

pub at-requires : goal.at-requires
at-requires c =
    let p = parts_of c.args.columns.now c.args.self.n c.args.self.count in
    let q = argument_ready p c.args.element p.n true none c.in_default.ensures refl in
    block_known p _ _ c.at-b.ensures.0 q.sound q.known

pub at-requires-2 : goal.at-requires-2
at-requires-2 c =
    let p = parts_of c.args.columns.now c.args.self.n c.args.self.count in
    let q = argument_ready p c.args.element p.n true none c.in_default.ensures refl in
    omega (arith, q.known, q.sound.long.element_offset)

pub returns : goal.returns
unfolding is_element_marked
returns c =
    let p = parts_of c.args.columns.now c.args.self.n c.args.self.count in
    let s = c.args.element in
    ap said_flag c.done.ensures
    ∙ ap (λ (b : Bool). done (bit b ∷ [])) (marked_read p s _ _ _ c.at-b.ensures.0 c.at-2.ensures.0 c.at.ensures.0)
    ∙ asked_done (state_refusal p s) none c.in_default.ensures (bit (not (unmarkedb p s)) ∷ []) refl
