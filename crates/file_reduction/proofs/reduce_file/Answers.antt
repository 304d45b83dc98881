-- `reduce_file` meets its contract.
use Rattle.std.proofs.Common.{true, [], ◌∷◌, length, refl, ap, ◌∙◌}
use Rattle.columns.specs.Answers.{Refusal, leaving, none, refusal_of}
use Rattle.columns.specs.Columns.{over}
use Rattle.columns.specs.Due.{room_test}
use Rattle.columns.proofs.Chains.{goes_on_lem}
use Rattle.columns.proofs.Saying.{numbered}
use Rattle.file.specs.Input.{table_in, file_tests}
use Rattle.file.proofs.Inputs.{accepted_of}
use Rattle.file_reduction.specs.Answers.{said_file}
use Rattle.file_reduction.specs.Reducing.{reduced_bytes, reduced_size, file_numbers, reduce_table, reduce_file}
use Rattle.file_reduction.proofs.Done.{refused_file}
use Rattle.file_reduction.proofs.Ties.{largest, always_room}
use Rattle.file_reduction.proofs.reduce_file.Goals as goal

pub returns-in-Err : goal.returns-in-Err
returns-in-Err c =
    let s = c.args.input.now in
    refused_file s c.args.output.now (refusal_of c.in-Err.refusal) (c.in-Err.ensures ∙ always_room s) (numbered _) _
    (ap said_file c.refused.ensures)

pub reduce_checked-requires : goal.reduce_checked-requires
reduce_checked-requires c =
    let a = accepted_of c.args.input.now largest none c.in_default.ensures refl in
    (a.valid, a.contents.size)

pub returns : goal.returns
unfolding reduce_file reduce_table
returns c =
    let s = c.args.input.now in
    let output = c.args.output.now in
    let t = table_in s in
    c.reduce_checked.ensures
    ∙ ap (λ (r : Refusal). leaving r output (file_numbers t) (over (reduced_bytes t) output))
    (goes_on_lem (file_tests s true) (room_test (reduced_size t) (length output) ∷ []) refl none (c.in_default.ensures ∙ always_room s) refl)
