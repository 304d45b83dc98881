-- `put_file` meets its contract.
use Rattle.std.proofs.Common.{ℕ, List, [], ◌∷◌, length, refl, ap, ◌∙◌, arith}
use Rattle.columns.specs.Answers.{done, refusal, none}
use Rattle.columns.specs.Columns.{over}
use Rattle.columns.specs.Due.{due, room_test}
use Rattle.columns.specs.Limits.{no_room}
use Rattle.columns.proofs.Saying.{left_refused, left_done}
use Rattle.file.specs.Output.{output_bytes, output_size}
use Rattle.file_reduction.specs.Answers.{said_file}
use Rattle.file_reduction.specs.Reducing.{put_file}
use Rattle.file_reduction.proofs.Ties.{no_room_lem, room_left}
use Rattle.table.specs.Lts.{lts_of}
use Rattle.file_reduction.proofs.put_file.Goals as goal

pub returns-then-output-size : goal.returns-then-output-size
unfolding put_file
returns-then-output-size c =
    let g = c.args in
    let bytes = g.output.now in
    let needed = output_size g.reduced.now.table.m (length g.blocks.now) in
    left_refused (due (room_test needed (length bytes) ∷ [])) _
    (ap (refusal no_room) c.output_size-size.ensures ∙ no_room_lem needed (length bytes) (omega (arith, c.if-output-size.true, c.output_size-size.ensures)))
    bytes (over (output_bytes (lts_of g.reduced.now) g.blocks.now) bytes)
    (needed ∷ g.table.n ∷ g.table.labels ∷ g.table.m ∷ g.reduced.now.table.n ∷ g.reduced.now.table.m ∷ g.rounds ∷ []) _ (λ z. omega (arith, z))
    (ap said_file c.refused.ensures)

pub returns : goal.returns
unfolding put_file
returns c =
    let g = c.args in
    let bytes = g.output.now in
    let needed = output_size g.reduced.now.table.m (length g.blocks.now) in
    let told : List ℕ = g.table.n ∷ g.table.labels ∷ g.table.m ∷ g.reduced.now.table.n ∷ g.reduced.now.table.m ∷ g.rounds ∷ [] in
    left_done (due (room_test needed (length bytes) ∷ [])) none
    (room_left needed (length bytes) (omega (arith, c.if-output-size.false, c.output_size-size.ensures)))
    bytes (over (output_bytes (lts_of g.reduced.now) g.blocks.now) bytes) (needed ∷ told) _ _ refl
    (ap said_file c.done.ensures ∙ ap (λ (n : ℕ). done (n ∷ told)) c.output_size-size.ensures) c.write.ensures
