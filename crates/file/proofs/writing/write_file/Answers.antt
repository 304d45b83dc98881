-- `write_file` meets its contract.
use Rattle.std.proofs.Common.{ℕ, [], ◌∷◌, length, ap, sym, refl, ◌∙◌, arith}
use lib.Seq.{length-take-le}
use Rattle.columns.specs.Answers.{none, done, said_number}
use Rattle.columns.proofs.Saying.{left_refused, left_done, numbered}
use Rattle.table.specs.Lts.{lts_of}
use Rattle.file.specs.Output.{write_refusal, write_file}
use Rattle.file.proofs.Outputs.{writable}
use Rattle.file.proofs.writing.write_file.Goals as goal

pub returns-in-Err : goal.returns-in-Err
unfolding write_file
returns-in-Err c =
    let t = lts_of c.args.system.now in
    left_refused (write_refusal t c.args.states (length c.args.blocks.now) (length c.args.bytes.now)) _ c.in-Err.ensures _ _ _ _ (numbered _)
    (ap said_number c.refused.ensures)

pub slice_bounds-write-end : goal.slice_bounds-write-end
slice_bounds-write-end c = sym (length-take-le c.args.states c.args.blocks.now (writable _ _ _ _ none c.in_default.ensures refl).blocks_long)

pub write-requires-clause-rows_long : goal.write-requires-clause-rows_long
write-requires-clause-rows_long c =
    let w = writable _ _ _ _ none c.in_default.ensures refl in
    (w.valid.long, omega (arith, length-take-le c.args.states c.args.blocks.now w.blocks_long, w.few))

pub write-requires-clause-blocks_in_bounds : goal.write-requires-clause-blocks_in_bounds
write-requires-clause-blocks_in_bounds c =
    let w = writable _ _ _ _ none c.in_default.ensures refl in
    omega (arith, length-take-le c.args.states c.args.blocks.now w.blocks_long, w.enough)

pub returns : goal.returns
unfolding write_file
returns c =
    let t = lts_of c.args.system.now in
    left_done (write_refusal t c.args.states (length c.args.blocks.now) (length c.args.bytes.now)) none c.in_default.ensures _ _ _ _ _ refl
    (ap said_number c.done.ensures ∙ ap (λ (n : ℕ). done (n ∷ [])) c.output_size.ensures) c.write.ensures
