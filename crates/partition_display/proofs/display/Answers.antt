-- `display` meets its contract.
use Rattle.std.proofs.Common.{refl, ap, ◌∙◌, ℕ, [], ◌∷◌, length}
use Rattle.columns.specs.Answers.{none, done, said_number}
use Rattle.columns.specs.Columns.{over}
use Rattle.columns.proofs.Saying.{numbered, left_refused, left_done}
use Rattle.partition.specs.Partition.{parts_of}
use Rattle.partition_display.specs.Display.{display_text, display_refusal, displayed}
use Rattle.partition_display.proofs.Refusing.{display_reads, display_room}
use Rattle.partition_display.proofs.Writes.{wrote_size, wrote_over}
use Rattle.partition_display.proofs.display.Goals as goal

pub returns-in-Err : goal.returns-in-Err
unfolding displayed
returns-in-Err c =
    let p = parts_of c.args.columns.now c.args.partition.n c.args.partition.count in
    let text = c.args.text.now in
    left_refused (display_refusal p (length text)) _ c.in-Err.ensures text (over (display_text p) text) (length (display_text p) ∷ []) _
    (numbered _) (ap said_number c.refused.ensures)

pub write_blocks-requires : goal.write_blocks-requires
write_blocks-requires c =
    display_reads (parts_of c.args.columns.now c.args.partition.n c.args.partition.count) (length c.args.text.now) c.in_default.ensures

pub returns : goal.returns
unfolding displayed display_text
returns c =
    let p = parts_of c.args.columns.now c.args.partition.n c.args.partition.count in
    let text = c.args.text.now in
    left_done (display_refusal p (length text)) none c.in_default.ensures text (over (display_text p) text) (length (display_text p) ∷ [])
    _ _ refl
    (ap said_number c.done.ensures ∙ ap (λ (k : ℕ). done (k ∷ [])) (wrote_size {s = display_text p} c.write_blocks.ensures))
    (wrote_over {s = display_text p} c.write_blocks.ensures (display_room p (length text) c.in_default.ensures))
