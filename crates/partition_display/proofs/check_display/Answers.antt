-- `check_display` meets its contract.
use Rattle.std.proofs.Common.{refl, ap, ◌∙◌, ℕ, [], ◌∷◌, length, true}
use Rattle.columns.specs.Due.{due, room_test}
use Rattle.columns.proofs.Chains.{refused_first, refused_second}
use Rattle.partition.specs.Checks.{partition_tests}
use Rattle.partition.specs.Partition.{parts_of}
use Rattle.partition_display.specs.Display.{display_text, display_refusal}
use Rattle.partition_display.proofs.Refusing.{checked_reads}
use Rattle.partition_display.proofs.Writes.{wrote_size}
use Rattle.partition_display.proofs.check_display.Goals as goal

pub returns-in_err-check : goal.returns-in_err-check
unfolding display_refusal
returns-in_err-check c =
    let p = parts_of c.args.columns.now c.args.n c.args.count in
    refused_first (partition_tests p true) (room_test (length (display_text p)) c.args.room ∷ []) refl _ _ c.in_err-check.ensures
    c.from_residual.ensures.1

pub write_blocks-length-requires : goal.write_blocks-length-requires
write_blocks-length-requires c = checked_reads (parts_of c.args.columns.now c.args.n c.args.count) c.in_ok-check.ensures

pub returns : goal.returns
unfolding display_refusal display_text
returns c =
    let p = parts_of c.args.columns.now c.args.n c.args.count in
    refused_second (partition_tests p true) (room_test (length (display_text p)) c.args.room ∷ []) refl _ c.in_ok-check.ensures
    (c.refuse_unless.ensures
    ∙ ap (λ (k : ℕ). due (room_test k c.args.room ∷ [])) (wrote_size {s = display_text p} c.write_blocks-length.ensures))
