-- `check_write` meets its contract.
use Rattle.std.proofs.Common.{ℕ, leb, refl, ap, [], ◌∷◌, ◌++◌, ◌∙◌}
use Rattle.columns.specs.Due.{due, states_test, room_test}
use Rattle.columns.proofs.Chains.{refused_first, refused_second}
use Rattle.table.specs.Checks.{table_tests}
use Rattle.table.specs.Lts.{lts_of}
use Rattle.file.specs.Output.{output_size, write_refusal}
use Rattle.file.proofs.writing.check_write.Goals as goal

pub returns-in_err-check_states : goal.returns-in_err-check_states
unfolding write_refusal
returns-in_err-check_states c =
    let t = lts_of c.args.system.now in
    let tests = table_tests t (leb c.args.k c.args.blocks) in
    let room = room_test (output_size t.m c.args.k) c.args.room in
    refused_first (states_test c.args.k ∷ []) (tests ++ (room ∷ [])) refl _ _ c.in_err-check_states.ensures c.from_residual.ensures.1

pub returns-in_err-check : goal.returns-in_err-check
unfolding write_refusal
returns-in_err-check c =
    let t = lts_of c.args.system.now in
    let tests = table_tests t (leb c.args.k c.args.blocks) in
    let room = room_test (output_size t.m c.args.k) c.args.room in
    refused_second (states_test c.args.k ∷ []) (tests ++ (room ∷ [])) refl _ c.in_ok-check_states.ensures
    (refused_first tests (room ∷ []) refl _ _ c.in_err-check.ensures c.from_residual-in_err-check.ensures.1)

pub returns : goal.returns
unfolding write_refusal
returns c =
    let t = lts_of c.args.system.now in
    let tests = table_tests t (leb c.args.k c.args.blocks) in
    let room = room_test (output_size t.m c.args.k) c.args.room in
    refused_second (states_test c.args.k ∷ []) (tests ++ (room ∷ [])) refl _ c.in_ok-check_states.ensures
    (refused_second tests (room ∷ []) refl _ c.in_ok-check.ensures
    (c.refuse_unless.ensures ∙ ap (λ (n : ℕ). due (room_test n c.args.room ∷ [])) c.output_size-needed.ensures))
