-- `sign_rows` meets its contract.
use Rattle.std.proofs.Common.{arith}
use Rattle.refinement_signing.proofs.OwnRows.{sign_few, sign_behind, still_zero}
use Rattle.refinement_signing.proofs.signing.sign_rows.Goals as goal

pub overflow_add-result : goal.overflow_add-result
overflow_add-result c = record { fits = omega (arith, sign_few _ _ _ _ _ c.push_rows.ensures c.flatten-r.ensures.value) }

pub returns : goal.returns
returns c =
    let pushed = c.push_rows.ensures in
    let flat = c.flatten-r.ensures in (
      omega (arith, sign_few _ _ _ _ _ pushed flat.value),
      sign_behind _ _ _ _ _ pushed flat.value _ _ _ _ _ _ _ (omega arith) (omega arith) flat.blocks_value,
      still_zero _ c.args.spare.now _ c.requires.d_le_first.3 (omega arith) flat.order_value.1,
    )
