-- `number_block` meets its contract.
use Rattle.std.proofs.Common.{refl}
use Rattle.refinement_signing.proofs.Numberings.{alike_equivalence, number_none}
use Rattle.refinement_signing.proofs.numbering.number_block.Goals as goal

pub loop-j-init : goal.loop-j-init
loop-j-init c = record { numbered = number_none _ (alike_equivalence _ _ _) _ c.args.n _ _; others = λ s h. refl }
