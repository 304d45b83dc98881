-- `renumber` meets its contract.
use Rattle.std.proofs.Common.{◌≡◌, ◌+◌, arith}
use Rattle.std.proofs.lemmas.List.Edits.{get_or-between}
use Rattle.partition.proofs.Renumbering.{renumbered-none, renumbered_more}
use Rattle.partition.proofs.cores.renumber.Goals as goal

pub loop-s-init : goal.loop-s-init
loop-s-init c =
    let e : c.args.x + 0 ≡ c.args.x = omega arith in
    rw e (renumbered-none _ _ _ _)

pub loop-s-preserved : goal.loop-s-preserved
loop-s-preserved c =
    let a = c.args in
    let i = c.loop-s.s-index in
    let e : a.x + (i + 1) ≡ a.x + i + 1 = omega arith in
    rw e (renumbered_more _ _ _ _ _ _ _ (omega arith) (get_or-between a.elements.now a.x a.z i 0 (omega arith)) c.loop-s.invariant)
