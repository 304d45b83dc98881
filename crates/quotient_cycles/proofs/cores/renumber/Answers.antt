-- `renumber` meets its contract.
use Rattle.std.proofs.Common.{ℕ, ◌<◌, get_or, ap, ◌∙◌, arith}
use Rattle.std.proofs.lemmas.Grind.{common_steps}
use Rattle.std.proofs.lemmas.List.{get_or-take}
use lib.Seq.{length-take-le}
use Rattle.columns.proofs.Lists.{painted_none, painted_more, painted_rest, front_written}
use Rattle.quotient_cycles.proofs.cores.renumber.Goals as goal

pub loop-number-init : goal.loop-number-init
loop-number-init c = painted_none _ _ _

pub bounds-places-number : goal.bounds-places-number
bounds-places-number c =
    let i = c.loop-number.number-index in
    let w : i < c.args.n = omega (arith, length-take-le c.args.n c.args.numbers.now (omega arith)) in
    let old = painted_rest _ _ _ _ _ c.loop-number.invariant ∙ get_or-take c.args.n c.args.numbers.now i 0 w in
    omega (arith, old, c.requires.by_index i w)

pub loop-number-preserved : goal.loop-number-preserved
loop-number-preserved c =
    let i = c.loop-number.number-index in
    let w : i < c.args.n = omega (arith, length-take-le c.args.n c.args.numbers.now (omega arith)) in
    let old = painted_rest _ _ _ _ _ c.loop-number.invariant ∙ get_or-take c.args.n c.args.numbers.now i 0 w in
    painted_more _ _ _ _ _ _ (omega arith) (omega arith) (ap (λ (b : ℕ). get_or c.args.places.now b 0) old) c.loop-number.invariant

pub returns : goal.returns
returns c = front_written c.args.n _ c.args.numbers.now _ (omega arith) (grind (arith, common_steps))
