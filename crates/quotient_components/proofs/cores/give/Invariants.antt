-- The loop of `give`: the cells before i have their new values.
use Rattle.std.proofs.Common.{length, get_or}
use Rattle.columns.proofs.Lists.{Painted}
use Rattle.quotient_components.specs.Numbering.{if_both}
use Rattle.quotient_components.proofs.cores.give.Given as goal

abbrev pub invariant-loop-i : goal.invariant-loop-i
invariant-loop-i l =
    Painted (λ u. if_both (get_or l.forward u 0) (get_or l.backward u 0) l.x (get_or l.fn.numbers u 0)) (length l.fn.numbers) l.fn.numbers
    l.i l.numbers
