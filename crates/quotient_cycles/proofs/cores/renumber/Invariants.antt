-- The loop of `renumber`: the numbers before are places.
use Rattle.std.proofs.Common.{length, get_or}
use Rattle.columns.proofs.Lists.{Painted}
use Rattle.quotient_cycles.proofs.cores.renumber.Given as goal

abbrev pub invariant-loop-number : goal.invariant-loop-number
invariant-loop-number l =
    Painted (λ s. get_or l.places (get_or l.fn.numbers s 0) 0) (length l.initial.number-items) l.initial.number-items l.number-index
    l.number-items
