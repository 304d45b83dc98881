-- The loop of `unmark`: a state that is still marked stands in the rest of the queue.
use Rattle.std.proofs.Common.{◌≡◌, ℕ, ◌<◌, ◌≤◌, get_or}
use mathlib.Core.Logic.{◌⊎◌}
use Rattle.signatures_branching.proofs.cores.unmark.Given as goal

abbrev pub invariant-loop-u : goal.invariant-loop-u
invariant-loop-u l =
    (u : ℕ) → (get_or l.marks u 0 ≡ 0) ⊎ ((j : ℕ) × (l.u-index ≤ j) × (j < l.fn.tail) × (get_or l.fn.queue j 0 ≡ u))
