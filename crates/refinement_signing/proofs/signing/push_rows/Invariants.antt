-- The loop of `push_rows`: the pairs of the rows seen are written.
use Rattle.std.proofs.Common.{◌≡◌, ◌+◌, get_or}
use Rattle.columns.specs.Columns.{listed}
use Rattle.columns.specs.Rows.{pairs_of}
use Rattle.refinement_signing.proofs.signing.push_rows.Given as goal

abbrev pub invariant-loop-d : goal.invariant-loop-d
invariant-loop-d l =
    pairs_of l.d l.pushed_labels l.pushed_blocks
    ≡ listed l.d (λ k. (get_or l.label (l.first + k) 0, get_or l.home (get_or l.target (l.first + k) 0) 0))
