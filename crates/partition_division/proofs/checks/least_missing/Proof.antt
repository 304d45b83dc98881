-- `least_missing` meets its contract.
use mathlib.Core.Path.{◌∙◌}
use borrow.Author.Rules.{rules}
use Rattle.columns.specs.Limits.{max_states}
use Rattle.columns.proofs.Lists.{zeros_at}
use Rattle.columns.proofs.Counting.{first_cong}
use Rattle.partition_division.proofs.checks.least_missing.Statement.{statement}
use Rattle.partition_division.proofs.checks.least_missing.Tie as tie

slice_bounds-note-end : tie.Need-slice_bounds-note-end
slice_bounds-note-end c = search rules

note-requires : tie.Need-note-requires
note-requires c κs = (c.requires, zeros_at max_states)

slice_bounds-first_zero-end : tie.Need-slice_bounds-first_zero-end
slice_bounds-first_zero-end c = search rules

first_zero-requires : tie.Need-first_zero-requires
first_zero-requires c κs = search rules

returns : tie.Need-returns
returns c = c.first_zero.ensures ∙ first_cong _ _ _ c.note.ensures

pub least_missing_spec : {M : Type 1} → statement M
least_missing_spec =
    tie.close
    (tie.spec
    slice_bounds-note-end
    note-requires
    slice_bounds-first_zero-end
    first_zero-requires
    returns)
