-- The text of a slice that may have changed.
use Rattle.std.specs.Prelude.{ℕ, List}
use Rattle.replay_lines.specs.Slices.{column_text}
use Rattle.replay_slots.specs.declared.case.Case.{Case}
use Rattle.replay_slots.specs.Cases.{length_of}
use Rattle.replay_slots.specs.Parts.{between}

-- slice k of those that may change, which lies at the beginning of these cells
unfoldable pub slice_text : Case → ℕ → List ℕ → List ℕ
unfolding column_text between
slice_text case k cells = column_text case.short (between cells 0 (length_of case k))
