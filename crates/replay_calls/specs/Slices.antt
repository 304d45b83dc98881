-- The slices of a case.
use Rattle.std.specs.Prelude.{ℕ, List}
use Rattle.std.specs.Borrow.{Bor}
use Rattle.replay_slots.specs.declared.case.Case.{Case}
use Rattle.replay_slots.specs.Cases.{start_of, end_of}
use Rattle.replay_slots.specs.Parts.{Part}

-- r is the slice of u16 at place k of a case whose cells are x
abbrev pub SliceOf : Bor (List ℕ) → Bor (List ℕ) → Case → ℕ → Type 0
SliceOf r x case k = Part 2 r x (start_of case k) (end_of case k)
