-- Laws of what is shown of a slice.
use Prim.Native.Nat.{ℕ}
use mathlib.Core.List.{List}
use mathlib.Core.Path.{◌≡◌}
use Rattle.replay_lines.specs.Slices.{column_text}
use Rattle.replay_lines.specs.Text.{puts}
use Rattle.replay_slots.specs.declared.case.Case.{Case}
use Rattle.replay_slots.specs.Cases.{length_of}
use Rattle.replay_slots.specs.Parts.{between}
use Rattle.replay_slots.specs.Shown.{slice_text}

-- as many cells from the beginning as the case says are slice k
pub slice_shown : (case : Case) (k : ℕ) (cells : List ℕ) (s : ℕ × List ℕ) {part : List ℕ} {n : ℕ} {t : ℕ × List ℕ}
    → n ≡ length_of case k
    → part ≡ between cells 0 n
    → t ≡ puts (column_text case.short part) s
    → t ≡ puts (slice_text case k cells) s
unfolding slice_text
slice_shown case k cells s e f g = rw (← e, ← f) g
