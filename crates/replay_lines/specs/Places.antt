-- A place in the input, and the place after it.
use Rattle.std.specs.Prelude.{ℕ, ◌+◌, Bool, true, false, cond, not, Option, Some, None, List, ◌≡◌, ltb, eqb, get_or}
use Rattle.replay_lines.specs.declared.input.Input as input

-- a byte of a line: neither its end, 10, nor the input's, where there is none
unfoldable pub in_line : Option ℕ → Bool
in_line None = false
in_line (Some byte) = not (eqb byte 10)

-- whether a byte belongs to a word
unfoldable pub in_word : Option ℕ → Bool
unfolding in_line
in_word None = false
in_word (Some byte) = cond (eqb byte 32) false (in_line (Some byte))

-- what a number stands for: the input's end, where it is 256, and otherwise itself
unfoldable pub seen_of : ℕ → Option ℕ
seen_of byte = cond (eqb byte 256) None (Some byte)

-- the first place of a buffer into which `end` bytes are read, and its byte: the input has ended where there are none
unfoldable pub filled : List ℕ → ℕ → ℕ × Option ℕ
filled buffer end = cond (eqb end 0) (0, None) (1, Some (get_or buffer 0 0))

-- the next place within a buffer, and its byte
unfoldable pub stepped : input.Input → ℕ × Option ℕ
stepped i = (i.at + 1, Some (get_or i.bytes i.at 0))

-- whether it is within the buffer
unfoldable pub held : input.Input → Bool
held i = cond (ltb i.at i.end) (ltb i.at 65536) false

-- the place after a place, and what the buffer holds then
pub record Next (before after : input.Input) : Type 0 where
  pub within : held before ≡ true
      → ((after.at, after.byte) ≡ stepped before) × (after.end ≡ before.end) × (after.bytes ≡ before.bytes)
  pub beyond : held before ≡ false → (after.at, after.byte) ≡ filled after.bytes after.end
