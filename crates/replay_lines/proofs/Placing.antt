-- The place after a place.
use Prim.Native.Nat.{ℕ, ◌<◌, ◌≤◌}
use mathlib.Core.Bool.{Bool, true, false, cond}
use mathlib.Core.Path.{◌≡◌, refl}
use native.Mathlib.Omega.{arith}
use lib.Dec.{ltb, eqb}
use Rattle.std.specs.Prelude.{not, Option, Some, None}
use Rattle.std.specs.Option.{option_eq}
use borrow.Author.Tests.{lt-ltb, le-ltb}
use Rattle.replay_lines.specs.declared.input.Input as input
use Rattle.replay_lines.specs.Places.{in_line, in_word, seen_of, filled, stepped, held, Next}
use Rattle.columns.proofs.Bools.{contra}

pub held_full : (i : input.Input) → 65536 ≤ i.at → held i ≡ false
unfolding held
held_full i h = full (ltb i.at i.end)
  where
    full : (b : Bool) → cond b (ltb i.at 65536) false ≡ false
    full true = le-ltb i.at 65536 h
    full false = refl

pub held_end : (i : input.Input) → i.end ≤ i.at → held i ≡ false
unfolding held
held_end i h = rw (le-ltb i.at i.end h)

held_true : (i : input.Input) → i.at < i.end → i.at < 65536 → held i ≡ true
unfolding held
held_true i h k = rw (lt-ltb i.at i.end h, lt-ltb i.at 65536 k)

pub next_within : (before after : input.Input) → before.at < before.end → before.at < 65536
    → (after.at, after.byte) ≡ stepped before → after.end ≡ before.end → after.bytes ≡ before.bytes → Next before after
next_within before after h k place end bytes =
    record { within = λ q. (place, end, bytes); beyond = λ q. absurd (contra (held_true before h k) q) }

pub next_beyond : (before after : input.Input) → held before ≡ false → (after.at, after.byte) ≡ filled after.bytes after.end
    → Next before after
next_beyond before after h place = record { within = λ q. absurd (contra q h); beyond = λ q. place }

-- a blank belongs to no word, and any other byte to one if it is a byte of a line
pub blank : (byte : Option ℕ) → not (option_eq eqb byte (Some 32)) ≡ false → false ≡ in_word byte
unfolding in_word
blank None h = refl
blank (Some byte) h = grind arith

pub no_blank : (byte : Option ℕ) → not (option_eq eqb byte (Some 32)) ≡ true → in_line byte ≡ in_word byte
unfolding in_word
no_blank None h = refl
no_blank (Some byte) h = grind arith

-- a number other than 10, which ends the line, and 256, where the input ends, is within the line
pub in_line_number : (n : ℕ) → in_line (seen_of n) ≡ cond (eqb n 10) false (not (eqb n 256))
unfolding in_line seen_of
in_line_number n = grind arith

-- and one other than 32 too belongs to a word
pub in_word_number : (n : ℕ) → in_word (seen_of n) ≡ cond (eqb n 32) false (cond (eqb n 10) false (not (eqb n 256)))
unfolding in_word in_line seen_of
in_word_number n = grind arith
