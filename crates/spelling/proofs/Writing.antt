-- The digits that are written, before the first and after the last.
use Prim.Native.Nat.{ℕ, zero, suc, ◌<◌}
use native.Mathlib.Omega.{arith}
use mathlib.Core.List.{List, ◌++◌, append-nil}
use mathlib.Core.Path.{◌≡◌, ap, ◌∙◌}
use lib.ListN.{take}
use lib.Seq.{slice, slice_empty}
use Rattle.spelling.specs.Digits.{last_digits}

pub digits_none : (k n : ℕ) (out : List ℕ) → last_digits k n ++ slice k k out ≡ last_digits k n
digits_none k n out = ap (λ (l : List ℕ). last_digits k n ++ l) (slice_empty k out) ∙ append-nil (last_digits k n)

pub digits_all :
    (i k rest n : ℕ) (out : List ℕ) → i < 1 → last_digits i rest ++ slice i k out ≡ last_digits k n
    → take k out ≡ last_digits k n
digits_all zero k rest n out h e = e
digits_all (suc i) k rest n out h e = absurd (omega arith)
