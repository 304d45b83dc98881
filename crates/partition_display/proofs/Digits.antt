-- The digits of a number below 10,000, read again, give the number: no two numbers have the same text.
use Prim.Native.Nat.{ℕ, ◌+◌, ◌*◌, ◌-◌, ◌/◌, ◌%◌, ◌≤◌, ◌<◌}
use native.Mathlib.Nat.{div-div-eq-div-mul}
use native.Mathlib.Omega.{arith}
use borrow.Author.Tests.{lt-ltb, le-ltb}
use mathlib.Core.Logic.{⊎_elim}
use mathlib.Core.Path.{◌≡◌}
use mathlib.Core.List.{List, [], ◌∷◌}
use Rattle.columns.proofs.All.{lt-or-le}
use Rattle.partition_display.specs.Display.{digit, decimal}

-- the number that digits stand for, behind those that gave `front`
abbrev pub read : ℕ → List ℕ → ℕ
read front [] = front
read front (d ∷ ds) = read (front * 10 + (d - 48)) ds

pub decimal-reads : (x : ℕ) → x < 10000 → read 0 (decimal x) ≡ x
unfolding decimal digit
decimal-reads x h =
    let hundreds : x / 10 / 10 ≡ x / 100 = div-div-eq-div-mul x 10 10 in
    let thousands : x / 100 / 10 ≡ x / 1000 = div-div-eq-div-mul x 100 10 in
    let last : x / 1000 % 10 ≡ x / 1000 = omega arith in
    ⊎_elim (λ (a : x < 10). rw (lt-ltb x 1000 (omega arith), lt-ltb x 100 (omega arith), lt-ltb x 10 a) (omega arith))
    (λ (a : 10 ≤ x). ⊎_elim (λ (b : x < 100). rw (lt-ltb x 1000 (omega arith), lt-ltb x 100 b, le-ltb x 10 a) (omega arith))
    (λ (b : 100 ≤ x). ⊎_elim (λ (c : x < 1000). rw (lt-ltb x 1000 c, le-ltb x 100 b, le-ltb x 10 a) (omega arith))
    (λ (c : 1000 ≤ x). rw (le-ltb x 1000 c, le-ltb x 100 b, le-ltb x 10 a) (omega arith))
    (lt-or-le x 1000)) (lt-or-le x 100)) (lt-or-le x 10)
