-- The digits of a number as `io` has them, the fewest that hold it, are those of `digits`.
use Prim.Native.Nat.{ℕ, zero, suc, ◌+◌, ◌/◌, ◌%◌, ◌^◌, ◌≤◌, ◌<◌}
use mathlib.Core.List.{[], ◌∷◌, ◌++◌}
use mathlib.Core.Path.{◌≡◌, refl, ap, ◌∙◌}
use native.Mathlib.Nat.{pow-suc, pow-le-pow_right, div-lt_self, mod-lt, mod-eq_of_lt, div-lt_iff_lt-mul, le-div_iff_mul-le}
use native.Mathlib.Numerals.{unary_clauses}
use native.Mathlib.Omega.{arith}
use lib.Dec.{ltb}
use borrow.Author.Tests.{lt-ltb, le-ltb}
use Rattle.io.specs.Digits.{hex_digit_ascii, IsDigitCount, last_digits as fixed}
use Rattle.replay_lines.specs.Spelling.{digits_within, digits}

glyph_digit : (d : ℕ) → d < 10 → hex_digit_ascii d ≡ 48 + d
glyph_digit d h = rw (lt-ltb d 10 h)

single : (f n : ℕ) → n < 10 → (48 + n) ∷ [] ≡ digits_within f (ltb n 10) n
unfolding digits_within
single zero n h = refl
single (suc f) n h = rw (lt-ltb n 10 h)

-- a number of more digits than one is at least that power of ten
at_least : (k n : ℕ) → IsDigitCount 10 1 n (suc (suc k)) → 10 ^ suc k ≤ n
at_least k n w = rw pow-suc (simp unary_clauses at (w.2 (omega arith)))

-- it without its last digit
shorter : (k n : ℕ) → IsDigitCount 10 1 n (suc (suc k)) → IsDigitCount 10 1 (n / 10) (suc k)
shorter k n w = (
  omega arith,
  (div-lt_iff_lt-mul {k = 10} (omega arith)).1 (rw (← pow-suc) w.1),
  λ h. simp unary_clauses ((le-div_iff_mul-le {k = 10} (omega arith)).1 (rw (← pow-suc) (at_least k n w))),
)

ten : (k : ℕ) → 10 ≤ 10 ^ suc k
ten k = pow-le-pow_right {n = 10} (omega arith) {i = 1} {j = suc k} (omega arith)

within : (k f n : ℕ) → n ≤ f → IsDigitCount 10 1 n (suc k) → fixed 10 (suc k) n ≡ digits_within f (ltb n 10) n
unfolding digits_within
within zero f n h w =
    let small : n < 10 = w.1 in
    ap (λ d. d ∷ []) (glyph_digit (n % 10) (mod-lt n (omega arith)) ∙ ap (48 +◌) (mod-eq_of_lt small)) ∙ single f n small
within (suc k) zero n h w = absurd (omega (arith, ten k, at_least k n w))
within (suc k) (suc f) n h w =
    let more : 10 ≤ n = omega (arith, ten k, at_least k n w) in
    ap (fixed 10 (suc k) (n / 10) ++◌) (ap (λ d. d ∷ []) (glyph_digit (n % 10) (mod-lt n (omega arith))))
    ∙ ap (◌++ ((48 + n % 10) ∷ [])) (within k f (n / 10) (omega (arith, div-lt_self {n = n} {k = 10} (omega arith) (omega arith)))
    (shorter k n w))
    ∙ rw (le-ltb n 10 more)

pub fewest_digits : (k n : ℕ) → IsDigitCount 10 1 n k → fixed 10 k n ≡ digits n
unfolding digits
fewest_digits zero n w = absurd (omega (arith, w.0))
fewest_digits (suc k) n w = within k n n (omega arith) w
