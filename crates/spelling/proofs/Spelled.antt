-- The digits of a number, the fewest that hold it, are those of `digits`.
use Prim.Native.Nat.{ℕ, zero, suc, ◌+◌, ◌-◌, ◌*◌, ◌/◌, ◌%◌, ◌^◌, ◌≤◌, ◌<◌}
use mathlib.Core.List.{List, [], ◌∷◌, ◌++◌}
use mathlib.Core.Logic.{⊎_elim}
use mathlib.Core.Path.{◌≡◌, refl, sym, ap, subst, ◌∙◌}
use native.Mathlib.Nat.{le_trans, le_of_suc-le-suc, not-suc-le-zero, mul-le-mul_right, mul-div-le, one-mul, pow-zero, pow-suc, one-le-pow, pow-le-pow_right, div-div-eq-div-mul, div-lt_self, mod-eq_of_lt, div-lt_iff_lt-mul, le-div_iff_mul-le}
use native.Mathlib.Numerals.{unary_clauses, add-one, sub-one}
use native.Mathlib.Omega.{arith}
use lib.Dec.{ltb}
use lib.ListN.{length, take, drop, set}
use lib.Seq.{slice, length-take-le, take-set-lt, append_snoc}
use borrow.Author.Tests.{lt-ltb, le-ltb}
use Rattle.columns.proofs.All.{lt-or-le}
use Rattle.spelling.specs.Digits.{digits_within, digits, IsDigitCount, last_digits}

single : (f n : ℕ) → n < 10 → (48 + n) ∷ [] ≡ digits_within f (ltb n 10) n
unfolding digits_within
single zero n h = refl
single (suc f) n h = rw (lt-ltb n 10 h)

-- a number of more digits than one is at least that power of ten
at_least : (k n : ℕ) → IsDigitCount n (suc (suc k)) → 10 ^ suc k ≤ n
at_least k n w = rw pow-suc (simp unary_clauses at (w.2 (omega arith)))

-- it without its last digit
shorter : (k n : ℕ) → IsDigitCount n (suc (suc k)) → IsDigitCount (n / 10) (suc k)
shorter k n w = (
  omega arith,
  (div-lt_iff_lt-mul {k = 10} (omega arith)).1 (rw (← pow-suc) w.1),
  λ h. simp unary_clauses ((le-div_iff_mul-le {k = 10} (omega arith)).1 (rw (← pow-suc) (at_least k n w))),
)

ten : (k : ℕ) → 10 ≤ 10 ^ suc k
ten k = pow-le-pow_right {n = 10} (omega arith) {i = 1} {j = suc k} (omega arith)

within : (k f n : ℕ) → n ≤ f → IsDigitCount n (suc k) → last_digits (suc k) n ≡ digits_within f (ltb n 10) n
unfolding digits_within
within zero f n h w =
    let small : n < 10 = w.1 in
    ap (λ d. (48 + d) ∷ []) (mod-eq_of_lt small) ∙ single f n small
within (suc k) zero n h w = absurd (omega (arith, ten k, at_least k n w))
within (suc k) (suc f) n h w =
    let more : 10 ≤ n = omega (arith, ten k, at_least k n w) in
    ap (◌++ ((48 + n % 10) ∷ [])) (within k f (n / 10) (omega (arith, div-lt_self {n = n} {k = 10} (omega arith) (omega arith)))
    (shorter k n w))
    ∙ rw (le-ltb n 10 more)

pub fewest_digits : (k n : ℕ) → IsDigitCount n k → last_digits k n ≡ digits n
unfolding digits
fewest_digits zero n w = absurd (omega (arith, w.0))
fewest_digits (suc k) n w = within k n n (omega arith) w

-- of a number below 2^64 there are at most 20
pub few_digits : (k n : ℕ) → n < 2 ^ 64 → IsDigitCount n k → k ≤ 20
few_digits k n h w =
    ⊎_elim (λ (few : k < 21). omega arith)
    (λ (many : 21 ≤ k).
    let more : 10 ^ 20 ≤ 10 ^ (k - 1) = pow-le-pow_right {n = 10} (omega arith) {i = 20} {j = k - 1} (omega arith) in
    absurd (omega (arith, w.2 (omega arith))))
    (lt-or-le k 21)

-- ---- counting the digits: what is left of n after k of them
pub twice_div : (n : ℕ) → 2 * (n / 10) ≤ n
twice_div n = le_trans (mul-le-mul_right (n / 10) (let h : 2 ≤ 10 = omega arith in h)) (mul-div-le n 10)

pub left_one : (n : ℕ) → n / 10 ≡ n / 10 ^ 1
left_one n = ap (λ (d : ℕ). n / d) (sym (pow-suc 10 0 ∙ ap (λ (p : ℕ). p * 10) (pow-zero 10) ∙ one-mul 10))

pub left_more : (n k : ℕ) → n / 10 ^ k / 10 ≡ n / 10 ^ (k + 1)
left_more n k = div-div-eq-div-mul n (10 ^ k) 10 ∙ ap (λ (d : ℕ). n / d) (sym (pow-suc 10 k) ∙ ap (λ (j : ℕ). 10 ^ j) (sym (add-one k)))

-- something is left of n after k digits, so one more is wanted
pub more_left : (n k : ℕ) → 0 < n / 10 ^ k → 10 ^ (k + 1 - 1) ≤ n
more_left n k some =
    let e : k ≡ k + 1 - 1 = omega arith in
    let p : 1 * 10 ^ k ≤ n = (le-div_iff_mul-le (one-le-pow k 10 (omega arith))).0 some in
    subst (λ (j : ℕ). 10 ^ j ≤ n) e (omega arith)

-- nothing is left of n after k digits, so they hold it
pub none_left : (n k : ℕ) → n / 10 ^ k < 1 → n < 10 ^ k
none_left n k none =
    let p : n < 1 * 10 ^ k = (div-lt_iff_lt-mul (one-le-pow k 10 (omega arith))).0 none in omega arith

-- ---- writing the digits from the last one on: those to write, and then those written
from_set : (t : List ℕ) (j g : ℕ) → j < length t → drop j (set t j g) ≡ g ∷ drop (suc j) t
from_set [] j g h = absurd (not-suc-le-zero h)
from_set (x ∷ xs) zero g h = refl
from_set (x ∷ xs) (suc j) g h = from_set xs j g (le_of_suc-le-suc h)

pub digit_more :
    (i k rest g : ℕ) (out : List ℕ) → 0 < i → i ≤ k → k ≤ length out → g ≡ 48 + rest % 10
    → last_digits (i - 1) (rest / 10) ++ slice (i - 1) k (set out (i - 1) g) ≡ last_digits i rest ++ slice i k out
digit_more zero k rest g out some h room e = absurd (not-suc-le-zero some)
digit_more (suc j) k rest g out some h room e =
    let todo = last_digits j (rest / 10) in
    let done = slice (suc j) k out in
    let within : j < length (take k out) = subst (λ (n : ℕ). j < n) (sym (length-take-le k out room)) h in
    ap (λ (m : ℕ). last_digits m (rest / 10) ++ slice m k (set out m g)) (sub-one (suc j))
    ∙ ap (λ (l : List ℕ). todo ++ drop j l) (take-set-lt k out j g h)
    ∙ ap (λ (l : List ℕ). todo ++ l) (from_set (take k out) j g within)
    ∙ ap (λ (x : ℕ). todo ++ x ∷ done) e
    ∙ sym (append_snoc todo (48 + rest % 10) done)
