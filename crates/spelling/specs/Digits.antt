-- Numbers as bytes: 48 is the digit 0.
use Rattle.std.specs.Prelude.{ℕ, zero, suc, ◌+◌, ◌-◌, ◌/◌, ◌%◌, ◌^◌, ◌<◌, ◌≤◌, Bool, true, false, List, [], ◌∷◌, ◌++◌, ltb}

-- the digits of n in at most k turns more, where the flag says that n is a single digit
unfoldable pub digits_within : ℕ → Bool → ℕ → List ℕ
digits_within zero b n = (48 + n) ∷ []
digits_within (suc k) true n = (48 + n) ∷ []
digits_within (suc k) false n = digits_within k (ltb (n / 10) 10) (n / 10) ++ ((48 + n % 10) ∷ [])

-- the decimal digits of n, without leading zeros: n turns are enough
unfoldable pub digits : ℕ → List ℕ
unfolding digits_within
digits n = digits_within n (ltb n 10) n

-- n has k decimal digits: the fewest that hold it, and at least one
abbrev pub IsDigitCount : (n k : ℕ) → Type 0
IsDigitCount n k = (0 < k) × (n < 10 ^ k) × (1 < k → 10 ^ (k - 1) ≤ n)

-- the last k decimal digits of n, the most significant first
abbrev pub last_digits : (k n : ℕ) → List ℕ
last_digits zero n = []
last_digits (suc k) n = last_digits k (n / 10) ++ ((48 + n % 10) ∷ [])
