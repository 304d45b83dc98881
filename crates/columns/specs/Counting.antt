-- Counting, adding up and storing over the numbers below a bound.
use Rattle.std.specs.Prelude.{ℕ, zero, suc, ◌+◌, Bool, cond, true, ◌&&◌, List, [], ◌∷◌, ◌++◌, ltb, set}

-- f 0 + f 1 + .. + f (n - 1)
unfoldable pub sum : (ℕ → ℕ) → ℕ → ℕ
sum f zero = 0
sum f (suc n) = sum f n + f n

-- every number below n passes
unfoldable pub all : ℕ → (ℕ → Bool) → Bool
all zero f = true
all (suc n) f = all n f && f n

-- a flag as a number
abbrev pub bit : Bool → ℕ
bit b = cond b 1 0

-- how many numbers below n pass
unfoldable pub many : ℕ → (ℕ → Bool) → ℕ
many zero f = 0
many (suc n) f = many n f + bit (f n)

-- the least number below n that passes, and n if none does
unfoldable pub first : ℕ → (ℕ → Bool) → ℕ
first zero f = zero
first (suc n) f = let m = first n f in cond (f m) m (suc m)

-- some number below n passes
unfoldable pub some : ℕ → (ℕ → Bool) → Bool
unfolding first
some n f = ltb (first n f) n

-- for each s below n that passes, from 0 up, cell i s becomes v s
unfoldable pub stores : (ℕ → Bool) → (ℕ → ℕ) → (ℕ → ℕ) → ℕ → List ℕ → List ℕ
stores f i v zero l = l
stores f i v (suc n) l = cond (f n) (set (stores f i v n l) (i n) (v n)) (stores f i v n l)

-- the numbers below n that pass, ascending
unfoldable pub members : ℕ → (ℕ → Bool) → List ℕ
members zero f = []
members (suc n) f = members n f ++ cond (f n) (n ∷ []) []
