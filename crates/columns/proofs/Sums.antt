-- Sums over the numbers below a bound, and the counting argument: what is at most pointwise, with equal sums, is equal pointwise.
use Prim.Native.Nat.{ℕ, zero, suc, ◌+◌, ◌-◌, ◌≤◌, ◌<◌}
use native.Mathlib.Omega.{arith}
use borrow.Author.Tests.{lt-ltb, le-ltb, le-leb, lt-leb, eq-eqb, ne_eqb}
use mathlib.Core.Bool.{cond, ◌&&◌}
use mathlib.Core.Path.{◌≡◌, refl, ap, sym, ◌∙◌}
use mathlib.Core.Logic.{⊎_elim}
use lib.Dec.{ltb, leb, eqb}
use Rattle.columns.specs.Counting.{sum, bit}
use Rattle.columns.proofs.All.{top_or-below, same_or_not, lt-or-le}

pub sum_mono : (f g : ℕ → ℕ) (n : ℕ) → ((k : ℕ) → k < n → f k ≤ g k) → sum f n ≤ sum g n
unfolding sum
sum_mono f g zero h = omega arith
sum_mono f g (suc n) h = omega (arith, sum_mono f g n (λ k l. h k (omega arith)), h n (omega arith))

pub sum_cong : (f g : ℕ → ℕ) (n : ℕ) → ((k : ℕ) → k < n → f k ≡ g k) → sum f n ≡ sum g n
unfolding sum
sum_cong f g zero h = refl
sum_cong f g (suc n) h = omega (arith, sum_cong f g n (λ k l. h k (omega arith)), h n (omega arith))

pub sum_tight :
    (f g : ℕ → ℕ) (n : ℕ) → ((k : ℕ) → k < n → f k ≤ g k) → sum f n ≡ sum g n → (k : ℕ) → k < n → f k ≡ g k
unfolding sum
sum_tight f g zero h e k l = absurd (omega arith)
sum_tight f g (suc n) h e k l =
    let h' : (j : ℕ) → j < n → f j ≤ g j = λ j w. h j (omega arith) in
    let a = sum_mono f g n h' in
    let b = h n (omega arith) in
    let t : f n ≡ g n = omega arith in
    ⊎_elim (λ q. ap f q ∙ t ∙ ap g (sym q)) (λ w. sum_tight f g n h' (omega arith) k w) (top_or-below l)

pub sum-zero : (n : ℕ) → sum (λ (_ : ℕ). 0) n ≡ 0
unfolding sum
sum-zero zero = refl
sum-zero (suc n) = omega (arith, sum-zero n)

pub sum_one : (n : ℕ) → sum (λ (_ : ℕ). 1) n ≡ n
unfolding sum
sum_one zero = refl
sum_one (suc n) = omega (arith, sum_one n)

-- the first apart
pub sum_first : (f : ℕ → ℕ) (n : ℕ) → sum f (suc n) ≡ f 0 + sum (λ j. f (suc j)) n
unfolding sum
sum_first f zero = omega arith
sum_first f (suc n) = omega (arith, sum_first f n)

pub sum-add : (f g : ℕ → ℕ) (n : ℕ) → sum (λ k. f k + g k) n ≡ sum f n + sum g n
unfolding sum
sum-add f g zero = refl
sum-add f g (suc n) = omega (arith, sum-add f g n)

pub sum-swap : (h : ℕ → ℕ → ℕ) (m n : ℕ) → sum (λ b. sum (h b) n) m ≡ sum (λ k. sum (λ b. h b k) m) n
unfolding sum
sum-swap h zero n = sym (sum-zero n)
sum-swap h (suc m) n = ap (λ (x : ℕ). x + sum (h m) n) (sum-swap h m n) ∙ sym (sum-add (λ k. sum (λ b. h b k) m) (h m) n)

-- ---- one of many picked out
unpicked : (a n : ℕ) (f : ℕ → ℕ) → n ≤ a → sum (λ k. cond (eqb a k) (f k) 0) n ≡ 0
unfolding sum
unpicked a zero f h = refl
unpicked a (suc n) f h = rw (unpicked a n f (omega arith), ne_eqb a n (λ e. omega arith))

pub sum_pick : (a n : ℕ) (f : ℕ → ℕ) → a < n → sum (λ k. cond (eqb a k) (f k) 0) n ≡ f a
unfolding sum
sum_pick a zero f h = absurd (omega arith)
sum_pick a (suc n) f h =
    ⊎_elim (λ (e : a ≡ n). rw (unpicked a n f (omega arith), eq-eqb a n e, e) (omega arith))
    (λ (w : a < n). rw (sum_pick a n f w, ne_eqb a n (λ e. omega arith)) (omega arith)) (top_or-below h)

-- 1 where the two are equal
unfoldable pub hit : ℕ → ℕ → ℕ
hit a b = bit (eqb a b)

pub hit_same : (a b : ℕ) → a ≡ b → hit a b ≡ 1
unfolding hit
hit_same a b e = rw (eq-eqb a b e)

pub hit_other : (a b : ℕ) → (a ≡ b → ⊥) → hit a b ≡ 0
unfolding hit
hit_other a b e = rw (ne_eqb a b e)

pub hit_of : (a b : ℕ) → hit a b ≡ 1 → a ≡ b
hit_of a b e = ⊎_elim (λ q. q) (λ n. absurd (omega (arith, hit_other a b n))) (same_or_not a b)

pub hits_one : (a m : ℕ) → a < m → sum (hit a) m ≡ 1
unfolding hit
hits_one a m h = sum_pick a m (λ _. 1) h

-- 1 from x to before z
pub ins : ℕ → ℕ → ℕ → ℕ
ins x z k = bit (leb x k && ltb k z)

pub ins_in : (x z k : ℕ) → x ≤ k → k < z → ins x z k ≡ 1
unfolding ins
ins_in x z k h l = rw (le-leb x k h, lt-ltb k z l)

pub ins_before : (x z k : ℕ) → k < x → ins x z k ≡ 0
unfolding ins
ins_before x z k h = rw (lt-leb x k h)

pub ins_after : (x z k : ℕ) → x ≤ k → z ≤ k → ins x z k ≡ 0
unfolding ins
ins_after x z k h l = rw (le-leb x k h, le-ltb k z l)

pub sum_ins : (x z m : ℕ) → x ≤ z → sum (ins x z) m ≡ (m - x) - (m - z)
unfolding sum
sum_ins x z zero h = omega arith
sum_ins x z (suc m) h =
    let i = sum_ins x z m h in
    ⊎_elim (λ l. omega (arith, ins_before x z m l))
    (λ l. ⊎_elim (λ u. omega (arith, ins_in x z m l u)) (λ u. omega (arith, ins_after x z m l u)) (lt-or-le m z))
    (lt-or-le m x)

sum-all : (f : ℕ → ℕ) (c : ℕ) → ((j : ℕ) → j < c → 1 ≤ f j) → c ≤ sum f c
sum-all f c h = omega (arith, sum_one c, sum_mono (λ _. 1) f c h)

pub sum_least : (f : ℕ → ℕ) (c b : ℕ) → ((j : ℕ) → j < c → 1 ≤ f j) → b < c → (c - 1) + f b ≤ sum f c
unfolding sum
sum_least f zero b h w = absurd (omega arith)
sum_least f (suc c) b h w =
    ⊎_elim (λ (e : b ≡ c). omega (arith, ap f e, sum-all f c (λ j l. h j (omega arith))))
    (λ (l : b < c). omega (arith, sum_least f c b (λ j m. h j (omega arith)) l, h c (omega arith))) (top_or-below w)
