-- Laws of `bit`, `many` and `first`: a flag as a number, how many pass, and the least that passes.
use Prim.Native.Nat.{ℕ, zero, suc, ◌+◌, ◌≤◌, ◌<◌}
use native.Mathlib.Omega.{arith}
use native.Mathlib.Nat.{eq-or-lt_of_le}
use native.Mathlib.Numerals.{add-one}
use borrow.Author.Tests.{eq-eqb, ne_eqb, lt-ltb, le-ltb}
use mathlib.Core.Bool.{Bool, true, false, cond, not, ◌&&◌}
use mathlib.Core.Path.{◌≡◌, refl, ap, sym, ◌∙◌}
use mathlib.Core.Logic.{⊎_elim, ◌⊎◌, inl, inr}
use lib.Dec.{eqb, ltb}
use Rattle.columns.specs.Counting.{sum, many, first, bit}
use Rattle.columns.proofs.Bools.{cases, contra, fails, and_one, and_no_right}
use Rattle.columns.proofs.All.{top_or-below, same_or_not, lt-or-le, not-below}
use Rattle.columns.proofs.Sums.{sum_mono, sum_cong, sum_tight, sum-add, sum-zero, sum_one}

-- ---- a flag as a number
pub bit_true : (t : Bool) → t ≡ true → bit t ≡ 1
bit_true t e = rw e

pub bit_false : (t : Bool) → t ≡ false → bit t ≡ 0
bit_false t e = rw e

pub bit_imp : (s t : Bool) → (s ≡ true → t ≡ true) → bit s ≤ bit t
bit_imp s t h = ⊎_elim (λ e. omega (arith, bit_true s e, bit_true t (h e))) (λ e. omega (arith, bit_false s e)) (cases s)

pub bit_most : (s : Bool) → bit s ≤ 1
bit_most s = ⊎_elim (λ e. omega (arith, bit_true s e)) (λ e. omega (arith, bit_false s e)) (cases s)

pub bit_two : (b : Bool) → (bit b ≡ 1) ⊎ (bit b ≡ 0)
bit_two true = inl refl
bit_two false = inr refl

pub bit_one : (b : Bool) → bit b ≡ 1 → b ≡ true
bit_one true e = refl
bit_one false e = absurd (omega (arith, e))

pub bit-eqb : (b : Bool) → b ≡ eqb (bit b) 1
bit-eqb true = refl
bit-eqb false = refl

pub bit-set : (b : Bool) → not (eqb (bit b) 0) ≡ b
bit-set true = refl
bit-set false = refl

-- ---- how many pass
pub many-sum : (n : ℕ) (f : ℕ → Bool) → many n f ≡ sum (λ k. bit (f k)) n
unfolding many sum
many-sum zero f = refl
many-sum (suc n) f = ap (λ (x : ℕ). x + bit (f n)) (many-sum n f)

pub many-suc : (n : ℕ) (f : ℕ → Bool) → many (n + 1) f ≡ many n f + bit (f n)
unfolding many
many-suc n f = rw add-one

pub many-none : (f : ℕ → Bool) → many 0 f ≡ 0
unfolding many
many-none f = refl

pub many_mono : (n : ℕ) (f g : ℕ → Bool) → ((k : ℕ) → k < n → f k ≡ true → g k ≡ true) → many n f ≤ many n g
many_mono n f g h =
    omega (arith, many-sum n f, many-sum n g, sum_mono (λ k. bit (f k)) (λ k. bit (g k)) n (λ k w. bit_imp (f k) (g k) (h k w)))

pub many_cong : (n : ℕ) (f g : ℕ → Bool) → ((k : ℕ) → k < n → f k ≡ g k) → many n f ≡ many n g
many_cong n f g h = many-sum n f ∙ sum_cong (λ k. bit (f k)) (λ k. bit (g k)) n (λ k w. ap bit (h k w)) ∙ sym (many-sum n g)

-- the members of one test pass the other, which counts no more: they are the same tests
pub many_full :
    (n : ℕ) (f g : ℕ → Bool) → ((k : ℕ) → k < n → f k ≡ true → g k ≡ true) → many n g ≤ many n f → (k : ℕ) → k < n → g k ≡ true → f k ≡ true
many_full n f g h m k w e =
    ⊎_elim (λ (q : f k ≡ true). q)
    (λ (q : f k ≡ false).
    let t = sum_tight (λ k. bit (f k)) (λ k. bit (g k)) n (λ k w. bit_imp (f k) (g k) (h k w))
    (omega (arith, many-sum n f, many-sum n g, many_mono n f g h)) k w in
    absurd (omega (arith, bit_false (f k) q, bit_true (g k) e)))
    (cases (f k))

-- one that passes only the second test makes the second count larger
pub many_less : (n s : ℕ) (f g : ℕ → Bool) → ((k : ℕ) → k < n → f k ≡ true → g k ≡ true) → s < n → f s ≡ false → g s ≡ true →
    many n f < many n g
many_less n s f g h w nf yg =
    ⊎_elim (λ (l : many n f < many n g). l) (λ (m : many n g ≤ many n f). absurd (contra (many_full n f g h m s w yg) nf))
    (lt-or-le (many n f) (many n g))

pub many-add : (n : ℕ) (f g h : ℕ → Bool) → ((k : ℕ) → k < n → bit (f k) ≡ bit (g k) + bit (h k)) → many n f ≡ many n g + many n h
many-add n f g h e =
    omega (
      arith,
      many-sum n f,
      many-sum n g,
      many-sum n h,
      sum_cong (λ k. bit (f k)) (λ k. bit (g k) + bit (h k)) n e,
      sum-add (λ k. bit (g k)) (λ k. bit (h k)) n,
    )

pub record Found (n : ℕ) (f : ℕ → Bool) : Type 0 where
  pub at : ℕ
  pub below : at < n
  pub passes : f at ≡ true

pub many-some : (n : ℕ) (f : ℕ → Bool) → (many n f ≡ 0 → ⊥) → Found n f
unfolding many
many-some zero f h = absurd (h refl)
many-some (suc n) f h = go (λ m. many-some n f m) (f n) refl
  where
    go : ((many n f ≡ 0 → ⊥) → Found n f) → (t : Bool) → f n ≡ t → Found (suc n) f
    go ih true e = record { at = n; below = omega arith; passes = e }
    go ih false e =
        let r = ih (λ q. h (rw e (omega (arith, q)))) in
        record { at = r.at; below = omega (arith, r.below); passes = r.passes }

pub many_nothing : (n : ℕ) (f : ℕ → Bool) → ((k : ℕ) → k < n → f k ≡ false) → many n f ≡ 0
many_nothing n f h = many-sum n f ∙ sum_cong (λ k. bit (f k)) (λ _. 0) n (λ k w. bit_false (f k) (h k w)) ∙ sum-zero n

pub many-le : (n : ℕ) (f : ℕ → Bool) → many n f ≤ n
many-le n f = omega (arith, many-sum n f, sum_one n, sum_mono (λ k. bit (f k)) (λ _. 1) n (λ k w. bit_most (f k)))

-- ---- how many pass below a larger bound
pub many_hit : (m : ℕ) (f : ℕ → Bool) → f m ≡ true → many (suc m) f ≡ suc (many m f)
unfolding many
many_hit m f h = rw h (omega arith)

pub many_miss : (m : ℕ) (f : ℕ → Bool) → f m ≡ false → many (suc m) f ≡ many m f
unfolding many
many_miss m f h = rw h (omega arith)

pub many-all : (n : ℕ) (f : ℕ → Bool) → ((k : ℕ) → k < n → f k ≡ true) → many n f ≡ n
many-all zero f h = many-none f
many-all (suc n) f h = many_hit n f (h n (omega arith)) ∙ ap suc (many-all n f (λ k l. h k (omega arith)))

-- what passes at one place only
pub many_once : (n : ℕ) (f : ℕ → Bool) → ((i j : ℕ) → i < n → j < n → f i ≡ true → f j ≡ true → i ≡ j) → many n f ≤ 1
many_once zero f u = omega (arith, many-none f)
many_once (suc n) f u = go (many_once n f (λ i j a c. u i j (omega (arith, a)) (omega (arith, c)))) (f n) refl
  where
    lt_ne : {a b : ℕ} → a < b → a ≡ b → ⊥
    lt_ne h q = omega arith

    go : many n f ≤ 1 → (t : Bool) → f n ≡ t → many (suc n) f ≤ 1
    go h true q =
        omega (
          arith,
          many_hit n f q,
          many_nothing n f (λ k w. fails (λ e. lt_ne w (u k n (omega (arith, w)) (omega arith) e q))),
        )
    go h false q = omega (arith, many_miss n f q)

-- one more number passes
pub many_one_more :
    (n u : ℕ) (f g : ℕ → Bool) → u < n → f u ≡ false → g u ≡ true → ((k : ℕ) → (k ≡ u → ⊥) → g k ≡ f k) → many n g ≡ suc (many n f)
many_one_more zero u f g h p q e = absurd (omega arith)
many_one_more (suc n) u f g h p q e =
    ⊎_elim
    (λ (i : u ≡ n).
    many_hit n g (ap g (sym i) ∙ q)
    ∙ ap suc (many_cong n g f (λ k w. e k (λ j. omega (arith, w, i, j))) ∙ sym (many_miss n f (ap f (sym i) ∙ p))))
    (λ (l : u < n). go (many_one_more n u f g l p q e) (f n) refl (e n (λ j. omega (arith, l, j)))) (top_or-below h)
  where
    go : many n g ≡ suc (many n f) → (b : Bool) → f n ≡ b → g n ≡ f n → many (suc n) g ≡ suc (many (suc n) f)
    go ih true a d = many_hit n g (d ∙ a) ∙ (ap suc ih ∙ ap suc (sym (many_hit n f a)))
    go ih false a d = many_miss n g (d ∙ a) ∙ (ih ∙ ap suc (sym (many_miss n f a)))

pub many_up : (m n : ℕ) (f : ℕ → Bool) → m ≤ n → many m f ≤ many n f
unfolding many
many_up m zero f h = rw (zero_of h) (omega arith)
  where
    zero_of : m ≤ 0 → m ≡ 0
    zero_of h = omega arith
many_up m (suc n) f h =
    ⊎_elim (λ (e : m ≡ suc n). rw e (omega arith)) (λ (l : m < suc n). omega (arith, many_up m n f (omega arith))) (eq-or-lt_of_le h)

pub many_strict : (m n : ℕ) (f : ℕ → Bool) → m < n → f m ≡ true → many m f < many n f
many_strict m n f h e = omega (arith, many_up (suc m) n f h, many_hit m f e)

-- every number below the count is the rank of one that passes
pub record Ranked (n : ℕ) (f : ℕ → Bool) (b : ℕ) : Type 0 where
  pub at : ℕ
  pub below : at < n
  pub passes : f at ≡ true
  pub rank : many at f ≡ b

pub many_onto : (n : ℕ) (f : ℕ → Bool) (b : ℕ) → b < many n f → Ranked n f b
unfolding many
many_onto zero f b h = absurd (omega arith)
many_onto (suc n) f b h = go (many_onto n f b) (f n) refl h
  where
    up : Ranked n f b → Ranked (suc n) f b
    up r = record { at = r.at; below = omega (arith, r.below); passes = r.passes; rank = r.rank }

    go : (b < many n f → Ranked n f b) → (t : Bool) → f n ≡ t → b < many n f + cond t 1 0 → Ranked (suc n) f b
    go ih true e h =
        ⊎_elim (λ (q : b ≡ many n f). record { at = n; below = omega arith; passes = e; rank = sym q }) (λ (l : b < many n f). up (ih l))
        (top_or-below (omega (arith, h)))
    go ih false e h = up (ih (omega (arith, h)))

-- ---- the least that passes
pub record First (n : ℕ) (f : ℕ → Bool) (m : ℕ) : Type 0 where
  pub bound : m ≤ n
  pub before : (k : ℕ) → k < m → f k ≡ false
  pub hit : m < n → f m ≡ true

pub first_law : (n : ℕ) (f : ℕ → Bool) → First n f (first n f)
unfolding first
first_law zero f = record { bound = omega arith; before = λ k h. absurd (omega arith); hit = λ h. absurd (omega arith) }
first_law (suc n) f = go (first n f) (first_law n f) (f (first n f)) refl
  where
    go : (m : ℕ) → First n f m → (t : Bool) → f m ≡ t → First (suc n) f (cond t m (suc m))
    go m r true e = record { bound = omega (arith, r.bound); before = r.before; hit = λ h. e }
    go m r false e =
        record {
          bound = omega (arith, r.bound);
          before = λ k h. ⊎_elim (λ (q : k ≡ m). ap f q ∙ e) (λ (w : k < m). r.before k w) (top_or-below h);
          hit = λ h. absurd (contra (r.hit (omega arith)) e);
        }

-- one that passes is not before the first
pub first-min : (n : ℕ) (f : ℕ → Bool) (k : ℕ) → f k ≡ true → first n f ≤ k
first-min n f k h = not-below (λ l. contra h ((first_law n f).before k l))

pub first_cong : (n : ℕ) (f g : ℕ → Bool) → ((k : ℕ) → k < n → f k ≡ g k) → first n f ≡ first n g
unfolding first
first_cong zero f g e = refl
first_cong (suc n) f g e =
    let ih : first n f ≡ first n g = first_cong n f g (λ k h. e k (omega arith)) in
    let b : first n g ≤ n = (first_law n g).bound in
    rw (ih, e (first n g) (omega arith))

pub eqb_same : (a b c d : ℕ) → (a ≡ b → c ≡ d) → (c ≡ d → a ≡ b) → eqb a b ≡ eqb c d
eqb_same a b c d h g =
    ⊎_elim (λ (e : a ≡ b). eq-eqb a b e ∙ sym (eq-eqb c d (h e))) (λ (m : a ≡ b → ⊥). ne_eqb a b m ∙ sym (ne_eqb c d (λ e. m (g e))))
    (same_or_not a b)

-- those before s among the first n, where s is below n
pub many-cut : (n s : ℕ) (f : ℕ → Bool) → s ≤ n → many n (λ t. f t && ltb t s) ≡ many s f
unfolding many
many-cut zero s f h = ap (λ (x : ℕ). many x f) (zero_is s h)
  where
    zero_is : (s : ℕ) → s ≤ 0 → 0 ≡ s
    zero_is s h = omega arith
many-cut (suc n) s f h =
    ⊎_elim (λ (e : s ≡ suc n). top e)
    (λ (m : s ≡ suc n → ⊥).
    let w : s ≤ n = omega (arith, h, m) in
    ap (λ (x : ℕ). many n (λ t. f t && ltb t s) + x) (last w) ∙ omega (arith, many-cut n s f w))
    (same_or_not s (suc n))
  where
    last : s ≤ n → bit (f n && ltb n s) ≡ 0
    last w = bit_false (f n && ltb n s) (and_no_right (f n) (ltb n s) (le-ltb n s w))

    top : s ≡ suc n → many (suc n) (λ t. f t && ltb t s) ≡ many s f
    top e = many_cong (suc n) (λ t. f t && ltb t s) f (λ t w. and_one (f t) (ltb t s) (lt-ltb t s (omega (arith, w, e)))) ∙
        ap (λ (x : ℕ). many x f) (sym e)
