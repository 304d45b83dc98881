-- The walk along two ascending lists, f of n pairs and g of m: what is passed of f is below all that is left of g.
use Rattle.std.specs.Prelude.{◌≡◌, ℕ, ◌+◌, ◌<◌, ◌≤◌, Bool, true, false, not, ◌&&◌, ◌||◌, ltb, leb}
use native.Mathlib.Omega.{arith}
use native.Mathlib.Nat.{eq-or-lt_of_le}
use borrow.Author.Tests.{le-leb, lt-leb, ltb-true, lt-ltb, not-false, not-true}
use mathlib.Core.Path.{ap, sym, ◌∙◌}
use mathlib.Core.Logic.{⊎_elim}
use Rattle.columns.specs.Counting.{first, some, all}
use Rattle.columns.specs.Sets.{Pair, pair_lt, pair_eq}
use Rattle.columns.proofs.All.{all_none, all_more, all_fails, all_done, top_or-below, lt-or-le}
use Rattle.columns.proofs.Bools.{contra, fails, and_left, and_right, and_no_left, and_both, or_left, or_right}
use Rattle.columns.proofs.Counting.{first_law}
use Rattle.columns.proofs.Orders.{pair_order}
use Rattle.columns.proofs.Sets.{pair_eq_eq, pair_eq_refl}
use Rattle.columns.proofs.Firsts.{some_in, some-none}
use Rattle.columns.proofs.Risings.{Rising}

-- ---- the pairs that are passed, from i on: those below x
module _ (f : ℕ → Pair) (i : ℕ) (x : Pair) where
  abbrev pub stays : ℕ → Bool
  stays k = leb i k && not (pair_lt (f k) x)

  pub stays-before : (k : ℕ) → k < i → stays k ≡ false
  stays-before k h = and_no_left (leb i k) (not (pair_lt (f k) x)) (lt-leb i k h)

  pub stays_here : (k : ℕ) → i ≤ k → not (pair_lt (f k) x) ≡ stays k
  stays_here k h = rw (le-leb i k h)

  passed_below : (n k : ℕ) → i ≤ k → k < first n stays → pair_lt (f k) x ≡ true
  passed_below n k h l = not-false (pair_lt (f k) x) (stays_here k h ∙ (first_law n stays).before k l)

  stopped : (n : ℕ) → first n stays < n → pair_lt (f (first n stays)) x ≡ false
  stopped n l =
      let k = first n stays in
      not-true (pair_lt (f k) x) (and_right (leb i k) (not (pair_lt (f k) x)) ((first_law n stays).hit l))

  -- all before i are below x, and r is the first from i on that is not
  module _ (n : ℕ) (passed : (k : ℕ) → k < i → pair_lt (f k) x ≡ true) (r : ℕ) (er : r ≡ first n stays) where
    pub under : (k : ℕ) → k < r → pair_lt (f k) x ≡ true
    under k l = ⊎_elim (λ (a : k < i). passed k a) (λ (a : i ≤ k). passed_below n k a (omega (arith, er))) (lt-or-le k i)

    -- no pair of f is x
    pub absent : Rising pair_lt n f → (ltb r n && pair_eq (f r) x) ≡ false → (k : ℕ) → k < n → f k ≡ x → ⊥
    absent up e k l q =
        ⊎_elim (λ (a : k < r). contra (under k a) (ap (λ (y : Pair). pair_lt y x) q ∙ pair_order.irrefl x))
        (λ (a : r ≤ k).
        ⊎_elim
        (λ (z : r ≡ k).
        contra (and_both (lt-ltb r n (omega arith)) (ap (λ (t : ℕ). pair_eq (f t) x) z ∙ (ap (λ (y : Pair). pair_eq y x) q ∙ pair_eq_refl x)))
        e)
        (λ (z : r < k).
        contra (sym (ap (pair_lt (f r)) q) ∙ up r k z l) (ap (λ (t : ℕ). pair_lt (f t) x) er ∙ stopped n (omega (arith, er))))
        (eq-or-lt_of_le a))
        (lt-or-le k r)

-- pair j of g is the excluded one, or in f
abbrev pub kept : ℕ → (ℕ → Pair) → (ℕ → Pair) → Pair → ℕ → Bool
kept n f g x j = pair_eq (g j) x || some n (λ i. pair_eq (f i) (g j))

-- i of f and j of g are passed
pub record SubsetWalk (n m : ℕ) (f g : ℕ → Pair) (x : Pair) (i j : ℕ) : Type 0 where
  pub low : i ≤ n
  pub high : j ≤ m
  pub so_far : all j (kept n f g x) ≡ true
  pub passed : (k l : ℕ) → k < i → j ≤ l → l < m → pair_lt (f k) (g l) ≡ true

module _ (n m : ℕ) (f g : ℕ → Pair) (x : Pair) where
  pub walk_start : SubsetWalk n m f g x 0 0
  walk_start =
      record { low = omega arith; high = omega arith; so_far = all_none (kept n f g x); passed = λ k l h w v. absurd (omega (arith, h)) }

  pub walk_end : (i j : ℕ) → SubsetWalk n m f g x i j → m ≤ j → true ≡ all m (kept n f g x)
  walk_end i j w h = all_done (kept n f g x) j m w.so_far (omega (arith, w.high))

  module _ (i j : ℕ) (w : SubsetWalk n m f g x i j) (h : j < m) where
    -- the excluded pair is skipped
    pub walk_skip : pair_eq (g j) x ≡ true → SubsetWalk n m f g x i (j + 1)
    walk_skip e = record {
      low = w.low;
      high = omega arith;
      so_far = all_more (kept n f g x) j w.so_far (or_left (pair_eq (g j) x) (some n (λ i. pair_eq (f i) (g j))) e);
      passed = λ k l a b v. w.passed k l a (omega (arith, b)) v;
    }

    -- r is the first from i on that is not below the wanted pair
    module _ (r : ℕ) (er : r ≡ first n (stays f i (g j))) where
      before : (k : ℕ) → k < i → pair_lt (f k) (g j) ≡ true
      before k a = w.passed k j a (omega arith) h

      pub walk_found : Rising pair_lt m g → (ltb r n && pair_eq (f r) (g j)) ≡ true → SubsetWalk n m f g x (r + 1) (j + 1)
      walk_found up e =
          let l : r < n = ltb-true r n (and_left (ltb r n) (pair_eq (f r) (g j)) e) in
          let b = and_right (ltb r n) (pair_eq (f r) (g j)) e in
          record {
            low = omega arith;
            high = omega arith;
            so_far = all_more (kept n f g x) j w.so_far
                (or_right (pair_eq (g j) x) (some n (λ i. pair_eq (f i) (g j))) (some_in n (λ i. pair_eq (f i) (g j)) r l b));
            passed = λ k s c d v.
                let next : pair_lt (g j) (g s) ≡ true = up j s (omega (arith, d)) v in
                ⊎_elim (λ (z : k ≡ r). ap (λ (t : ℕ). pair_lt (f t) (g s)) z ∙
                (ap (λ (y : Pair). pair_lt y (g s)) (pair_eq_eq (f r) (g j) b) ∙ next))
                (λ (z : k < r). pair_order.trans (f k) (g j) (g s) (under f i (g j) n before r er k z) next)
                (top_or-below (omega (arith, c)));
          }

      pub walk_missing : Rising pair_lt n f → pair_eq (g j) x ≡ false → (ltb r n && pair_eq (f r) (g j)) ≡ false → false ≡ all m (kept n f g x)
      walk_missing up a e =
          sym
          (all_fails (kept n f g x) m j h
          (rw a (some-none n (λ i. pair_eq (f i) (g j)) (λ k l. fails
          (λ q. absent f i (g j) n before r er up e k l (pair_eq_eq (f k) (g j) q))))))
