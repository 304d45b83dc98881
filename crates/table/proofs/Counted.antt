-- Numbers that never fall: the places of one number are a stretch. `at i` is the number at place i, and there are m places.
use Rattle.std.specs.Prelude.{◌≡◌, ℕ, suc, ◌+◌, ◌<◌, ◌≤◌, Bool, eqb, ltb}
use native.Mathlib.Omega.{arith}
use native.Mathlib.Nat.{eq-or-lt_of_le, le_antisymm}
use borrow.Author.Tests.{ltb-true, ltb-false, lt-ltb, le-ltb, eq-eqb, ne_eqb}
use mathlib.Core.Path.{sym}
use mathlib.Core.Logic.{⊎_elim}
use Rattle.columns.specs.Counting.{many, bit}
use Rattle.columns.proofs.All.{not-below, lt-or-le}
use Rattle.columns.proofs.Counting.{bit_true, bit_false, many_up, many-le, many_mono, many-add, many-all}
use Rattle.columns.proofs.Members.{many-rest, many_front}
use Rattle.table.specs.Stretch.{StretchOf}
use Rattle.table.proofs.Finds.{FoundFrom}

-- below s + 1: below s, or s itself
one_more : (x s : ℕ) → bit (ltb x (s + 1)) ≡ bit (ltb x s) + bit (eqb x s)
one_more x s =
    ⊎_elim
    (λ (l : x < s).
    omega (
      arith,
      bit_true (ltb x (s + 1)) (lt-ltb x (s + 1) (omega arith)),
      bit_true (ltb x s) (lt-ltb x s l),
      bit_false (eqb x s) (ne_eqb x s (λ e. omega (arith, e))),
    ))
    (λ (l : s ≤ x).
    ⊎_elim
    (λ (e : s ≡ x).
    omega (
      arith,
      bit_true (ltb x (s + 1)) (lt-ltb x (s + 1) (omega arith)),
      bit_false (ltb x s) (le-ltb x s l),
      bit_true (eqb x s) (eq-eqb x s (sym e)),
    ))
    (λ (k : s < x).
    omega (
      arith,
      bit_false (ltb x (s + 1)) (le-ltb x (s + 1) (omega arith)),
      bit_false (ltb x s) (le-ltb x s l),
      bit_false (eqb x s) (ne_eqb x s (λ e. omega (arith, e))),
    ))
    (eq-or-lt_of_le l))
    (lt-or-le x s)

module _ (at : ℕ → ℕ) (m : ℕ) where
  -- how many numbers are below s
  abbrev pub count_below : ℕ → ℕ
  count_below s = many m (λ i. ltb (at i) s)

  pub below-is : (s r : ℕ) → r ≤ m → ((i : ℕ) → i < r → at i < s) → ((i : ℕ) → r ≤ i → i < m → s ≤ at i) → r ≡ count_below s
  below-is s r h y n = many_front (λ i. ltb (at i) s) m r h (λ i l. lt-ltb _ _ (y i l)) (λ i a b. le-ltb _ _ (n i a b))

  pub below_most : (s : ℕ) → count_below s ≤ m
  below_most s = many-le m (λ i. ltb (at i) s)

  pub below_up : (s u : ℕ) → s ≤ u → count_below s ≤ count_below u
  below_up s u h =
      many_mono m (λ i. ltb (at i) s) (λ i. ltb (at i) u) (λ i l e. lt-ltb (at i) u (omega (arith, h, ltb-true (at i) s e)))

  -- the length of the stretch: how many numbers are s
  pub below_next : (s : ℕ) → count_below (s + 1) ≡ count_below s + many m (λ i. eqb (at i) s)
  below_next s = many-add m (λ i. ltb (at i) (s + 1)) (λ i. ltb (at i) s) (λ i. eqb (at i) s) (λ i w. one_more (at i) s)

  module _ (up : (i j : ℕ) → i ≤ j → j < m → at i ≤ at j) where
    -- a place is before the stretch of s exactly if its number is below s
    pub place_before : (s i : ℕ) → i < m → at i < s → i < count_below s
    place_before s i h l =
        let f : ℕ → Bool = λ i. ltb (at i) s in
        omega (arith, many_up (suc i) m f h, many-all (suc i) f (λ j k. lt-ltb (at j) s (omega (arith, l, up j i (omega arith) h))))

    pub place_from : (s i : ℕ) → i < m → s ≤ at i → count_below s ≤ i
    place_from s i h l =
        let f : ℕ → Bool = λ i. ltb (at i) s in
        omega (arith, many-rest f m i (omega arith) (λ j a b. le-ltb (at j) s (omega (arith, l, up i j a b))), many-le i f)

    -- the end of the stretch of s, sought from a place at or before that
    pub end-found : (s a r : ℕ) → a ≤ count_below (s + 1) → FoundFrom a m m (λ i. ltb s (at i)) r → r ≡ count_below (s + 1)
    end-found s a r h f =
        let e : ℕ = count_below (s + 1) in
        le_antisymm
        (not-below (λ l.
        let w : e < m = omega (arith, f.most) in
        omega (arith, place_before (s + 1) e w (omega (arith, ltb-false s (at e) (f.before e h w l))))))
        (not-below (λ l.
        let w : r < m = omega (arith, below_most (s + 1)) in
        omega (arith, place_from (s + 1) r w (omega (arith, ltb-true s (at r) (f.hit w))))))

    pub stretch : (s : ℕ) → StretchOf at m s (count_below s) (count_below (s + 1))
    stretch s = record {
      low = below_up s (s + 1) (omega arith);
      most = below_most (s + 1);
      exactly = λ i h. (
        λ e. (place_from s i h (omega (arith, e)), place_before (s + 1) i h (omega (arith, e))),
        λ b. equal (not-below (λ l. omega (arith, b.0, place_before s i h l)))
            (not-below (λ l. omega (arith, b.1, place_from (s + 1) i h (omega (arith, l))))),
      );
    }
      where
        equal : {x y : ℕ} → y ≤ x → x ≤ y → x ≡ y
        equal a b = omega arith
