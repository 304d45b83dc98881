-- Laws of `largest`: it is one of the blocks, none is longer, and the later ones are shorter.
use Rattle.std.specs.Prelude.{◌≡◌, ℕ, zero, suc, ◌+◌, ◌<◌, ◌≤◌, Bool, true, false, cond, leb, ◌⊎◌}
use native.Mathlib.Omega.{arith}
use borrow.Author.Tests.{leb-true, leb-false}
use mathlib.Core.Path.{refl, ap}
use mathlib.Core.Logic.{inl, inr, ⊎_elim}
use Rattle.columns.proofs.All.{top_or-below}
use Rattle.partition_passes.specs.Passes.{largest_in}
use Rattle.partition_division.specs.Divide.{largest}
use Rattle.partition_division.specs.Marked.{len_at}
use Rattle.partition.specs.Partition.{Partition}

pub record Largest (q : Partition) (b c m l : ℕ) : Type 0 where
  pub one : (l ≡ b) ⊎ ((c ≤ l) × (l < c + m))
  pub first : len_at q b ≤ len_at q l
  pub rest : (j : ℕ) → j < m → len_at q (c + j) ≤ len_at q l
  pub last : (j : ℕ) → j < m → l < c + j → len_at q (c + j) < len_at q l

module _ (q : Partition) (b c : ℕ) (hb : b < c) where
  pub largest_law : (m : ℕ) → Largest q b c m (largest q b c m)
  unfolding largest largest_in len_at
  largest_law zero =
      record {
        one = inl refl;
        first = omega arith;
        rest = λ j w. absurd (omega arith);
        last = λ j w. absurd (omega arith);
      }
  largest_law (suc m) = go (largest q b c m) (largest_law m) (leb (len_at q (largest q b c m)) (len_at q (c + m))) refl
    where
      go : (l : ℕ) → Largest q b c m l → (t : Bool) → leb (len_at q l) (len_at q (c + m)) ≡ t → Largest q b c (suc m) (cond t (c + m) l)
      go l r true e =
          let w = leb-true (len_at q l) (len_at q (c + m)) e in
          record {
            one = inr (omega arith, omega arith);
            first = omega (arith, w, r.first);
            rest = λ j h.
                ⊎_elim (λ (e : j ≡ m). omega (arith, ap (λ (x : ℕ). len_at q (c + x)) e)) (λ (n : j < m). omega (arith, w, r.rest j n))
                (top_or-below h);
            last = λ j h l. absurd (omega arith);
          }
      go l r false e =
          let w = leb-false (len_at q l) (len_at q (c + m)) e in
          record {
            one = ⊎_elim (λ e. inl e) (λ x. inr (x.0, omega (arith, x.1))) r.one;
            first = r.first;
            rest = λ j h.
                ⊎_elim (λ (e : j ≡ m). omega (arith, w, ap (λ (x : ℕ). len_at q (c + x)) e)) (λ (n : j < m). r.rest j n) (top_or-below h);
            last = λ j h l.
                ⊎_elim (λ (e : j ≡ m). omega (arith, w, ap (λ (x : ℕ). len_at q (c + x)) e)) (λ (n : j < m). r.last j n l) (top_or-below h);
          }
