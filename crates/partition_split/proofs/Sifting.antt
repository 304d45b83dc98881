-- The loop that sifts.
use Rattle.std.specs.Prelude.{◌≡◌, ℕ, suc, ◌+◌, ◌-◌, ◌<◌, ◌≤◌, true, false, List, length, get_or}
use native.Mathlib.Omega.{arith}
use borrow.Author.Tests.{eq-eqb, ne_eqb}
use mathlib.Core.Path.{refl, ap, sym, ◌∙◌}
use Rattle.columns.specs.Columns.{swapped}
use Rattle.columns.specs.Inverse.{swapped_inverse}
use Rattle.columns.proofs.Inverses.{length-swapped_inverse}
use Rattle.columns.proofs.Swaps.{length-swapped, swapped_holds}
use Rattle.partition_split.specs.Split.{chosen, Sifted, sifting, sifted}

module _ (c : List ℕ) (s x : ℕ) (e : x ≡ get_or c s 0) where
  pub is-chosen : (x ≡ 0 → ⊥) → chosen c s ≡ true
  unfolding chosen
  is-chosen m = rw (ne_eqb (get_or c s 0) 0 (λ q. m (e ∙ q)))

  pub not_chosen : x ≡ 0 → chosen c s ≡ false
  unfolding chosen
  not_chosen z = rw (eq-eqb (get_or c s 0) 0 (sym e ∙ z))

-- ---- one step
module _ (c l o : List ℕ) (d i : ℕ) where
  sift_take : chosen c (get_or l i 0) ≡ true → sifted (suc d) c l o i ≡ sifted d c (swapped i (i + d) l) (swapped_inverse i (i + d) l o) i
  unfolding sifted
  sift_take t = rw t

  sift_pass : chosen c (get_or l i 0) ≡ false → sifted (suc d) c l o i ≡ sifted d c l o (i + 1)
  unfolding sifted
  sift_pass t = rw t

-- ---- the loop: what is left from i to before e, sifted, gives f. A state that stands before z has a byte and an offset
pub record Sifting (c : List ℕ) (z : ℕ) (f : Sifted) (l₀ o₀ l o : List ℕ) (i e : ℕ) : Type 0 where
  pub low : i ≤ e
  pub high : e ≤ z
  pub so_far : sifted (e - i) c l o i ≡ f
  pub known : (k : ℕ) → k < z → (get_or l k 0 < length c) × (get_or l k 0 < length o)
  pub long : length l ≡ length l₀
  pub long_offset : length o ≡ length o₀

pub sifting-start :
    (c l o : List ℕ) (i z : ℕ) → i ≤ z → ((k : ℕ) → k < z → (get_or l k 0 < length c) × (get_or l k 0 < length o)) →
    Sifting c z (sifted (z - i) c l o i) l o l o i z
sifting-start c l o i z w known = record { low = w; high = omega arith; so_far = refl; known = known; long = refl; long_offset = refl }

module _ (c : List ℕ) (z : ℕ) (f : Sifted) (l₀ o₀ l o : List ℕ) (i e : ℕ) (h : Sifting c z f l₀ o₀ l o i e) where
  pub sifting_end : e ≤ i → sifting l o e ≡ f
  unfolding sifted
  sifting_end w =
      let d : e - i ≡ 0 = omega (arith, h.low) in
      let q : e ≡ i = omega (arith, h.low) in
      ap (sifting l o) q ∙ ap (λ (y : ℕ). sifted y c l o i) (sym d) ∙ h.so_far

  pub sifting_pass : i < e → chosen c (get_or l i 0) ≡ false → Sifting c z f l₀ o₀ l o (i + 1) e
  sifting_pass w t =
      let d : e - i ≡ suc (e - (i + 1)) = omega arith in
      record {
        low = omega arith;
        high = h.high;
        so_far = sym (sift_pass c l o (e - (i + 1)) i t) ∙ ap (λ (y : ℕ). sifted y c l o i) (sym d) ∙ h.so_far;
        known = h.known;
        long = h.long;
        long_offset = h.long_offset;
      }

  module _ (l' o' : List ℕ) (el : l' ≡ swapped i (e - 1) l) (eo : o' ≡ swapped_inverse i (e - 1) l o) (w : i < e) (long : z ≤ length l₀)
    where
      pub sifting-take : chosen c (get_or l i 0) ≡ true → Sifting c z f l₀ o₀ l' o' i (e - 1)
      sifting-take t =
          let d : e - i ≡ suc ((e - 1) - i) = omega arith in
          let j : i + ((e - 1) - i) ≡ e - 1 = omega arith in
          let lo : length o' ≡ length o = ap length eo ∙ length-swapped_inverse i (e - 1) l o in
          record {
            low = omega arith;
            high = omega (arith, h.high);
            so_far =
                ap (λ (y : List ℕ). sifted ((e - 1) - i) c y o' i) el
                ∙ ap (λ (y : List ℕ). sifted ((e - 1) - i) c (swapped i (e - 1) l) y i) eo
                ∙ ap (λ (y : ℕ). sifted ((e - 1) - i) c (swapped i y l) (swapped_inverse i y l o) i) (sym j)
                ∙ sym (sift_take c l o ((e - 1) - i) i t)
                ∙ ap (λ (y : ℕ). sifted y c l o i) (sym d)
                ∙ h.so_far;
            known =
                rw (el, lo)
                (swapped_holds (λ s. (s < length c) × (s < length o)) l i (e - 1) z (omega (arith, h.long)) (omega (arith, h.high))
                (omega (arith, h.high)) h.known);
            long = ap length el ∙ length-swapped i (e - 1) l ∙ h.long;
            long_offset = lo ∙ h.long_offset;
          }
