-- What sifting leaves: the unchosen stand first and the chosen last, and nothing outside the stretch moves.
use Rattle.std.specs.Prelude.{◌≡◌, ℕ, zero, suc, ◌+◌, ◌<◌, ◌≤◌, Bool, true, false, cond, ◌⊎◌, List, length, get_or}
use native.Mathlib.Omega.{arith}
use mathlib.Core.Path.{refl, ap, sym, ◌∙◌}
use mathlib.Core.Logic.{inl, inr, ⊎_elim}
use Rattle.columns.specs.Columns.{swapped}
use Rattle.columns.specs.Inverse.{Inverse, swapped_inverse}
use Rattle.columns.proofs.All.{same_or_not, lt-or-le}
use Rattle.columns.proofs.Inverses.{swap_order, length-swapped_inverse}
use Rattle.columns.proofs.Swaps.{swapped_j, swapped_other, length-swapped}
use Rattle.partition_split.specs.Split.{chosen, Sifted, sifting, sifted}

-- a position is in a stretch or not
pub inside : (x k z : ℕ) → ((x ≤ k) × (k < z)) ⊎ (x ≤ k → k < z → ⊥)
inside x k z =
    ⊎_elim (λ (a : k < x). inr (λ f t. omega arith))
    (λ (a : x ≤ k). ⊎_elim (λ (y : k < z). inl (a, y)) (λ (y : z ≤ k). inr (λ f t. omega arith)) (lt-or-le k z)) (lt-or-le k x)

-- of an order l of n states and its inverse o, the positions from i to before z sifted
pub record Sieved (n : ℕ) (c l o : List ℕ) (i z : ℕ) (f : Sifted) : Type 0 where
  pub low : i ≤ f.first
  pub high : f.first ≤ z
  pub order : Inverse f.elements f.element_offset n
  pub long : length f.elements ≡ length l
  pub long_offset : length f.element_offset ≡ length o
  pub outside : (k : ℕ) → (i ≤ k → k < z → ⊥) → get_or f.elements k 0 ≡ get_or l k 0
  pub passed : (k : ℕ) → i ≤ k → k < f.first → chosen c (get_or f.elements k 0) ≡ false
  pub took : (k : ℕ) → f.first ≤ k → k < z → chosen c (get_or f.elements k 0) ≡ true

module _ (n : ℕ) (c : List ℕ) where
  module _ (l o : List ℕ) (d i : ℕ) (f : Sifted) (ll : n ≤ length l) (w : i + suc d ≤ n) where
    sieve_take : chosen c (get_or l i 0) ≡ true → Sieved n c (swapped i (i + d) l) (swapped_inverse i (i + d) l o) i (i + d) f →
        Sieved n c l o i (i + suc d) f
    sieve_take t s =
        let wi : i < length l = omega arith in
        let wj : i + d < length l = omega arith in
        record {
          low = s.low;
          high = omega (arith, s.high);
          order = s.order;
          long = s.long ∙ length-swapped i (i + d) l;
          long_offset = s.long_offset ∙ length-swapped_inverse i (i + d) l o;
          outside = λ k out.
              s.outside k (λ a y. out a (omega arith))
              ∙ swapped_other l i (i + d) wi wj k (λ e. out (omega arith) (omega arith)) (λ e. out (omega arith) (omega arith));
          passed = s.passed;
          took = λ k a z.
              ⊎_elim (λ (y : k < i + d). s.took k a y)
              (λ (y : i + d ≤ k).
              let e : k ≡ i + d = omega arith in
              ap (chosen c) (s.outside k (λ f u. omega arith) ∙ ap (λ (j : ℕ). get_or (swapped i (i + d) l) j 0) e ∙
              swapped_j l i (i + d) wi wj) ∙ t)
              (lt-or-le k (i + d));
        }

    sieve_pass : chosen c (get_or l i 0) ≡ false → Sieved n c l o (i + 1) (i + 1 + d) f → Sieved n c l o i (i + suc d) f
    sieve_pass t s =
        record {
          low = omega (arith, s.low);
          high = omega (arith, s.high);
          order = s.order;
          long = s.long;
          long_offset = s.long_offset;
          outside = λ k out. s.outside k (λ a y. out (omega arith) (omega arith));
          passed = λ k a z.
              ⊎_elim (λ (e : k ≡ i). ap (chosen c) (s.outside k (λ f u. omega arith) ∙ ap (λ (j : ℕ). get_or l j 0) e) ∙ t)
              (λ (m : k ≡ i → ⊥). s.passed k (omega arith) z) (same_or_not k i);
          took = λ k a z. s.took k a (omega arith);
        }

  pub sieve :
      (d : ℕ) (l o : List ℕ) (i : ℕ) → Inverse l o n → n ≤ length l → n ≤ length o → i + d ≤ n → Sieved n c l o i (i + d) (sifted d c l o i)
  unfolding sifted
  sieve zero l o i h ll lo w =
      record {
        low = omega arith;
        high = omega arith;
        order = h;
        long = refl;
        long_offset = refl;
        outside = λ k out. refl;
        passed = λ k a z. absurd (omega arith);
        took = λ k a z. absurd (omega arith);
      }
  sieve (suc d) l o i h ll lo w =
      go
      (sieve d (swapped i (i + d) l) (swapped_inverse i (i + d) l o) i (swap_order l o n i (i + d) h ll lo (omega arith) (omega arith))
      (omega (arith, length-swapped i (i + d) l))
      (omega (arith, length-swapped_inverse i (i + d) l o)) (omega arith))
      (sieve d l o (i + 1) h ll lo (omega arith)) (chosen c (get_or l i 0)) refl
    where
      go : Sieved n c (swapped i (i + d) l) (swapped_inverse i (i + d) l o) i (i + d)
          (sifted d c (swapped i (i + d) l) (swapped_inverse i (i + d) l o) i)
          → Sieved n c l o (i + 1) (i + 1 + d) (sifted d c l o (i + 1))
          → (t : Bool) → chosen c (get_or l i 0) ≡ t
          → Sieved n c l o i (i + suc d) (cond t (sifted d c (swapped i (i + d) l) (swapped_inverse i (i + d) l o) i)
          (sifted d c l o (i + 1)))
      go taken passed true e = sieve_take l o d i _ ll w e taken
      go taken passed false e = sieve_pass l o d i _ ll w e passed

-- with nothing chosen no state moves
pub sieve_idle : (d : ℕ) (c l o : List ℕ) (i : ℕ) → ((k : ℕ) → i ≤ k → k < i + d → chosen c (get_or l k 0) ≡ false) →
    sifted d c l o i ≡ sifting l o (i + d)
unfolding sifted
sieve_idle zero c l o i h = ap (sifting l o) (omega arith)
sieve_idle (suc d) c l o i h =
    rw (h i (omega arith) (omega arith)) (sieve_idle d c l o (i + 1) (λ k a y. h k (omega arith) (omega arith)) ∙
    ap (sifting l o) (omega arith))

-- ---- two orders of n states that agree outside the positions from m to before z
module _ (n m z : ℕ) (l o l' o' : List ℕ) (h : Inverse l o n) (back : Inverse o' l' n)
    (same : (k : ℕ) → (m ≤ k → k < z → ⊥) → get_or l' k 0 ≡ get_or l k 0) where
  -- a state that stands outside stood there
  pub rests : (s : ℕ) → s < n → (m ≤ get_or o' s 0 → get_or o' s 0 < z → ⊥) → get_or o s 0 ≡ get_or o' s 0
  rests s w out =
      ap (λ (y : ℕ). get_or o y 0) (sym (back.back s w) ∙ same (get_or o' s 0) out) ∙ h.back (get_or o' s 0) (back.below s w)

  -- and one that stood inside stands inside
  pub stays : (s : ℕ) → s < n → m ≤ get_or o s 0 → get_or o s 0 < z → (m ≤ get_or o' s 0) × (get_or o' s 0 < z)
  stays s w a y =
      ⊎_elim (λ (i : (m ≤ get_or o' s 0) × (get_or o' s 0 < z)). i)
      (λ (out : m ≤ get_or o' s 0 → get_or o' s 0 < z → ⊥). let r = rests s w out in absurd (out (omega arith) (omega arith)))
      (inside m (get_or o' s 0) z)
