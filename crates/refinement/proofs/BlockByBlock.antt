-- A round block by block: the blocks of p are split one after the other, lowest first, by signature under p. What is split off gets a
-- number that no block of p has, so that the blocks still to come keep theirs.
use mathlib.Core.Path.{◌≡◌, refl, sym, ◌∙◌}
use mathlib.Core.Logic.{◌⊎◌, inl, inr, ⊎_elim}
use mathlib.Core.List.{List}
use Prim.Native.Nat.{ℕ, ◌+◌, ◌≤◌, ◌<◌}
use native.Mathlib.Omega.{arith}
use lib.ListN.{get_or}
use Rattle.columns.specs.Blocks.{block_of, Finer}
use Rattle.columns.proofs.All.{same_or_not, lt-or-le}
use Rattle.refinement.specs.Rounds.{Signature, Refined}
use Rattle.refinement.specs.Runs.{RefinedBelow}

-- r is q with block b divided by numbers v; what is split off gets numbers from `count` on
pub record Divides (n b count : ℕ) (v q r : List ℕ) : Type 0 where
  pub outside : (s : ℕ) → s < n → (block_of q s ≡ b → ⊥) → block_of r s ≡ block_of q s
  pub inside : (s : ℕ) → s < n → block_of q s ≡ b → (block_of r s ≡ b) ⊎ (count ≤ block_of r s)
  pub together : (s t : ℕ) → s < n → t < n → block_of q s ≡ b → block_of q t ≡ b → get_or v s 0 ≡ get_or v t 0 → block_of r s ≡ block_of r t
  pub numbers : (s t : ℕ) → s < n → t < n → block_of q s ≡ b → block_of q t ≡ b → block_of r s ≡ block_of r t → get_or v s 0 ≡ get_or v t 0

-- the numbers v tell the signatures of the states of block b apart, and nothing else
pub record Numbers (n : ℕ) (sig : Signature) (p : List ℕ) (b : ℕ) (v : List ℕ) : Type 0 where
  pub to : (s t : ℕ) → s < n → t < n → block_of p s ≡ b → block_of p t ≡ b → get_or v s 0 ≡ get_or v t 0 → sig p s ≡ sig p t
  pub from : (s t : ℕ) → s < n → t < n → block_of p s ≡ b → block_of p t ≡ b → sig p s ≡ sig p t → get_or v s 0 ≡ get_or v t 0

-- a division is finer, where `count` is above the numbers of q
pub divides_finer : (n b count : ℕ) (v q r : List ℕ) → Divides n b count v q r → ((s : ℕ) → s < n → block_of q s < count) → Finer n r q
divides_finer n b count v q r d below s t hs ht e =
    ⊎_elim
    (λ (i : block_of q s ≡ b).
    ⊎_elim (λ (j : block_of q t ≡ b). i ∙ sym j) (λ j. absurd (apart s t hs ht i j e)) (same_or_not (block_of q t) b))
    (λ i.
    ⊎_elim (λ (j : block_of q t ≡ b). absurd (apart t s ht hs j i (sym e)))
    (λ j. sym (d.outside s hs i) ∙ e ∙ d.outside t ht j) (same_or_not (block_of q t) b))
    (same_or_not (block_of q s) b)
  where
    apart : (s t : ℕ) → s < n → t < n → block_of q s ≡ b → (block_of q t ≡ b → ⊥) → block_of r s ≡ block_of r t → ⊥
    apart s t hs ht i j e =
        ⊎_elim (λ (k : block_of r s ≡ b). j (sym (d.outside t ht j) ∙ sym e ∙ k)) (λ k. omega (arith, d.outside t ht j, e, k, below t ht))
        (d.inside s hs i)

module _ (n : ℕ) (sig : Signature) (p : List ℕ) (count : ℕ) where
  -- ---- the start, and the end
  pub below_none : RefinedBelow n sig p count 0 p
  below_none = record {
    block = λ s t hs ht e. e;
    signature = λ s t hs ht e l. absurd (omega arith);
    joined = λ s t hs ht e f. e;
    coming = λ s hs l. refl;
    passed = λ s hs l. absurd (omega arith);
  }

  pub below_all : (b : ℕ) (q : List ℕ) → RefinedBelow n sig p count b q → ((s : ℕ) → s < n → block_of p s < b) → Refined n sig p q
  below_all b q h f = record {
    block = h.block;
    signature = λ s t hs ht e. h.signature s t hs ht e (f s hs);
    joined = λ s t hs ht e g. h.joined s t hs ht e (λ _. g);
  }

  module _ (b : ℕ) (q : List ℕ) (h : RefinedBelow n sig p count b q) where
    -- ---- the next block is divided by numbers that tell its signatures apart
    module _ (w : b < count) where
      -- it still has its states
      pub below_in : (s : ℕ) → s < n → block_of p s ≡ b → block_of q s ≡ b
      below_in s hs e = h.coming s hs (omega (arith, e)) ∙ e

      pub below_out : (s : ℕ) → s < n → block_of q s ≡ b → block_of p s ≡ b
      below_out s hs e =
          ⊎_elim
          (λ (l : block_of p s < b). absurd (⊎_elim (λ k. omega (arith, k, e)) (λ k. omega (arith, k, e)) (h.passed s hs l)))
          (λ (l : b ≤ block_of p s). sym (h.coming s hs l) ∙ e) (lt-or-le (block_of p s) b)

      module _
          (count' : ℕ) (v r : List ℕ) (more : count ≤ count') (small : (s : ℕ) → s < n → block_of q s < count')
          (d : Divides n b count' v q r) (num : Numbers n sig p b v)
        where
          finer : Finer n r q
          finer = divides_finer n b count' v q r d small

          pub below_more : RefinedBelow n sig p count (b + 1) r
          below_more = record {
            block = λ s t hs ht e. h.block s t hs ht (finer s t hs ht e);
            signature = λ s t hs ht e l.
                let f : block_of q s ≡ block_of q t = finer s t hs ht e in
                ⊎_elim
                (λ (i : block_of p s ≡ b).
                let j : block_of q s ≡ b = below_in s hs i in
                num.to s t hs ht i (sym (h.block s t hs ht f) ∙ i) (d.numbers s t hs ht j (sym f ∙ j) e))
                (λ i. h.signature s t hs ht f (omega (arith, l, i))) (same_or_not (block_of p s) b);
            joined = λ s t hs ht e f.
                ⊎_elim
                (λ (i : block_of p s ≡ b).
                let j : block_of p t ≡ b = sym e ∙ i in
                d.together s t hs ht (below_in s hs i) (below_in t ht j) (num.from s t hs ht i j (f (omega (arith, i)))))
                (λ i.
                d.outside s hs (λ k. i (below_out s hs k))
                ∙ h.joined s t hs ht e (λ l. f (omega (arith, l)))
                ∙ sym (d.outside t ht (λ k. i (e ∙ below_out t ht k)))) (same_or_not (block_of p s) b);
            coming = λ s hs l.
                let e : block_of q s ≡ block_of p s = h.coming s hs (omega (arith, l)) in
                d.outside s hs (λ k. omega (arith, e, k, l)) ∙ e;
            passed = λ s hs l.
                ⊎_elim
                (λ (i : block_of p s ≡ b).
                ⊎_elim (λ k. inl (omega (arith, k))) (λ k. inr (omega (arith, k, more))) (d.inside s hs (below_in s hs i)))
                (λ i.
                let e : block_of r s ≡ block_of q s = d.outside s hs (λ k. i (below_out s hs k)) in
                ⊎_elim (λ k. inl (omega (arith, k, e))) (λ k. inr (omega (arith, k, e))) (h.passed s hs (omega (arith, l, i))))
                (same_or_not (block_of p s) b);
          }
