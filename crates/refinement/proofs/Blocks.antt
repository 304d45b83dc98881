-- Partitions with the same blocks: one numbering by least member, one number of blocks; and a finer one with no more blocks is the same.
use mathlib.Core.Path.{◌≡◌, refl, sym, ap, ◌∙◌}
use mathlib.Core.Bool.{true}
use mathlib.Core.List.{List}
use Prim.Native.Nat.{ℕ, ◌≤◌, ◌<◌}
use native.Mathlib.Nat.{le_antisymm}
use native.Mathlib.Omega.{arith}
use borrow.Author.Tests.{eqb-true, eq-eqb}
use lib.ListN.{length}
use Rattle.columns.specs.Blocks.{block_of, Finer}
use Rattle.columns.specs.Columns.{listed}
use Rattle.columns.specs.Counting.{many}
use Rattle.columns.specs.Number.{least, leads, number}
use Rattle.columns.proofs.Bools.{bool_ext}
use Rattle.columns.proofs.Counting.{many-all, many-le, many_strict}
use Rattle.columns.proofs.Lists.{length-listed, listed_at, listed_cong}
use Rattle.columns.proofs.Numbering.{
  Equivalence,
  least_eq,
  least_le,
  least_leads,
  blocks_grow,
  blocks-same,
  number_same,
  number_differ,
  number_cong,
  number_bound,
  number_onto,
}
use Rattle.refinement.specs.Blocks.{SameBlocks, share, block_count, by_least}

-- ---- the test
module _ (p : List ℕ) where
  pub share_in : (s t : ℕ) → block_of p s ≡ block_of p t → share p s t ≡ true
  unfolding share
  share_in s t e = eq-eqb _ _ e

  pub share_out : (s t : ℕ) → share p s t ≡ true → block_of p s ≡ block_of p t
  unfolding share
  share_out s t h = eqb-true _ _ h

  pub share_equivalence : Equivalence (share p)
  share_equivalence = record {
    reflexive = λ s. share_in s s refl;
    symmetric = λ s t h. share_in t s (sym (share_out s t h));
    transitive = λ s t u h k. share_in s u (share_out s t h ∙ share_out t u k);
  }

-- ---- the same blocks
module _ (n : ℕ) where
  pub same_turned : {p q : List ℕ} → SameBlocks n p q → SameBlocks n q p
  same_turned e = record { to = e.from; from = e.to }

  pub same_joined : {p q r : List ℕ} → SameBlocks n p q → SameBlocks n q r → SameBlocks n p r
  same_joined e f = record {
    to = λ s t hs ht h. f.to s t hs ht (e.to s t hs ht h);
    from = λ s t hs ht h. e.from s t hs ht (f.from s t hs ht h);
  }

  pub same-share : (p q : List ℕ) → SameBlocks n p q → (s t : ℕ) → s < n → t < n → share p s t ≡ share q s t
  same-share p q e s t hs ht =
      bool_ext _ _ (λ h. share_in q s t (e.to s t hs ht (share_out p s t h))) (λ h. share_in p s t (e.from s t hs ht (share_out q s t h)))

  -- ---- how many there are
  pub blocks_most : (p : List ℕ) → block_count n p ≤ n
  unfolding block_count
  blocks_most p = many-le n (leads (share p))

  pub blocks-some : (p : List ℕ) → 0 < n → 0 < block_count n p
  unfolding block_count
  blocks-some p h =
      let l : least (share p) 0 ≤ 0 = least_le (share p) (share_equivalence p) 0 in
      omega (arith, many_strict (least (share p) 0) n (leads (share p)) (omega arith) (least_leads (share p) (share_equivalence p) 0))

  module _ (p q : List ℕ) (finer : Finer n q p) where
    pub finer_more : block_count n p ≤ block_count n q
    unfolding block_count
    finer_more =
        blocks_grow n (share p) (share q) (share_equivalence p) (share_equivalence q)
        (λ s t hs ht h. share_in p s t (finer s t hs ht (share_out q s t h)))

    pub finer_same : block_count n q ≤ block_count n p → SameBlocks n p q
    unfolding block_count
    finer_same h = record {
      to = λ s t hs ht e.
          share_out q s t
          (blocks-same n (share p) (share q) (share_equivalence p) (share_equivalence q)
          (λ s t hs ht h. share_in p s t (finer s t hs ht (share_out q s t h))) h s t hs ht (share_in p s t e));
      from = finer;
    }

  pub same_count : {p q : List ℕ} → SameBlocks n p q → block_count n p ≡ block_count n q
  same_count {p} {q} e = le_antisymm (finer_more p q e.from) (finer_more q p e.to)

  -- ---- numbered by least member
  pub length-by_least : (p : List ℕ) → length (by_least n p) ≡ n
  unfolding by_least
  length-by_least p = length-listed n (number (share p))

  pub by_least_at : (p : List ℕ) (s : ℕ) → s < n → block_of (by_least n p) s ≡ number (share p) s
  unfolding by_least
  by_least_at p s h = listed_at n (number (share p)) s h

  pub by_least-same : (p : List ℕ) → SameBlocks n p (by_least n p)
  by_least-same p = record {
    to = λ s t hs ht e.
        by_least_at p s hs ∙ number_same (share p) (share_equivalence p) s t (share_in p s t e) ∙ sym (by_least_at p t ht);
    from = λ s t hs ht e.
        share_out p s t
        (number_differ (share p) (share_equivalence p) s t (sym (by_least_at p s hs) ∙ e ∙ by_least_at p t ht));
  }

  -- one column for the same blocks
  pub by_least_unique : (p q : List ℕ) → SameBlocks n p q → by_least n p ≡ by_least n q
  unfolding by_least
  by_least_unique p q e = listed_cong n _ _ (number_cong n (share p) (share q) (same-share p q e))

  -- the numbers are those below the number of blocks
  pub by_least-below : (p : List ℕ) (s : ℕ) → s < n → block_of (by_least n p) s < block_count n p
  unfolding block_count
  by_least-below p s h = omega (arith, by_least_at p s h, number_bound (share p) (share_equivalence p) n s h)

  -- a state of block b
  pub record Member (p : List ℕ) (b : ℕ) : Type 0 where
    pub state : ℕ
    pub below : state < n
    pub home : block_of p state ≡ b

  pub by_least_onto : (p : List ℕ) (b : ℕ) → b < block_count n p → Member (by_least n p) b
  unfolding block_count
  by_least_onto p b h =
      let f = number_onto (share p) (share_equivalence p) n b h in
      record { state = f.0; below = f.1; home = by_least_at p f.0 f.1 ∙ f.2 }

  -- ---- each state its own block
  module _ (p : List ℕ) (apart : (s t : ℕ) → s < n → t < n → block_of p s ≡ block_of p t → s ≡ t) where
    own_least : (s : ℕ) → s < n → least (share p) s ≡ s
    own_least s h =
        let l : least (share p) s ≤ s = least_le (share p) (share_equivalence p) s in
        apart (least (share p) s) s (omega arith) h
        (share_out p (least (share p) s) s (least_eq (share p) (share_equivalence p) s))

    own_leads : (s : ℕ) → s < n → leads (share p) s ≡ true
    unfolding leads
    own_leads s h = eq-eqb _ _ (own_least s h)

    pub blocks_own : block_count n p ≡ n
    unfolding block_count
    blocks_own = many-all n (leads (share p)) own_leads

    pub by_least_own : by_least n p ≡ listed n (λ s. s)
    unfolding by_least number
    by_least_own =
        listed_cong n (number (share p)) (λ s. s)
        (λ s h.
        ap (λ (x : ℕ). many x (leads (share p))) (own_least s h)
        ∙ many-all s (leads (share p)) (λ k l. own_leads k (omega (arith, l, h))))
