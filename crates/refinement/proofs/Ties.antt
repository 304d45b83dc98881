-- A partition in any numbering that goes through the rounds: it has the blocks of the defined rounds, and at the end their number and,
-- renumbered by least member, their blocks.
use mathlib.Core.Path.{◌≡◌, sym, ap, ◌∙◌}
use mathlib.Core.Logic.{◌↔◌, ⊎_elim}
use mathlib.Core.Bool.{true, false}
use mathlib.Core.List.{List}
use Prim.Native.Nat.{ℕ, suc, ◌+◌, ◌≤◌, ◌<◌}
use native.Mathlib.Numerals.{add-one}
use native.Mathlib.Omega.{arith}
use Rattle.columns.specs.Blocks.{block_of}
use Rattle.columns.proofs.All.{top_or-below}
use Rattle.columns.proofs.Bools.{fails}
use Rattle.refinement.specs.Blocks.{SameBlocks, block_count, by_least}
use Rattle.refinement.specs.Rounds.{Signature, ByBlocks, after_rounds, stable, splitting_rounds, final, Unsplit, Refined}
use Rattle.refinement.specs.Runs.{Settled}
use Rattle.refinement.proofs.Blocks.{same_turned, same_joined, same_count, finer_same, by_least_unique}
use Rattle.refinement.proofs.Rounds.{after_refines, after_none, after-numbered, stable_exactly, blocks-after, rounds_only}

-- the partition after k rounds that all split something, in any numbering
pub record Running (n : ℕ) (sig : Signature) (k : ℕ) (p : List ℕ) : Type 0 where
  pub same : SameBlocks n p (after_rounds n sig k)
  pub split : (j : ℕ) → j < k → stable n sig j ≡ false

module _ (n : ℕ) (sig : Signature) where
  -- the blocks of round k, numbered by least member, are the defined column
  pub numbers_after : (k : ℕ) (p : List ℕ) → SameBlocks n p (after_rounds n sig k) → by_least n p ≡ after_rounds n sig k
  numbers_after k p e = by_least_unique n p (after_rounds n sig k) e ∙ after-numbered n sig k

  -- ---- a split in which nothing was split
  pub same_unsplit : (p q : List ℕ) → Refined n sig p q → SameBlocks n p q → Unsplit n sig p
  same_unsplit p q d e s t hs ht h = d.signature s t hs ht (e.to s t hs ht h)

  pub unsplit_same : (p q : List ℕ) → Refined n sig p q → Unsplit n sig p → SameBlocks n p q
  unsplit_same p q d f = record { to = λ s t hs ht h. d.joined s t hs ht h (f s t hs ht h); from = d.block }

  -- ---- signatures that go by the blocks alone
  module _ (by : ByBlocks n sig) where
    -- the same blocks, split by signature under each numbering, are the same blocks again
    pub refined_same : (p p' q q' : List ℕ) → SameBlocks n p p' → Refined n sig p q → Refined n sig p' q' → SameBlocks n q q'
    refined_same p p' q q' e d d' = record { to = half p p' q q' e d d'; from = half p' p q' q (same_turned n e) d' d }
      where
        half :
            (p p' q q' : List ℕ) → SameBlocks n p p' → Refined n sig p q → Refined n sig p' q' → (s t : ℕ) → s < n → t < n
            → block_of q s ≡ block_of q t → block_of q' s ≡ block_of q' t
        half p p' q q' e d d' s t hs ht h =
            d'.joined s t hs ht (e.to s t hs ht (d.block s t hs ht h)) (by p p' e s t hs ht (d.signature s t hs ht h))

    -- a partition with the blocks of round k, split by signature, has those of the next
    pub next_round :
        (k : ℕ) (p q : List ℕ) → SameBlocks n p (after_rounds n sig k) → Refined n sig p q → SameBlocks n q (after_rounds n sig (suc k))
    next_round k p q e d = refined_same p (after_rounds n sig k) q (after_rounds n sig (suc k)) e d (after_refines n sig k)

    unsplit_alike : (p q : List ℕ) → SameBlocks n p q → Unsplit n sig p → Unsplit n sig q
    unsplit_alike p q e f s t hs ht h = by p q e s t hs ht (f s t hs ht (e.from s t hs ht h))

    -- it splits nothing exactly if the defined round does
    pub last_round :
        (k : ℕ) (p q : List ℕ) → SameBlocks n p (after_rounds n sig k) → Refined n sig p q
        → SameBlocks n p q ↔ (stable n sig k ≡ true)
    last_round k p q e d = (
      λ u. (stable_exactly n sig k).1 (unsplit_alike p (after_rounds n sig k) e (same_unsplit p q d u)),
      λ h. unsplit_same p q d (unsplit_alike (after_rounds n sig k) p (same_turned n e) ((stable_exactly n sig k).0 h)),
    )

    -- ---- a run: how it starts, a round, and how it ends
    pub run_start : (p : List ℕ) → ((s : ℕ) → s < n → block_of p s ≡ 0) → Running n sig 0 p
    run_start p z = record {
      same = record {
        to = λ s t hs ht _. after_none n sig s ∙ sym (after_none n sig t);
        from = λ s t hs ht _. z s hs ∙ sym (z t ht);
      };
      split = λ j l. absurd (omega arith);
    }

    module _ (k : ℕ) (p : List ℕ) (r : Running n sig k p) where
      -- there are more blocks than rounds, and so fewer than n rounds
      pub run_few : 0 < n → k < block_count n p
      run_few h = omega (arith, blocks-after n sig h k r.split, same_count n r.same)

      module _ (q : List ℕ) (d : Refined n sig p q) where
        pub run_more : block_count n p < block_count n q → Running n sig (k + 1) q
        run_more h = rw (add-one k) (record {
          same = next_round k p q r.same d;
          split = λ j l. ⊎_elim (here j) (r.split j) (top_or-below l);
        })
          where
            here : (j : ℕ) → j ≡ k → stable n sig j ≡ false
            here j i = rw i (fails (λ e. omega (arith, same_count n ((last_round k p q r.same d).1 e))))

        pub run_done : 0 < n → block_count n q ≤ block_count n p → Settled n sig k q
        unfolding final
        run_done h l =
            let same : SameBlocks n p q = finer_same n p q d.block l in
            let e : k ≡ splitting_rounds n sig = rounds_only n sig h k r.split ((last_round k p q r.same d).0 same) in
            record { rounds = e; numbers = numbers_after k q (same_joined n (same_turned n same) r.same) ∙ ap (after_rounds n sig) e }
