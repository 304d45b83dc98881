-- The strong reduction of a valid table: its blocks are the coarsest bisimulation, and it is a valid table itself.
use mathlib.Core.Path.{◌≡◌}
use mathlib.Core.List.{List}
use Prim.Native.Nat.{ℕ, ◌<◌}
use Rattle.bisimulation.specs.Bisimulation.{Bisimulation}
use Rattle.bisimulation.specs.Quotient.{Shares}
use Rattle.columns.specs.Blocks.{block_of, Finer}
use Rattle.refinement.specs.Blocks.{by_least}
use Rattle.refinement.specs.Rounds.{after_rounds, splitting_rounds, final}
use Rattle.refinement.proofs.Blocks.{Member, blocks_most}
use Rattle.refinement.proofs.Rounds.{inside, final_unsplit, final_below, final_onto}
use Rattle.refinement.specs.Runs.{Settled}
use Rattle.refinement_strong.specs.Reduction.{strong_blocks, strong_block, strong_rounds, strong_count, quotient_of, strong_reduced, In}
use Rattle.refinement_strong.proofs.Bisimulations.{related_signature, unsplit_bisimulation}
use Rattle.refinement_strong.proofs.Quotients.{quotient_of_valid, quotient_of_bisimulation}
use Rattle.signatures.specs.Strong.{strong_signature}
use Rattle.table.specs.Lts.{Lts, rows, Valid}
use Rattle.table.specs.Tables.{table_of}

module _ (t : Lts) (v : Valid t) where
  -- sharing a block is a bisimulation
  pub blocks_bisimulation : Bisimulation (rows t) (rows t) (Shares t.n (strong_block t))
  unfolding strong_blocks
  blocks_bisimulation = (unsplit_bisimulation t v (strong_blocks t)).0 (final_unsplit t.n (strong_signature t) v.some_states)

  -- no bisimulation goes beyond the blocks
  pub within_blocks :
      (R : ℕ → ℕ → Type 0) → Bisimulation (rows t) (rows t) R → (s u : ℕ) → s < t.n → u < t.n → R s u
      → strong_block t s ≡ strong_block t u
  unfolding strong_blocks final
  within_blocks R b =
      inside t.n (strong_signature t) R
      (λ k f s u hs hu r. related_signature t v (after_rounds t.n (strong_signature t) k) R b f s u r)
      (splitting_rounds t.n (strong_signature t))

  -- the coarsest: every partition that is a bisimulation is finer
  pub coarsest : (p : List ℕ) → Bisimulation (rows t) (rows t) (Shares t.n (block_of p)) → Finer t.n p (strong_blocks t)
  coarsest p b s u hs hu e = within_blocks (Shares t.n (block_of p)) b s u hs hu (record { left = hs; right = hu; same = e })

  -- each state and its block are related by one bisimulation between the table and its reduction
  pub state_and_block : Bisimulation (rows t) (rows (strong_reduced t)) (In t)
  unfolding strong_reduced
  state_and_block = quotient_of_bisimulation t (strong_count t) (strong_blocks t) v blocks_bisimulation

  -- ---- the blocks are numbered from 0 on, without a gap
  pub block_below : (s : ℕ) → s < t.n → strong_block t s < (strong_reduced t).n
  unfolding strong_reduced quotient_of table_of strong_blocks
  block_below = final_below t.n (strong_signature t)

  pub block_member : (b : ℕ) → b < (strong_reduced t).n → Member t.n (strong_blocks t) b
  unfolding strong_reduced quotient_of table_of strong_blocks
  block_member = final_onto t.n (strong_signature t)

  -- the reduction is a table that every operation takes
  pub reduced_valid : Valid (strong_reduced t)
  unfolding strong_reduced quotient_of table_of
  reduced_valid =
      quotient_of_valid t (strong_count t) (strong_blocks t) v (blocks_most t.n (strong_blocks t)) block_below

  -- what a run of the rounds leaves, in any numbering: the number of rounds, and the blocks once they are numbered by least member
  pub settled :
      (k : ℕ) (p : List ℕ) → Settled t.n (strong_signature t) k p → (k ≡ strong_rounds t) × (by_least t.n p ≡ strong_blocks t)
  unfolding strong_rounds strong_blocks
  settled k p r = (r.rounds, r.numbers)
