-- A table in which no bisimulation relates two states: its reduction is the table itself, each state its own block.
use mathlib.Core.Path.{◌≡◌, sym, ap, ◌∙◌}
use mathlib.Core.List.{List}
use Prim.Native.Nat.{ℕ, ◌<◌}
use Rattle.bisimulation.specs.Bisimulation.{Bisimilar}
use Rattle.columns.specs.Blocks.{block_of}
use Rattle.bisimulation.proofs.Quotients.{quotient_own}
use Rattle.columns.specs.Columns.{listed}
use Rattle.columns.proofs.Lists.{listed_at}
use Rattle.refinement.proofs.Blocks.{by_least_own, blocks_own}
use Rattle.refinement.proofs.Rounds.{final_numbered}
use Rattle.refinement_strong.specs.Reduction.{strong_blocks, strong_block, strong_count, strong_rows}
use Rattle.refinement_strong.proofs.Bisimulations.{valid_range}
use Rattle.refinement_strong.proofs.Reductions.{blocks_bisimulation}
use Rattle.signatures.specs.Strong.{strong_signature}
use Rattle.table.specs.Lts.{Lts, rows, Valid}
use Rattle.table.proofs.Rows.{rows_ascending}

-- states that some bisimulation relates are one state
abbrev pub AllApart : Lts → Type 1
AllApart r = (s u : ℕ) → s < r.n → u < r.n → Bisimilar (rows r) (rows r) s u → s ≡ u

module _ (r : Lts) (v : Valid r) (apart : AllApart r) where
  own : (s u : ℕ) → s < r.n → u < r.n → strong_block r s ≡ strong_block r u → s ≡ u
  own s u hs hu e = apart s u hs hu (record {
    relation = _;
    bisimulation = blocks_bisimulation r v;
    related = record { left = hs; right = hu; same = e };
  })

  pub own_blocks : strong_blocks r ≡ listed r.n (λ s. s)
  unfolding strong_blocks
  own_blocks = sym (final_numbered r.n (strong_signature r)) ∙ by_least_own r.n (strong_blocks r) own

  pub own_count : strong_count r ≡ r.n
  own_count = blocks_own r.n (strong_blocks r) own

  pub own_block : (s : ℕ) → s < r.n → strong_block r s ≡ s
  own_block s h = ap (λ (p : List ℕ). block_of p s) own_blocks ∙ listed_at r.n (λ x. x) s h

  pub own_rows_lem : strong_rows r ≡ rows r
  own_rows_lem = quotient_own (strong_block r) (rows r) r.n (rows_ascending r v) (valid_range r v) own_block
