-- What the rounds leave is what the strong reduction is defined by.
use Rattle.std.specs.Prelude.{◌≡◌, ℕ, ◌<◌, List, length, get_or}
use mathlib.Core.Path.{sym, ap, ◌∙◌}
use native.Mathlib.Omega.{arith}
use Rattle.columns.specs.Columns.{over}
use Rattle.columns.proofs.Lists.{over-all}
use Rattle.partition.specs.Partition.{Partition}
use Rattle.refinement.specs.Blocks.{block_count, by_least}
use Rattle.refinement.proofs.Blocks.{same_count, by_least-same, length-by_least}
use Rattle.refinement_partition.proofs.Counts.{count_blocks}
use Rattle.refinement_rounds.specs.Splitting.{Ended}
use Rattle.refinement_strong.specs.Reduction.{strong_blocks, strong_rounds, strong_count}
use Rattle.refinement_strong.proofs.Reductions.{settled}
use Rattle.signatures.specs.Strong.{strong_signature}
use Rattle.table.specs.Lts.{Lts, Valid}

module _ (t : Lts) (v : Valid t) (k : ℕ) (q : Partition) (same : q.n ≡ t.n) (e : Ended (strong_signature t) k q) where
  both : (k ≡ strong_rounds t) × (by_least t.n q.element_to_block ≡ strong_blocks t)
  both = settled t v k q.element_to_block (rw same at e.settled)

  pub end_rounds : k ≡ strong_rounds t
  end_rounds = both.0

  pub end_count : q.count ≡ strong_count t
  end_count =
      sym (count_blocks q e.sound.consistent)
      ∙ ap (λ (n : ℕ). block_count n q.element_to_block) same
      ∙ same_count t.n (by_least-same t.n q.element_to_block)
      ∙ ap (block_count t.n) both.1

  -- the numbers that are handed out over n cells
  pub end_numbers : (l b : List ℕ) → length l ≡ t.n → b ≡ over (by_least t.n q.element_to_block) l → b ≡ strong_blocks t
  end_numbers l b w h =
      h ∙ over-all (by_least t.n q.element_to_block) l (length-by_least t.n q.element_to_block ∙ sym w) ∙ both.1

  -- the cells that they are noted in
  pub end_cells : (cells : ℕ) → t.n < cells → (s : ℕ) → s < t.n → get_or q.element_to_block s 0 < cells
  end_cells cells w s l =
      let u : s < q.n = omega (arith, l, same) in
      omega (arith, (e.sound.consistent.lies s u).known, e.sound.consistent.most, same, w)
