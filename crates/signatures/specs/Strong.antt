-- The strong signature: (a, block of t) for each step.
use Rattle.std.specs.Prelude.{ℕ, List, map, length, nat_eq, slice_index}
use Rattle.columns.specs.Answers.{Said}
use Rattle.columns.specs.Counting.{members}
use Rattle.columns.specs.Sets.{Pair}
use Rattle.partition.specs.Partition.{Partition}
use Rattle.table.specs.Lts.{Lts}
use Rattle.signatures.specs.Pairs.{Columns, signature}
use Rattle.signatures.specs.Signing.{Left, works_fit, signing, signature_refusal}

-- the rows of state s, in their order
unfoldable pub own_rows : Lts → ℕ → List ℕ
unfolding members
own_rows t s = members t.m (λ i. nat_eq (slice_index t.source i) s)

-- row i as a pair: its label, and the block of its target. `home` has the block of each state
unfoldable pub row_pair : Lts → List ℕ → ℕ → Pair
row_pair t home i = (slice_index t.label i, slice_index home (slice_index t.target i))

-- the pairs pushed for s, before duplicates go
unfoldable pub strong_pushed : Lts → List ℕ → ℕ → List Pair
unfolding own_rows row_pair
strong_pushed t home s = map (row_pair t home) (own_rows t s)

unfoldable pub strong_signature : Lts → List ℕ → ℕ → List Pair
unfolding signature strong_pushed
strong_signature t home s = signature (strong_pushed t home s)

unfoldable pub strong_bisim_signature : Lts → Partition → ℕ → Columns → List (List ℕ) → Said × Left
unfolding signing signature_refusal works_fit strong_pushed strong_signature
strong_bisim_signature t p s out works =
    let home = p.element_to_block in
    signing (signature_refusal t p s (works_fit t works)) (length (strong_pushed t home s)) (strong_signature t home s) out works
