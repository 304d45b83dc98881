-- The branching signature: over states reached by hidden steps that stay in the state's block, all visible steps, and hidden steps into
-- other blocks.
use Rattle.std.specs.Prelude.{ℕ, Bool, not, ◌&&◌, List, map, length, ◌==◌, slice_index}
use Rattle.columns.specs.Answers.{Said}
use Rattle.columns.specs.Counting.{members}
use Rattle.columns.specs.Sets.{Pair}
use Rattle.partition.specs.Partition.{Partition}
use Rattle.table.specs.Hidden.{hidden_in}
use Rattle.signatures.specs.Pairs.{Columns, signature}
use Rattle.signatures.specs.Signing.{Left, works_fit, signing, signature_refusal}
use Rattle.signatures.specs.Strong.{row_pair}
use Rattle.table.specs.Lts.{Lts}
use Rattle.table.specs.Reach.{via, some_row}

-- a hidden step from u to v, which is in block b; `home` has the block of each state
unfoldable pub inert_edge : Lts → List ℕ → ℕ → ℕ → ℕ → Bool
unfolding some_row hidden_in
inert_edge t home b = some_row t.m t.source t.target (hidden_in t.label t.target home b)

-- s reaches u by hidden steps that stay in the block of s
unfoldable pub inertly : Lts → List ℕ → ℕ → ℕ → Bool
unfolding via inert_edge
inertly t home s u = via (inert_edge t home (slice_index home s)) t.n s u

-- row i is visible, or it leads to another block than b
unfoldable pub outerb : Lts → List ℕ → ℕ → ℕ → Bool
unfolding hidden_in
outerb t home b i = not (hidden_in t.label t.target home b i)

-- the pairs of the rows of x that are visible or lead to another block than b
unfoldable pub outer_pairs : Lts → List ℕ → ℕ → ℕ → List Pair
unfolding row_pair members outerb
outer_pairs t home b x = map (row_pair t home) (members t.m (λ i. (slice_index t.source i == x) && outerb t home b i))

-- the pairs pushed for s, before duplicates go
unfoldable pub branching_pushed : Lts → List ℕ → ℕ → List Pair
unfolding row_pair members inertly outerb
branching_pushed t home s =
    map (row_pair t home) (members t.m (λ i. inertly t home s (slice_index t.source i) && outerb t home (slice_index home s) i))

unfoldable pub branching_signature : Lts → List ℕ → ℕ → List Pair
unfolding signature branching_pushed
branching_signature t home s = signature (branching_pushed t home s)

unfoldable pub branching_bisim_signature : Lts → Partition → ℕ → Columns → List (List ℕ) → Said × Left
unfolding signing signature_refusal works_fit branching_pushed branching_signature
branching_bisim_signature t p s out works =
    let home = p.element_to_block in
    signing (signature_refusal t p s (works_fit t works)) (length (branching_pushed t home s)) (branching_signature t home s) out works
