-- The inductive branching signature: a hidden step to a marked state of the block gives (tau_hat, key of target), any other step
-- (label, block of target).
use Rattle.std.specs.Prelude.{ℕ, Bool, cond, not, ◌&&◌, List, map, length, nat_le, slice_index, slice_index_or}
use Rattle.columns.specs.Answers.{Said}
use Rattle.columns.specs.Sets.{Pair}
use Rattle.partition.specs.Partition.{Partition}
use Rattle.partition.specs.Marked.{unmarked_by, unmarkedb}
use Rattle.table.specs.Hidden.{hidden_in}
use Rattle.table.specs.Lts.{Lts}
use Rattle.signatures.specs.Pairs.{Columns, signature}
use Rattle.signatures.specs.Signing.{Left, works_fit, signing, signature_refusal}
use Rattle.signatures.specs.Strong.{own_rows, row_pair}

-- state u is marked; `home` has the block of each state
unfoldable pub marked_by : List ℕ → List ℕ → List ℕ → ℕ → Bool
unfolding unmarked_by
marked_by offset home split u = not (unmarked_by offset home split u)

-- row i of a state of block b as a pair; tau_hat is the number of labels
unfoldable pub keyed_at : Lts → List ℕ → (ℕ → Bool) → List ℕ → ℕ → ℕ → Pair
unfolding hidden_in row_pair
keyed_at t home marked keys b i =
    let u = slice_index_or t.target i 0 in
    cond (hidden_in t.label t.target home b i && marked u) (t.labels, slice_index keys u) (row_pair t home i)

-- the pairs pushed for s, before duplicates go
unfoldable pub inductive_pushed : Lts → List ℕ → (ℕ → Bool) → List ℕ → ℕ → List Pair
unfolding own_rows keyed_at
inductive_pushed t home marked keys s = map (keyed_at t home marked keys (slice_index home s)) (own_rows t s)

unfoldable pub inductive_signature : Lts → List ℕ → (ℕ → Bool) → List ℕ → ℕ → List Pair
unfolding signature inductive_pushed
inductive_signature t home marked keys s = signature (inductive_pushed t home marked keys s)

unfoldable pub branching_bisim_signature_inductive : Lts → Partition → ℕ → List ℕ → Columns → List (List ℕ) → Said × Left
unfolding signing signature_refusal works_fit inductive_pushed inductive_signature unmarkedb
branching_bisim_signature_inductive t p s keys out works =
    let home = p.element_to_block in
    let marked : ℕ → Bool = λ u. not (unmarkedb p u) in
    signing (signature_refusal t p s (nat_le t.n (length keys) && works_fit t works)) (length (inductive_pushed t home marked keys s))
    (inductive_signature t home marked keys s) out works
