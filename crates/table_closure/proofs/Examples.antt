-- Three states in one block in the order 1, 0, 2, closed: nothing marked; all marked; no rows; no hidden row; and a hidden chain from 0
-- over 1 to 2, of which the last is marked.
use Rattle.std.specs.Prelude.{◌≡◌, ℕ, List, [], ◌∷◌}
use mathlib.Core.Path.{refl}
use Rattle.table_closure.specs.Closure.{mark_backward_closure}
use Rattle.columns.specs.Answers.{Said, done}
use Rattle.columns.specs.Columns.{zeros}
use Rattle.columns.specs.Due.{all_long}
use Rattle.columns.specs.Inverse.{inverseb, inverse_at}
use Rattle.columns.specs.Counting.{all}
use Rattle.partition.specs.Partition.{Partition, parts, withinb, block_at, boundsb, insideb, lie_at, liesb, lengths, consistentb, longb}
use Rattle.table.specs.Lts.{Lts}
use Rattle.table.proofs.Examples.{bare}

-- the rows (0, a, 1) and (1, a, 2)
abbrev pub chain : ℕ → Lts
chain a = record { n = 3; labels = 2; m = 2; initial = 0; source = 0 ∷ 1 ∷ []; label = a ∷ a ∷ []; target = 1 ∷ 2 ∷ [] }

-- marked from this position on
abbrev pub from : ℕ → List ℕ → Partition
from x order = parts order order (0 ∷ 0 ∷ 0 ∷ []) (0 ∷ 0 ∷ 0 ∷ []) (x ∷ 0 ∷ 0 ∷ []) (3 ∷ 0 ∷ 0 ∷ []) 3 1

abbrev pub given : ℕ → Partition
given x = from x (1 ∷ 0 ∷ 2 ∷ [])

abbrev pub work_slice : List ℕ
work_slice = 7 ∷ 7 ∷ 7 ∷ 7 ∷ 7 ∷ 7 ∷ []

abbrev pub run : Lts → ℕ → Said × (Partition × (List ℕ × List ℕ))
run t x = mark_backward_closure t (given x) 0 work_slice work_slice

abbrev pub leaves : Partition → Said × (Partition × (List ℕ × List ℕ))
leaves p = (done [], (p, (zeros 6, zeros 6)))

pub examples :
    (run (chain 0) 3 ∷ run (chain 0) 0 ∷ run bare 2 ∷ run (chain 1) 2 ∷ run (chain 0) 2 ∷ [])
    ≡ (leaves (given 3) ∷ leaves (given 0) ∷ leaves (given 2) ∷ leaves (given 2) ∷ leaves (from 0 (0 ∷ 1 ∷ 2 ∷ [])) ∷ [])
unfolding mark_backward_closure consistentb longb all_long inverseb inverse_at all boundsb block_at withinb liesb lie_at insideb lengths
examples = refl
