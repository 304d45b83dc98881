-- `quotient_lts_block` as it is called: what it refuses, says and leaves.
use Rattle.std.specs.Prelude.{ℕ, Bool, List}
use Rattle.columns.specs.Answers.{Said, unless}
use Rattle.columns.specs.Columns.{zeroed}
use Rattle.partition.specs.Partition.{Partition}
use Rattle.quotient.specs.Call.{quotient_refusal}
use Rattle.table.specs.Lts.{Lts}
use Rattle.table.specs.Tables.{Three}
use Rattle.quotient_block.specs.Chosen.{block_quotient}

-- 1, 2, 3, 4, 7, 5 and 6, 14 leave everything as it was; after that the work is zero, also after 12
unfoldable pub quotient_lts_block : Bool → Bool → Lts → Partition → Three → List (List ℕ) → Said × (Three × List (List ℕ))
unfolding unless quotient_refusal block_quotient
quotient_lts_block branching loops t p out work =
    let q = block_quotient branching loops t p.element_to_block p.elements p.begin p.count out in
    unless (quotient_refusal t p out work) (out, work) (q.0, (q.1, zeroed work))
