-- Any two results that the contract of `quotient_lts_block` allows are equal.
use Rattle.std.specs.Prelude.{ℕ, Bool, List}
use Rattle.columns.specs.Determined.{Determined}
use Rattle.columns.proofs.Determined.{determined}
use Rattle.partition.specs.Partition.{Partition}
use Rattle.quotient_block.specs.Call.{quotient_lts_block}
use Rattle.table.specs.Lts.{Lts}
use Rattle.table.specs.Tables.{Three, said_table}
use Rattle.table.proofs.Tables.{same_table}

pub quotient_lts_block_lem :
    (branching loops : Bool) (t : Lts) (p : Partition) (out : Three) (work : List (List ℕ))
    → Determined said_table (quotient_lts_block branching loops t p out work)
quotient_lts_block_lem branching loops t p out work = determined same_table
