-- Any two results that the contract of the sorted branching signature allows are equal.
use Rattle.std.specs.Prelude.{ℕ, List}
use Rattle.columns.specs.Answers.{said_number}
use Rattle.columns.specs.Determined.{Determined}
use Rattle.columns.proofs.Determined.{determined}
use Rattle.columns.proofs.Saying.{same_number}
use Rattle.partition.specs.Partition.{Partition}
use Rattle.signatures.specs.Pairs.{Columns}
use Rattle.table.specs.Lts.{Lts}
use Rattle.signatures_sorted.specs.Sorted.{Given, branching_bisim_signature_sorted}

pub branching_bisim_signature_sorted_lem :
    (t : Lts) (p : Partition) (s : ℕ) (g : Given) (out : Columns) (works : List (List ℕ)) →
    Determined said_number (branching_bisim_signature_sorted t p s g out works)
branching_bisim_signature_sorted_lem t p s g out works = determined same_number
