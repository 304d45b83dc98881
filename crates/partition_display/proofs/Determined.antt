-- Any two results that the contract of `display` allows are equal.
use Prim.Native.Nat.{ℕ}
use mathlib.Core.List.{List}
use Rattle.columns.specs.Answers.{said_number}
use Rattle.columns.specs.Determined.{Determined}
use Rattle.columns.proofs.Determined.{determined}
use Rattle.columns.proofs.Saying.{same_number}
use Rattle.partition.specs.Partition.{Partition}
use Rattle.partition_display.specs.Display.{displayed}

pub display : (p : Partition) (text : List ℕ) → Determined said_number (displayed p text)
display p text = determined same_number
