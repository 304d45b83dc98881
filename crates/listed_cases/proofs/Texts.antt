-- What the test of a case says: the partition's text is the list of the listed text's bytes.
use Prim.Native.Nat.{ℕ}
use Prim.Native.String.{String}
use mathlib.Core.Bool.{true}
use mathlib.Core.List.{List}
use mathlib.Core.Path.{◌≡◌, refl}
use lib.Dec.{eqb}
use borrow.Author.Tests.{eqb-true}
use Rattle.columns.specs.Answers.{Said, done, refused}
use Rattle.columns.proofs.Bools.{contra, and_left, and_right}
use Rattle.columns.proofs.Sets.{same_eq}
use Rattle.partition.specs.Partition.{Partition}
use Rattle.partition_display.specs.Display.{display_text}
use Rattle.listed_cases.specs.Cases.{becomes}
use Rattle.listed_cases.specs.Text.{bytes, reads}

read : (l : List ℕ) (text : String) → reads l text ≡ true → l ≡ bytes text
unfolding reads
read l text e = same_eq eqb eqb-true l (bytes text) e

pub texts :
    (p : Partition) (given : String) (s : Said) (q : Partition) (left : String) → becomes p given s q left ≡ true →
    (display_text p ≡ bytes given) × (display_text q ≡ bytes left)
unfolding becomes
texts p given (done values) q left e =
    let a = reads (display_text p) given in
    let b = reads (display_text q) left in
    (read (display_text p) given (and_left a b e), read (display_text q) left (and_right a b e))
texts p given (refused number place) q left e = absurd (contra e refl)
