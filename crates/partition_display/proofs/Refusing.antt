-- Laws of `display_refusal`: what holds where a call is not refused.
use Prim.Native.Nat.{ℕ, ◌≤◌}
use native.Mathlib.Omega.{arith}
use borrow.Author.Tests.{leb-true}
use mathlib.Core.Bool.{true}
use mathlib.Core.List.{[], ◌∷◌}
use mathlib.Core.Path.{◌≡◌, refl}
use lib.ListN.{length}
use Rattle.columns.specs.Answers.{none}
use Rattle.columns.specs.Due.{due, room_test}
use Rattle.columns.proofs.Chains.{Holds, passed, passed_both}
use Rattle.partition.specs.Checks.{partition_tests}
use Rattle.partition.specs.Partition.{Partition, Sound}
use Rattle.partition.proofs.Refusals.{checked_of}
use Rattle.partition_display.specs.Display.{display_text, display_refusal}
use Rattle.partition_display.specs.Writing.{Readable}

readable_of : (p : Partition) → Sound p → Readable p.elements p.begin p.marked_split p.end p.count
readable_of p s =
    record {
      few = omega arith;
      begins = omega arith;
      splits = omega arith;
      stops = omega arith;
      blocks = λ b h. let w = s.consistent.bounds b h in record { rises = omega arith; ends = omega arith };
    }

-- the call's checks refuse nothing
module _ (p : Partition) (room : ℕ) (e : none ≡ display_refusal p room) where
  held : Holds (partition_tests p true) × Holds (room_test (length (display_text p)) room ∷ [])
  unfolding display_refusal
  held = passed_both (partition_tests p true) (room_test (length (display_text p)) room ∷ []) refl none e refl

  pub display_reads : Readable p.elements p.begin p.marked_split p.end p.count
  display_reads = readable_of p (checked_of p true held.0).sound

  pub display_room : length (display_text p) ≤ room
  display_room = leb-true _ _ held.1.0

-- partition's own checks refuse nothing
pub checked_reads : (p : Partition) → none ≡ due (partition_tests p true) → Readable p.elements p.begin p.marked_split p.end p.count
checked_reads p e = readable_of p (checked_of p true (passed (partition_tests p true) refl none e refl)).sound
