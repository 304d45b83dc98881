-- Laws of the refusals: what holds once a table and a partition are checked.
use Prim.Native.Nat.{ℕ, ◌<◌}
use native.Mathlib.Omega.{arith}
use borrow.Author.Tests.{ltb-true}
use mathlib.Core.Bool.{Bool, true, ◌&&◌}
use mathlib.Core.List.{[], ◌∷◌}
use mathlib.Core.Path.{◌≡◌, refl}
use Rattle.columns.specs.Limits.{inconsistent}
use Rattle.columns.specs.Answers.{Refusal}
use Rattle.columns.specs.Due.{test, index_test}
use Rattle.columns.proofs.Bools.{and_left, and_right, and_both}
use Rattle.columns.proofs.Chains.{Holds, parted, passed_both, holds_both}
use Rattle.partition.specs.Partition.{Partition, Sound, longb, consistentb}
use Rattle.partition.proofs.Holds.{consistent_of, long_of, of_consistent, of_long}
use Rattle.table_partition.specs.Checks.{both_tests, both_argument_refusal}
use Rattle.table.specs.Checks.{table_tests}
use Rattle.table.specs.Lts.{Lts, Valid}
use Rattle.table.proofs.Refusals as T

-- what a call goes by whose table and partition are checked
pub record BothChecked (t : Lts) (p : Partition) (room : Bool) : Type 0 where
  pub valid : Valid t
  pub sound : Sound p
  pub enough : room ≡ true

-- and one whose argument is too
pub record BothReady (t : Lts) (p : Partition) (i bound : ℕ) (room : Bool) : Type 0 where
  pub valid : Valid t
  pub sound : Sound p
  pub known : i < bound
  pub enough : room ≡ true

module _ (t : Lts) (p : Partition) (same : p.n ≡ t.n) where
  pub both_of : (room : Bool) → Holds (both_tests t p room) → BothChecked t p room
  both_of room h =
      let q = parted (table_tests t (longb p && room)) (test (consistentb p) inconsistent 0 ∷ []) h in
      let c = T.checked_of t (longb p && room) q.0 in
      record {
        valid = c.valid;
        sound = record {
          small = omega (arith, same, c.valid.few_states);
          long = long_of p (and_left (longb p) room c.enough);
          consistent = consistent_of p q.1.0;
        };
        enough = and_right (longb p) room c.enough;
      }

  -- a right table, a consistent partition and room pass every test
  pub of_both : (room : Bool) → BothChecked t p room → Holds (both_tests t p room)
  of_both room c =
      holds_both (table_tests t (longb p && room)) (test (consistentb p) inconsistent 0 ∷ [])
      (T.of_checked t (longb p && room) c.valid (and_both (of_long p c.sound.long) c.enough))
      (of_consistent p c.sound.consistent, tt)

  pub both_ready :
      (i bound : ℕ) (room : Bool) (r : Refusal) → r ≡ both_argument_refusal t p i bound room → r.number ≡ 0 → BothReady t p i bound room
  unfolding both_argument_refusal
  both_ready i bound room r e z =
      let h = passed_both (both_tests t p room) (index_test i bound ∷ []) refl r e z in
      let c = both_of room h.0 in
      record { valid = c.valid; sound = c.sound; known = ltb-true i bound h.1.0; enough = c.enough }
