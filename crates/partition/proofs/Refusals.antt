-- Laws of the refusals: what holds once a call is not refused.
use Prim.Native.Nat.{ℕ, ◌≤◌, ◌<◌}
use borrow.Author.Tests.{ltb-true}
use mathlib.Core.Bool.{Bool, true}
use mathlib.Core.List.{[], ◌∷◌}
use mathlib.Core.Path.{◌≡◌, refl}
use Rattle.columns.specs.Limits.{max_states}
use Rattle.columns.specs.Answers.{Refusal}
use Rattle.columns.specs.Due.{index_test}
use Rattle.columns.proofs.Bools.{and_left, and_right}
use Rattle.columns.proofs.Chains.{Holds, passed, passed_both}
use Rattle.columns.proofs.Rooms.{range_of}
use Rattle.partition.specs.Checks.{size_tests, partition_tests, partition_refusal, argument_refusal, blocks_refusal}
use Rattle.partition.specs.Fresh.{new_refusal}
use Rattle.partition.specs.Partition.{Partition, Long, Sound, longb}
use Rattle.partition.proofs.Holds.{consistent_of, long_of}

-- what a call goes by whose columns are long enough
pub record Sized (p : Partition) (room : Bool) : Type 0 where
  pub some : 1 ≤ p.n
  pub small : p.n ≤ max_states
  pub long : Long p
  pub enough : room ≡ true

pub sized_of : (p : Partition) (room : Bool) → Holds (size_tests p room) → Sized p room
sized_of p room h =
    let s = range_of 1 p.n max_states h.0 in
    record { some = s.0; small = s.1; long = long_of p (and_left (longb p) room h.1.0); enough = and_right (longb p) room h.1.0 }

-- and one whose columns hold a partition
pub record Checked (p : Partition) (room : Bool) : Type 0 where
  pub sound : Sound p
  pub enough : room ≡ true

pub checked_of : (p : Partition) (room : Bool) → Holds (partition_tests p room) → Checked p room
checked_of p room h =
    let s = sized_of p room (h.0, (h.1.0, tt)) in
    record { sound = record { small = s.small; long = s.long; consistent = consistent_of p h.1.1.0 }; enough = s.enough }

pub partition_sound : (p : Partition) → (partition_refusal p).number ≡ 0 → Sound p
unfolding partition_refusal
partition_sound p z = (checked_of p true (passed (partition_tests p true) refl (partition_refusal p) refl z)).sound

-- a state or a block as well
pub record ArgumentReady (p : Partition) (i bound : ℕ) (room : Bool) : Type 0 where
  pub sound : Sound p
  pub known : i < bound
  pub enough : room ≡ true

pub argument_ready :
    (p : Partition) (i bound : ℕ) (room : Bool) (t : Refusal) → t ≡ argument_refusal p i bound room → t.number ≡ 0
    → ArgumentReady p i bound room
unfolding argument_refusal
argument_ready p i bound room t e z =
    let h = passed_both (partition_tests p room) (index_test i bound ∷ []) refl t e z in
    let c = checked_of p room h.0 in
    record { sound = c.sound; known = ltb-true i bound h.1.0; enough = c.enough }

pub record BlocksReady (p : Partition) (l r : ℕ) : Type 0 where
  pub sound : Sound p
  pub left : l < p.count
  pub right : r < p.count

pub blocks_ready : (p : Partition) (l r : ℕ) (t : Refusal) → t ≡ blocks_refusal p l r → t.number ≡ 0 → BlocksReady p l r
unfolding blocks_refusal
blocks_ready p l r t e z =
    let h = passed_both (partition_tests p true) (index_test l p.count ∷ index_test r p.count ∷ []) refl t e z in
    record {
      sound = (checked_of p true h.0).sound;
      left = ltb-true l p.count h.1.0;
      right = ltb-true r p.count h.1.1.0;
    }

pub new_ready : (p : Partition) (t : Refusal) → t ≡ new_refusal p → t.number ≡ 0 → Sized p true
unfolding new_refusal
new_ready p t e z = sized_of p true (passed (size_tests p true) refl t e z)
