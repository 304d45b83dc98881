-- What a call goes by whose table is checked, with result columns and work slices given by their lengths.
use Rattle.std.specs.Prelude.{◌≡◌, ℕ, ◌+◌, ◌<◌, true, List}
use mathlib.Core.Path.{refl}
use Rattle.columns.specs.Answers.{Refusal}
use Rattle.columns.specs.Due.{due, all_long, Roomy}
use Rattle.columns.proofs.Bools.{and_left, and_right}
use Rattle.columns.proofs.Chains.{passed}
use Rattle.columns.proofs.Rooms.{roomy_of}
use Rattle.table.specs.Checks.{works_long, call_room, table_tests, table_argument_refusal}
use Rattle.table.specs.Lts.{Lts, Valid}
use Rattle.table.proofs.Refusals.{checked_of, asked_of}

pub record ReadyCall (t : Lts) (cells : ℕ) (results work : List ℕ) : Type 0 where
  pub valid : Valid t
  pub result_room : Roomy cells results
  pub work_room : Roomy (t.n + t.m + 1) work

module _ (t : Lts) (cells : ℕ) (results work : List ℕ) where
  ready_of : Valid t → call_room t cells results work ≡ true → ReadyCall t cells results work
  ready_of v e =
      let x = all_long cells results in
      let y = works_long t work in
      record {
        valid = v;
        result_room = roomy_of cells results (and_left x y e);
        work_room = roomy_of (t.n + t.m + 1) work (and_right x y e);
      }

  pub ready_call : (r : Refusal) → r ≡ due (table_tests t (call_room t cells results work)) → r.number ≡ 0 → ReadyCall t cells results work
  ready_call r e z =
      let q = checked_of t (call_room t cells results work) (passed (table_tests t (call_room t cells results work)) refl r e z) in
      ready_of q.valid q.enough

  -- a call that takes a number below a bound as well
  pub ready_asked :
      (i bound : ℕ) (r : Refusal) → r ≡ table_argument_refusal t i bound (call_room t cells results work) → r.number ≡ 0
      → ReadyCall t cells results work × (i < bound)
  ready_asked i bound r e z =
      let q = asked_of t i bound (call_room t cells results work) r e z in
      (ready_of q.valid q.enough, q.known)
