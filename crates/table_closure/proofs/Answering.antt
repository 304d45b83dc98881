-- What a call of `mark_backward_closure` goes by that is not refused, and its two ways out.
use Rattle.std.specs.Prelude.{◌≡◌, ℕ, ◌+◌, ◌<◌, ◌≤◌, Bool, List, [], ◌∷◌, length}
use mathlib.Core.Path.{ap, ◌∙◌}
use Rattle.columns.specs.Answers.{Said, done, refused}
use Rattle.columns.specs.Columns.{zeros}
use Rattle.columns.specs.Answers.{Refusal}
use Rattle.columns.proofs.Rooms.{roomy_of}
use Rattle.columns.proofs.Saying.{left_refused, left_done}
use Rattle.table_closure.specs.Closure.{closure_refusal, close, mark_backward_closure}
use Rattle.partition.specs.Partition.{Partition, Sound}
use Rattle.table_partition.specs.Checks.{both_argument_refusal}
use Rattle.table_partition.proofs.Refusals.{both_ready}
use Rattle.table.specs.Checks.{works_long}
use Rattle.table.specs.Lts.{Lts, Valid}

pub record ClosureReady (t : Lts) (p : Partition) (b order spare : ℕ) : Type 0 where
  pub valid : Valid t
  pub sound : Sound p
  pub known : b < p.count
  pub orders : t.n + t.m + 1 ≤ order
  pub spares : t.n + t.m + 1 ≤ spare

-- what the checks answer, with the lengths of the work slices as they are
pub closure_checked : (t : Lts) (p : Partition) (b order spare : ℕ) (room : Bool) {r : Refusal} → r ≡ both_argument_refusal t p b p.count room
    → room ≡ works_long t (order ∷ spare ∷ []) → r ≡ closure_refusal t p b order spare
unfolding closure_refusal
closure_checked t p b order spare room e f = e ∙ ap (both_argument_refusal t p b p.count) f

pub closure_ready :
    (t : Lts) (p : Partition) → p.n ≡ t.n → (b order spare : ℕ) (r : Refusal) → r ≡ closure_refusal t p b order spare → r.number ≡ 0
    → ClosureReady t p b order spare
unfolding closure_refusal
closure_ready t p same b order spare r e z =
    let q = both_ready t p same b p.count (works_long t (order ∷ spare ∷ [])) r e z in
    let w = roomy_of (t.n + t.m + 1) (order ∷ spare ∷ []) q.enough in
    record { valid = q.valid; sound = q.sound; known = q.known; orders = w.0; spares = w.1.0 }

module _ (t : Lts) (p : Partition) (b : ℕ) (order spare : List ℕ) (r : Refusal) (e : r ≡ closure_refusal t p b (length order) (length spare))
    (s : Said) where
  pub closure_refused : (r.number ≡ 0 → ⊥) → s ≡ refused r.number r.place →
      (s, (p, (order, spare))) ≡ mark_backward_closure t p b order spare
  unfolding mark_backward_closure
  closure_refused n f =
      left_refused (closure_refusal t p b (length order) (length spare)) r e (p, (order, spare))
      (close t p b, (zeros (length order), zeros (length spare))) [] s n f

  pub closure_answered :
      r.number ≡ 0 → s ≡ done [] → (q : Partition) → q ≡ close t p b → (h l : List ℕ) → h ≡ zeros (length order) → l ≡ zeros (length spare)
      → (s, (q, (h, l))) ≡ mark_backward_closure t p b order spare
  unfolding mark_backward_closure
  closure_answered z f q eq h l eh el =
      left_done (closure_refusal t p b (length order) (length spare)) r e (p, (order, spare))
      (close t p b, (zeros (length order), zeros (length spare))) [] s (q, (h, l)) z f (λ i. (eq i, (eh i, el i)))
