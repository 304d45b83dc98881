-- What a call of `quotient_lts_naive` goes by that is not refused, and its two ways out.
use Rattle.std.specs.Prelude.{◌≡◌, ℕ, ◌+◌, Bool, List, map, length}
use mathlib.Core.Path.{refl, ap, ◌∙◌}
use Rattle.columns.specs.Answers.{Refusal}
use Rattle.columns.specs.Answers.{Said, done, refused}
use Rattle.columns.specs.Columns.{zeroed}
use Rattle.columns.specs.Due.{due, all_long, Roomy}
use Rattle.columns.proofs.Bools.{and_left, and_right}
use Rattle.columns.proofs.Chains.{passed}
use Rattle.columns.proofs.Rooms.{roomy_of}
use Rattle.columns.proofs.Saying.{left_refused, left_done}
use Rattle.partition.specs.Partition.{Partition, Sound}
use Rattle.quotient.specs.Call.{quotient_refusal, rows_between, quotient_lts_naive}
use Rattle.quotient.specs.Naive.{header_by}
use Rattle.table.specs.Checks.{works_long, call_room}
use Rattle.table.specs.Lts.{Lts, Valid}
use Rattle.table.specs.Tables.{Three, lengths_of, rows_over}
use Rattle.table_partition.specs.Checks.{both_tests}
use Rattle.table_partition.proofs.Refusals.{both_of}

pub record QuotientReady (t : Lts) (p : Partition) (out : Three) (work : List (List ℕ)) : Type 0 where
  pub valid : Valid t
  pub sound : Sound p
  pub results : Roomy t.m (lengths_of out)
  pub works : Roomy (t.n + t.m + 1) (map length work)

-- the check is asked with the room that there is
pub asked :
    (t : Lts) (p : Partition) (out : Three) (work : List (List ℕ)) (room : Bool) → room ≡ call_room t t.m (lengths_of out) (map length work)
    → (r : Refusal) → r ≡ due (both_tests t p room) → r ≡ quotient_refusal t p out work
unfolding quotient_refusal
asked t p out work room h r e = e ∙ ap (λ (b : Bool). due (both_tests t p b)) h

module _ (t : Lts) (p : Partition) (out : Three) (work : List (List ℕ)) (r : Refusal) (e : r ≡ quotient_refusal t p out work) where
  pub quotient_ready : p.n ≡ t.n → r.number ≡ 0 → QuotientReady t p out work
  unfolding quotient_refusal
  quotient_ready same z =
      let room = call_room t t.m (lengths_of out) (map length work) in
      let q = both_of t p same room (passed (both_tests t p room) refl r e z) in
      let x = all_long t.m (lengths_of out) in
      let y = works_long t (map length work) in
      record {
        valid = q.valid;
        sound = q.sound;
        results = roomy_of t.m (lengths_of out) (and_left x y q.enough);
        works = roomy_of (t.n + t.m + 1) (map length work) (and_right x y q.enough);
      }

  module _ (inerts loops : Bool) (s : Said) where
    pub naive_refused :
        (r.number ≡ 0 → ⊥) → s ≡ refused r.number r.place → (s, (out, work)) ≡ quotient_lts_naive inerts loops t p out work
    unfolding quotient_lts_naive
    naive_refused n f = left_refused _ r e _ _ _ s n f

    pub naive_answered :
        r.number ≡ 0 → s ≡ done (header_by t p.element_to_block p.count (rows_between inerts loops t p))
        → (left : Three) → left ≡ rows_over (rows_between inerts loops t p) out → (work₁ : List (List ℕ)) → work₁ ≡ zeroed work
        → (s, (left, work₁)) ≡ quotient_lts_naive inerts loops t p out work
    unfolding quotient_lts_naive
    naive_answered z f left el work₁ ew = left_done _ r e _ _ _ s (left, work₁) z f (λ i. (el i, ew i))
