-- What `remove_redundant_transitions` has done where it says done, in document 01's words. t is the table that is lent; `out` and `work`
-- are what the result columns and the work slices held, `left` and `work₁` what they hold at return.
use Rattle.std.specs.Prelude.{◌≡◌, ℕ, ◌↔◌, List, [], ◌∷◌, map, length}
use mathlib.Core.Path.{refl, ap}
use native.Mathlib.Omega.{arith}
use Rattle.columns.specs.Answers.{done}
use Rattle.columns.specs.Columns.{zeroed}
use Rattle.columns.specs.Sets.{row_lt, Ascending, StepIn}
use Rattle.columns.proofs.Counting.{many-le}
use Rattle.columns.proofs.Doing.{leaving_done}
use Rattle.table.specs.Lts.{Lts, Step, Valid}
use Rattle.table.specs.Tables.{Three, lengths_of, rows_over, table_of}
use Rattle.table.proofs.Rooms.{ready_call}
use Rattle.table.proofs.Rows.{step_fields}
use Rattle.table.proofs.Tables.{table_of_valid}
use Rattle.quotient_redundant.specs.Redundant.{Redundant, remains, remaining_rows}
use Rattle.quotient_redundant.specs.Call.{remove_refusal, remove_redundant_transitions}
use Rattle.quotient_redundant.proofs.Redundancy.{remaining_exactly, remaining_ascending, remaining_count}
-- Row i can go exactly if it is redundant (`Redundant` has document 01's words). No other list of rows ascends and has just those that
-- stay.
pub use Rattle.quotient_redundant.proofs.Redundancy.{redundant_exactly, remaining_unique}

-- a call that says these numbers and leaves this
pub record RemoveDone
    (t : Lts) (out : Three) (work : List (List ℕ)) (values : List ℕ) (left : Three) (work₁ : List (List ℕ)) : Type 0 where
  -- the table passed the checks
  pub valid : Valid t
  -- the answer is the header of what is left
  pub answer : values ≡ t.n ∷ t.labels ∷ length (remaining_rows t) ∷ t.initial ∷ []
  -- the rows that stay are over the first cells of the result columns, and nothing else is written
  pub rows : left ≡ rows_over (remaining_rows t) out
  -- a row stays exactly if it was there and is not redundant: every test is against the whole table
  pub exactly : (s a u : ℕ) → StepIn (remaining_rows t) s a u ↔ (Step t s a u × (Redundant t s a u → ⊥))
  pub ascending : Ascending row_lt (remaining_rows t)
  -- what is left is a right table
  pub table : Valid (table_of t.n t.labels t.initial (remaining_rows t))
  pub cleared : work₁ ≡ zeroed work

-- the rows that stay make a right table
pub remaining_valid : (t : Lts) → Valid t → Valid (table_of t.n t.labels t.initial (remaining_rows t))
remaining_valid t v =
    table_of_valid t.n t.labels t.initial (remaining_rows t)
    record {
      some_states = v.some_states;
      few_states = v.few_states;
      some_labels = v.some_labels;
      few_labels = v.few_labels;
      few_rows = omega (arith, remaining_count t, many-le t.m (remains t), v.few_rows);
      initial = v.initial;
    }
    (λ s a u k. step_fields t v s a u ((remaining_exactly t v s a u).0 k).0) (remaining_ascending t v)

pub remove_done :
    (t : Lts) (out : Three) (work : List (List ℕ)) (values : List ℕ) (left : Three) (work₁ : List (List ℕ))
    → (done values, (left, work₁)) ≡ remove_redundant_transitions t out work → RemoveDone t out work values left work₁
unfolding remove_redundant_transitions remove_refusal
remove_done t out work values left work₁ e =
    let l = remaining_rows t in
    let k = leaving_done (remove_refusal t out work) (out, work) (left, work₁) (rows_over l out, zeroed work) values
    (t.n ∷ t.labels ∷ length l ∷ t.initial ∷ []) e in
    let v = (ready_call t t.m (lengths_of out) (map length work) (remove_refusal t out work) refl k.0).valid in
    record {
      valid = v;
      answer = k.1;
      rows = ap (λ (x : Three × List (List ℕ)). x.0) k.2;
      exactly = remaining_exactly t v;
      ascending = remaining_ascending t v;
      table = remaining_valid t v;
      cleared = ap (λ (x : Three × List (List ℕ)). x.1) k.2;
    }
