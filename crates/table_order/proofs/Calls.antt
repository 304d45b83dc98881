-- The whole call: what holds once its checks have passed, and its ways out.
use Rattle.std.specs.Prelude.{◌≡◌, ℕ, ◌+◌, ◌≤◌, Bool, true, false, cond, not, ◌&&◌, leb, List, [], ◌∷◌, length}
use mathlib.Core.Path.{refl}
use native.Mathlib.Omega.{arith}
use borrow.Author.Tests.{leb-true}
use Rattle.columns.specs.Answers.{Refusal}
use Rattle.columns.specs.Answers.{Said, done, refused}
use Rattle.columns.specs.Columns.{zeros}
use Rattle.columns.proofs.Bools.{and_left, and_right}
use Rattle.columns.proofs.Chains.{passed}
use Rattle.columns.proofs.Rooms.{roomy_of}
use Rattle.columns.specs.Limits.{cyclic}
use Rattle.table.specs.Lts.{Lts, Valid}
use Rattle.table.specs.Checks.{works_long, table_tests}
use Rattle.table.proofs.Refusals.{checked_of}
use Rattle.columns.proofs.Saying.{unless_refused, unless_on}
use Rattle.table_order.specs.Order.{has_cycle}
use Rattle.table_order.specs.Call.{sort_refusal, sorted, sort_topological}

-- what the core goes by
pub record SortReady (t : Lts) (places marks stack : ℕ) : Type 0 where
  pub valid : Valid t
  pub result : t.n ≤ places
  pub marked : t.n ≤ marks
  pub stacked : t.m + 1 ≤ stack

pub ready : (t : Lts) (places marks stack : ℕ) → (sort_refusal t places marks stack).number ≡ 0 → SortReady t places marks stack
unfolding sort_refusal
ready t places marks stack z =
    let long = leb t.n places in
    let wide = works_long t (marks ∷ stack ∷ []) in
    let q = checked_of t (long && wide) (passed (table_tests t (long && wide)) refl (sort_refusal t places marks stack) refl z) in
    let w = roomy_of (t.n + t.m + 1) (marks ∷ stack ∷ []) (and_right long wide q.enough) in
    record {
      valid = q.valid;
      result = leb-true t.n places (and_left long wide q.enough);
      marked = omega (arith, w.0);
      stacked = omega (arith, w.1.0);
    }

module _ (t : Lts) (hidden reversed : Bool) (places marks stack : List ℕ) (r : Refusal)
    (e : r ≡ sort_refusal t (length places) (length marks) (length stack)) (s : Said) where
  pub refused_first : (r.number ≡ 0 → ⊥) → s ≡ refused r.number r.place →
      (s, (places, (marks, stack))) ≡ sort_topological t hidden reversed places marks stack
  unfolding sort_topological
  refused_first n f =
      unless_refused (sort_refusal t (length places) (length marks) (length stack)) r e (places, (marks, stack)) _ s n f

  pub sorted_last :
      r.number ≡ 0 → (p a b : List ℕ) (free : Bool) → s ≡ cond free (done []) (refused cyclic 0) → free ≡ not (has_cycle t hidden)
      → p ≡ sorted t hidden reversed places → a ≡ zeros (length marks) → b ≡ zeros (length stack)
      → (s, (p, (a, b))) ≡ sort_topological t hidden reversed places marks stack
  unfolding sort_topological
  sorted_last z p a b free f g hp ha hb =
      unless_on (sort_refusal t (length places) (length marks) (length stack)) r e (places, (marks, stack)) _ (s, (p, (a, b))) z
      (rw (f, g, hp, ha, hb, turn (has_cycle t hidden)))
    where
      turn : (c : Bool) → cond (not c) (done []) (refused cyclic 0) ≡ cond c (refused cyclic 0) (done [])
      turn true = refl
      turn false = refl
