-- What `sort_topological` has done where it says done, in document 01's words, and when it says 11. t is the table that is lent; `places`,
-- `marks` and `stack` are what the result column and the work slices held, `left`, `marks₁` and `stack₁` what they hold at return.
use Rattle.std.specs.Prelude.{◌≡◌, ℕ, ◌<◌, Bool, true, false, cond, List, [], length, get_or}
use mathlib.Core.Path.{refl, sym, ap, subst, ◌∙◌}
use native.Mathlib.Omega.{arith}
use Rattle.columns.specs.Answers.{Refusal}
use Rattle.columns.specs.Answers.{Said, done, refused, unless}
use Rattle.columns.specs.Columns.{written, zeros}
use Rattle.columns.specs.Limits.{cyclic}
use Rattle.columns.proofs.Bools.{contra}
use Rattle.columns.proofs.Lists.{length-written, written_at, written_after}
use Rattle.columns.proofs.Saying.{apart}
use Rattle.table.specs.Lts.{Lts, Valid}
use Rattle.table.specs.Promise.{Beyond}
use Rattle.table.proofs.Rows.{step_fields}
use Rattle.columns.proofs.Doing.{unless_done}
use Rattle.table_order.specs.Order.{sort_place, has_cycle}
use Rattle.table_order.specs.Call.{sort_refusal, sorted, sort_topological}
use Rattle.table_order.specs.Promise.{LongCycle, Permutation, Comes, Topological}
use Rattle.table_order.proofs.Calls.{ready}
use Rattle.table_order.proofs.Cycles.{cyclic_long}
use Rattle.table_order.proofs.Topological.{permutation, topological}
-- For a right table and the room it is 11 exactly if some state reaches itself through another one by accepted rows, and otherwise done.
-- The order that is not reversed is the opposite of the reversed one.
pub use Rattle.table_order.proofs.Topological.{eleven, sorts, opposite}
-- Where there is no cycle of the kind asked for, nothing moves: no rows, no hidden rows, only self-loops.
pub use Rattle.table_order.proofs.Absences.{no_row, no_hidden, still_reversed, still_forward}
-- How high the stack can be, and how many turns the search takes.
pub use Rattle.table_order.proofs.Bounds.{stack_most, stack_visit, turns_most}

-- a call that is done and leaves this
pub record SortDone (t : Lts) (hidden reversed : Bool) (places marks stack left marks₁ stack₁ : List ℕ) : Type 0 where
  -- the table passed the checks, and the accepted rows hold no cycle longer than a self-loop
  pub valid : Valid t
  pub free : LongCycle t hidden → ⊥
  -- each state's place is that of the definition: depth first from 0 upward, the last listed successor first, by finishing
  pub place : (s : ℕ) → s < t.n → get_or left s 0 ≡ sort_place t hidden reversed s
  -- the places are those below n, each once
  pub permuted : Permutation t.n (λ s. get_or left s 0)
  -- reversed, the target of each accepted row to another state comes before its source, otherwise behind it
  pub ordered : Topological t hidden reversed (λ s. get_or left s 0)
  pub beyond : Beyond t.n places left
  pub cleared : (marks₁ ≡ zeros (length marks)) × (stack₁ ≡ zeros (length stack))

-- places that agree with those of the definition
module _ (t : Lts) (v : Valid t) (hidden reversed : Bool) (free : LongCycle t hidden → ⊥) (p : ℕ → ℕ)
    (same : (s : ℕ) → s < t.n → p s ≡ sort_place t hidden reversed s) where
  agree_permuted : Permutation t.n p
  agree_permuted =
      let q = permutation t v hidden free reversed in
      record {
        below = λ s h. omega (arith, same s h, q.below s h);
        one = λ s u h k e. q.one s u h k (sym (same s h) ∙ e ∙ same u k);
        onto = λ k h. let o = q.onto k h in (o.0, o.1, same o.0 o.1 ∙ o.2);
      }

  agree_ordered : Topological t hidden reversed p
  agree_ordered = record {
    along = λ s a u k e n.
        let w = step_fields t v s a u k in
        subst (λ (x : ℕ). Comes reversed x (p u)) (sym (same s w.0))
        (subst (λ (y : ℕ). Comes reversed (sort_place t hidden reversed s) y) (sym (same u w.1.1))
        ((topological t v hidden free reversed).along s a u k e n));
  }

-- nothing is refused, neither by the checks nor by the search
not_refused :
    {A : Type 0} (r : Refusal) (c : Bool) (before after left : A)
    → (done [], left) ≡ unless r before (cond c (refused cyclic 0) (done []), after) → (r.number ≡ 0) × (c ≡ false) × (left ≡ after)
not_refused {A} r c before after left e =
    let d = unless_done r before left [] (cond c (refused cyclic 0) (done []), after) e in
    (d.0, said c (ap (λ (x : Said × A). x.0) d.1), ap (λ (x : Said × A). x.1) d.1)
  where
    said : (c : Bool) → done [] ≡ cond c (refused cyclic 0) (done []) → c ≡ false
    said true e = absurd (apart _ _ _ e)
    said false e = refl

pub sort_done :
    (t : Lts) (hidden reversed : Bool) (places marks stack left marks₁ stack₁ : List ℕ)
    → (done [], (left, (marks₁, stack₁))) ≡ sort_topological t hidden reversed places marks stack
    → SortDone t hidden reversed places marks stack left marks₁ stack₁
unfolding sort_topological sorted
sort_done t hidden reversed places marks stack left marks₁ stack₁ e =
    let k = not_refused (sort_refusal t (length places) (length marks) (length stack)) (has_cycle t hidden) (places, (marks, stack))
    (sorted t hidden reversed places, (zeros (length marks), zeros (length stack))) (left, (marks₁, stack₁)) e in
    let q = ready t (length places) (length marks) (length stack) k.0 in
    let v = q.valid in
    let f = sort_place t hidden reversed in
    let free : LongCycle t hidden → ⊥ = λ c. contra ((cyclic_long t hidden v).1 c) k.1 in
    let c : left ≡ written t.n f places
    = ap (λ (x : List ℕ × (List ℕ × List ℕ)). x.0) k.2 ∙ ap (λ (b : Bool). cond b places (written t.n f places)) k.1 in
    let same : (s : ℕ) → s < t.n → get_or left s 0 ≡ f s
    = λ s h. ap (λ (l : List ℕ). get_or l s 0) c ∙ written_at t.n f places s h in
    record {
      valid = v;
      free = free;
      place = same;
      permuted = agree_permuted t v hidden reversed free (λ s. get_or left s 0) same;
      ordered = agree_ordered t v hidden reversed free (λ s. get_or left s 0) same;
      beyond =
          subst (Beyond t.n places) (sym c)
          (record { size = length-written t.n f places q.result; cell = written_after t.n f places });
      cleared = (
        ap (λ (x : List ℕ × (List ℕ × List ℕ)). x.1.0) k.2,
        ap (λ (x : List ℕ × (List ℕ × List ℕ)). x.1.1) k.2,
      );
    }
