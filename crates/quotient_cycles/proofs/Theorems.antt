-- What `tau_cycle_elimination_and_reorder` has done where it says done, in document 01's words. t is the table that is lent, `eliminate`
-- the flag for both switches; `out` and `work` are what the result columns and the work slices held, `left` and `work₁` what they hold at
-- return.
use Rattle.std.specs.Prelude.{◌≡◌, ℕ, ◌<◌, Bool, true, ◌⊎◌, ◌↔◌, List, [], ◌∷◌, map, length}
use mathlib.Core.Path.{refl, ap}
use Rattle.columns.specs.Answers.{done}
use Rattle.columns.specs.Columns.{zeroed}
use Rattle.columns.proofs.Doing.{leaving_done}
use Rattle.quotient_components.specs.Components.{components}
use Rattle.table.specs.Lts.{Lts, Step, Valid}
use Rattle.table.specs.Reach.{Way}
use Rattle.table.specs.Tables.{Three, lengths_of, rows_over}
use Rattle.quotient_cycles.specs.Reordered.{merged, new_place, new_number, new_rows, reordered_table}
use Rattle.quotient_cycles.specs.Call.{reorder_refusal, tau_cycle_elimination_and_reorder}
use Rattle.quotient_cycles.proofs.Calls.{ready_reorder}
use Rattle.quotient_cycles.proofs.Reordering.{
  new_number_exactly,
  new_number_below,
  new_exactly,
  reordered_valid,
  hidden_falls,
  hidden_lower,
}
-- The new numbers of the components are a permutation, and every one is that of a state. With the flag no hidden cycle is left, self-loops
-- among them. The sort is never refused: the quotient by components has no hidden cycle longer than a self-loop.
pub use Rattle.quotient_cycles.proofs.Reordering.{places_permute, new_number_onto, no_hidden_cycle}
pub use Rattle.quotient_cycles.proofs.Acyclic.{acyclic}

-- a call that says these numbers and leaves this
pub record ReorderDone
    (t : Lts) (state : ℕ) (eliminate : Bool) (out : Three) (work : List (List ℕ)) (values : List ℕ) (left : Three) (work₁ : List (List ℕ)) :
    Type 0
  where
    -- the table and the state passed the checks
    pub valid : Valid t
    pub known : state < t.n
    -- the answer is the header of what comes out, and the given state's new number
    pub answer :
        values
        ≡ components t ∷ t.labels ∷ length (new_rows t eliminate) ∷ new_number t eliminate t.initial ∷ new_number t eliminate state ∷ []
    -- its rows are over the first cells of the result columns, and nothing else is written
    pub rows : left ≡ rows_over (new_rows t eliminate) out
    pub cleared : work₁ ≡ zeroed work
    -- two states get one number exactly if hidden steps lead from each to the other
    pub exactly :
        (s u : ℕ) → s < t.n → u < t.n → (new_number t eliminate s ≡ new_number t eliminate u) ↔ (Way t true s u × Way t true u s)
    pub below : (s : ℕ) → s < t.n → new_number t eliminate s < components t
    -- the rows are those of the naive quotient by components, renumbered by the reversed hidden order
    pub renumbered :
        (b a c : ℕ) → b < components t → c < components t
        → Step (reordered_table t eliminate) (new_place t eliminate b) a (new_place t eliminate c) ↔ Step (merged t eliminate) b a c
    pub table : Valid (reordered_table t eliminate)
    -- a hidden row leads to a smaller number or is a self-loop; with the flag it always leads to a smaller number
    pub falls : (b c : ℕ) → Step (reordered_table t eliminate) b 0 c → (b ≡ c) ⊎ (c < b)
    pub lower : eliminate ≡ true → (b c : ℕ) → Step (reordered_table t eliminate) b 0 c → c < b

pub reorder_done :
    (t : Lts) (state : ℕ) (eliminate : Bool) (out : Three) (work : List (List ℕ)) (values : List ℕ) (left : Three) (work₁ : List (List ℕ))
    → (done values, (left, work₁)) ≡ tau_cycle_elimination_and_reorder t state eliminate out work
    → ReorderDone t state eliminate out work values left work₁
unfolding tau_cycle_elimination_and_reorder reorder_refusal
reorder_done t state eliminate out work values left work₁ e =
    let l = new_rows t eliminate in
    let r = reorder_refusal t state out work in
    let k = leaving_done r (out, work) (left, work₁) (rows_over l out, zeroed work) values
    (components t ∷ t.labels ∷ length l ∷ new_number t eliminate t.initial ∷ new_number t eliminate state ∷ []) e in
    let q = ready_reorder t state (lengths_of out) (map length work) r refl k.0 in
    let v = q.0.valid in
    record {
      valid = v;
      known = q.1;
      answer = k.1;
      rows = ap (λ (x : Three × List (List ℕ)). x.0) k.2;
      cleared = ap (λ (x : Three × List (List ℕ)). x.1) k.2;
      exactly = new_number_exactly t v eliminate;
      below = new_number_below t v eliminate;
      renumbered = new_exactly t v eliminate;
      table = reordered_valid t v eliminate;
      falls = hidden_falls t v eliminate;
      lower = λ on b c. hidden_lower t v eliminate on b c;
    }
