-- What `tau_scc_decomposition` has done where it says done, in document 01's words. t is the table that is lent; `given` and `work` are
-- what the result column and the work slices held, `left` and `work₁` what they hold at return.
use Rattle.std.specs.Prelude.{◌≡◌, ℕ, ◌<◌, true, ◌↔◌, List, [], ◌∷◌, map, length, get_or}
use mathlib.Core.Path.{refl, sym, ap, subst, ◌∙◌}
use native.Mathlib.Omega.{arith}
use Rattle.columns.specs.Answers.{done}
use Rattle.columns.specs.Columns.{written, zeroed}
use Rattle.columns.specs.Number.{least}
use Rattle.columns.proofs.Doing.{leaving_done}
use Rattle.columns.proofs.Lists.{length-written, written_at, written_after}
use Rattle.table.specs.Lts.{Lts, Valid}
use Rattle.table.specs.Promise.{Beyond}
use Rattle.table.specs.Reach.{Way}
use Rattle.table.proofs.Rooms.{ready_call}
use Rattle.quotient_components.specs.Components.{linked, components, component}
use Rattle.quotient_components.specs.Call.{decomposition_refusal, tau_scc_decomposition}
use Rattle.quotient_components.proofs.Components.{component_exactly, component-below, component_onto, component_order}

-- each state's number in a column: states that reach each other by hidden steps share one, and the numbers follow the least member
pub record Numbers (t : Lts) (k : ℕ) (cells : List ℕ) : Type 0 where
  -- two states share a number exactly if hidden steps lead from each to the other
  pub exactly : (s u : ℕ) → s < t.n → u < t.n → (get_or cells s 0 ≡ get_or cells u 0) ↔ (Way t true s u × Way t true u s)
  -- of two components the one with the smaller least member has the smaller number
  pub order : (s u : ℕ) → s < t.n → u < t.n → least (linked t) s < least (linked t) u → get_or cells s 0 < get_or cells u 0
  -- the numbers are those below k
  pub below : (s : ℕ) → s < t.n → get_or cells s 0 < k
  pub onto : (b : ℕ) → b < k → (s : ℕ) × (s < t.n) × (get_or cells s 0 ≡ b)

-- a call that says these numbers and leaves this
pub record DecompositionDone
    (t : Lts) (given : List ℕ) (work : List (List ℕ)) (values left : List ℕ) (work₁ : List (List ℕ)) : Type 0 where
  -- the table passed the checks
  pub valid : Valid t
  -- the answer is how many components there are
  pub answer : values ≡ components t ∷ []
  pub numbers : Numbers t (components t) left
  pub beyond : Beyond t.n given left
  pub cleared : work₁ ≡ zeroed work

module _ (t : Lts) (v : Valid t) (numbers : List ℕ) where
  cells : List ℕ
  cells = written t.n (component t) numbers

  at : (s : ℕ) → s < t.n → get_or cells s 0 ≡ component t s
  unfolding cells
  at s h = written_at t.n (component t) numbers s h

  written_numbers : Numbers t (components t) cells
  written_numbers = record {
    exactly = λ s u h k. (
      λ e. (component_exactly t v s u).0 (sym (at s h) ∙ e ∙ at u k),
      λ w. at s h ∙ (component_exactly t v s u).1 w ∙ sym (at u k),
    );
    order = λ s u h k l. omega (arith, at s h, at u k, component_order t v s u l);
    below = λ s h. omega (arith, at s h, component-below t v s h);
    onto = λ b h. let p = component_onto t v b h in (p.0, p.1, at p.0 p.1 ∙ p.2);
  }

pub decomposition_done :
    (t : Lts) (numbers : List ℕ) (work : List (List ℕ)) (values left : List ℕ) (work₁ : List (List ℕ))
    → (done values, (left, work₁)) ≡ tau_scc_decomposition t numbers work → DecompositionDone t numbers work values left work₁
unfolding tau_scc_decomposition decomposition_refusal cells
decomposition_done t numbers work values left work₁ e =
    let after = written t.n (component t) numbers in
    let k = leaving_done (decomposition_refusal t numbers work) (numbers, work) (left, work₁) (after, zeroed work) values
    (components t ∷ []) e in
    let q = ready_call t t.n (length numbers ∷ []) (map length work) (decomposition_refusal t numbers work) refl k.0 in
    let c : left ≡ after = ap (λ (x : List ℕ × List (List ℕ)). x.0) k.2 in
    record {
      valid = q.valid;
      answer = k.1;
      numbers = subst (Numbers t (components t)) (sym c) (written_numbers t q.valid numbers);
      beyond =
          subst (Beyond t.n numbers) (sym c)
          (record {
            size = length-written t.n (component t) numbers q.result_room.0;
            cell = written_after t.n (component t) numbers;
          });
      cleared = ap (λ (x : List ℕ × List (List ℕ)). x.1) k.2;
    }
