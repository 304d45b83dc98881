-- The rows of a state as a run: exactly the rows with that source, in 01's order.
use Rattle.std.specs.Prelude.{◌≡◌, ℕ, ◌+◌, ◌<◌, ◌≤◌, true, ltb, ◌↔◌, [], ◌∷◌, get_or}
use mathlib.Core.Path.{refl, sym, subst}
use mathlib.Core.Logic.{⊎_elim}
use native.Mathlib.Omega.{arith}
use borrow.Author.Tests.{ltb-true}
use Rattle.columns.specs.Answers.{done, none}
use Rattle.columns.specs.Sets.{row_lt, pair_lt}
use Rattle.columns.proofs.Orders.{lex-split, ltb_order, pair_order}
use Rattle.columns.proofs.Saying.{asked_done}
use Rattle.columns.specs.Rows.{row_in}
use Rattle.table.specs.Lts.{Lts, row_at, Step, Valid}
use Rattle.table.specs.Checks.{table_argument_refusal}
use Rattle.table.specs.Stretch.{StretchOf, first_row}
use Rattle.table.specs.Transitions.{outgoing_transitions}
use Rattle.table.proofs.Refusals.{asked_of, asked_valid}
use Rattle.table.proofs.Rows.{row_step, step_row}
use Rattle.table.proofs.RowsOf.{rows-stretch}
use Rattle.table.proofs.Sayings.{said_done}
use Rattle.table.proofs.Stretches.{rising}

-- ---- the run
-- the rows from x to before z are exactly those of s; they are its steps, by ascending label, then target
pub record Run (t : Lts) (s x z : ℕ) : Type 0 where
  pub low : x ≤ z
  pub most : z ≤ t.m
  pub row : (i : ℕ) → i < t.m → (get_or t.source i 0 ≡ s) ↔ ((x ≤ i) × (i < z))
  pub step : (a u : ℕ) → Step t s a u ↔ ((i : ℕ) × (x ≤ i) × (i < z) × (a ≡ get_or t.label i 0) × (u ≡ get_or t.target i 0))
  pub ascending : (i j : ℕ) → x ≤ i → i < j → j < z
      → pair_lt (get_or t.label i 0, get_or t.target i 0) (get_or t.label j 0, get_or t.target j 0) ≡ true

module _ (t : Lts) (v : Valid t) (s : ℕ) where
  abbrev first : ℕ
  first = first_row t.source t.m s

  abbrev end : ℕ
  end = first_row t.source t.m (s + 1)

  stretch : StretchOf (λ i. get_or t.source i 0) t.m s first end
  stretch = rows-stretch t.source t.m (rising t v) s first end refl refl

  own : (i : ℕ) → i < t.m → (get_or t.source i 0 ≡ s) ↔ ((first ≤ i) × (i < end))
  own = stretch.exactly

  pub run_law : Run t s first end
  unfolding row_in row_lt
  run_law = record {
    low = stretch.low;
    most = stretch.most;
    row = own;
    step = λ a u. (there a u, back a u);
    ascending = up;
  }
    where
      most : end ≤ t.m
      most = stretch.most

      there : (a u : ℕ) → Step t s a u → (i : ℕ) × (first ≤ i) × (i < end) × (a ≡ get_or t.label i 0) × (u ≡ get_or t.target i 0)
      there a u k =
          let p = step_row t s a u k in
          let b = (own p.row p.below).0 (sym p.source) in
          (p.row, b.0, b.1, p.label, p.target)

      back : (a u : ℕ) → (i : ℕ) × (first ≤ i) × (i < end) × (a ≡ get_or t.label i 0) × (u ≡ get_or t.target i 0) → Step t s a u
      back a u p =
          let h : p.0 < t.m = omega (arith, p.2, most) in
          rw (p.3, p.4, ← (own p.0 h).1 (p.1, p.2)) (row_step t p.0 h)

      up : (i j : ℕ) → first ≤ i → i < j → j < end
          → pair_lt (get_or t.label i 0, get_or t.target i 0) (get_or t.label j 0, get_or t.target j 0) ≡ true
      up i j a h b =
          let l : j < t.m = omega (arith, b, most) in
          let x = (own i (omega (arith, h, l))).1 (a, omega (arith, h, b)) in
          let y = (own j l).1 (omega (arith, a, h), b) in
          ⊎_elim
          (λ (q : ltb (get_or t.source i 0) (get_or t.source j 0) ≡ true). absurd
          (omega (arith, x, y, ltb-true (get_or t.source i 0) (get_or t.source j 0) q)))
          (λ q. q.1)
          (lex-split ltb pair_lt ltb_order pair_order (row_at t i) (row_at t j) (v.ascending i j h l))

-- ---- what `outgoing_transitions` says
pub record Outgoing (t : Lts) (s x z : ℕ) : Type 0 where
  pub valid : Valid t
  pub known : s < t.n
  pub run : Run t s x z

pub outgoing_run : (t : Lts) (s x z : ℕ) → outgoing_transitions t s ≡ done (x ∷ z ∷ []) → Outgoing t s x z
unfolding outgoing_transitions
outgoing_run t s x z e =
    let f : ℕ = first_row t.source t.m s in
    let g : ℕ = first_row t.source t.m (s + 1) in
    let d = said_done (table_argument_refusal t s t.n true) (f ∷ g ∷ []) (x ∷ z ∷ []) e in
    let a = asked_of t s t.n true (table_argument_refusal t s t.n true) refl d.0 in
    let p : f ≡ x = cc d.1 in
    let q : g ≡ z = cc d.1 in
    record {
      valid = a.valid;
      known = a.known;
      run = subst (λ (x : ℕ). Run t s x z) p (subst (λ (z : ℕ). Run t s f z) q (run_law t a.valid s));
    }

pub outgoing_done : (t : Lts) (s : ℕ) → Valid t → s < t.n
    → outgoing_transitions t s ≡ done (first_row t.source t.m s ∷ first_row t.source t.m (s + 1) ∷ [])
unfolding outgoing_transitions
outgoing_done t s v h = sym (asked_done (table_argument_refusal t s t.n true) none (sym (asked_valid t s t.n true v h refl)) _ refl)
