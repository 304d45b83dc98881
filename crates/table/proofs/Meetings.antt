-- The rows into a state, met one after the other: exactly the rows with that target, by ascending source, then label.
use Rattle.std.specs.Prelude.{◌≡◌, ℕ, zero, suc, ◌+◌, ◌<◌, ◌≤◌, Bool, true, false, cond, ltb, ◌↔◌, List, [], ◌∷◌, get_or}
use mathlib.Core.Path.{refl, sym, ap, subst, ◌∙◌}
use mathlib.Core.Logic.{⊎_elim}
use mathlib.Core.List.Memᴰ
use native.Mathlib.Omega.{arith}
use native.Mathlib.Nat.{eq-or-lt_of_le}
use borrow.Author.Tests.{ltb-true, ltb-false}
use Rattle.columns.specs.Answers.{done, none}
use Rattle.columns.specs.Sets.{Mem, Ascending, pair_lt}
use Rattle.columns.proofs.All.{not-below}
use Rattle.columns.proofs.Saying.{asked_done}
use Rattle.table.specs.Lts.{Lts, Step, Valid}
use Rattle.table.specs.Stretch.{next_incoming}
use Rattle.table.specs.Transitions.{next_refusal, next_incoming_row}
use Rattle.table.proofs.Refusals.{next_asked, next_valid}
use Rattle.table.proofs.Rows.{row_step, step_row}
use Rattle.table.proofs.Sayings.{said_done}
use Rattle.table.proofs.Stretches.{NextInto, next_law, incoming_up}

-- ---- what `next_incoming` says
pub record NextRow (t : Lts) (u from r : ℕ) : Type 0 where
  pub valid : Valid t
  pub known : u < t.n
  pub fits : from ≤ t.m
  pub next : NextInto t.target t.m u from r

pub next_row : (t : Lts) (u from r : ℕ) → next_incoming_row t u from ≡ done (r ∷ []) → NextRow t u from r
unfolding next_incoming_row
next_row t u from r e =
    let k : ℕ = next_incoming t.target t.m u from in
    let d = said_done (next_refusal t u from) (k ∷ []) (r ∷ []) e in
    let a = next_asked t u from (next_refusal t u from) refl d.0 in
    let f = a.fits in
    let p : k ≡ r = cc d.1 in
    record {
      valid = a.valid;
      known = a.known;
      fits = f;
      next = subst (λ (r : ℕ). NextInto t.target t.m u from r) p (next_law t.target t.m u from f);
    }

pub next_done : (t : Lts) (u from : ℕ) → Valid t → u < t.n → from ≤ t.m →
    next_incoming_row t u from ≡ done (next_incoming t.target t.m u from ∷ [])
unfolding next_incoming_row
next_done t u from v h l =
    sym (asked_done (next_refusal t u from) none (sym (next_valid t u from v h l)) _ refl)

-- ---- one after the other
module _ (target : List ℕ) (m u : ℕ) where
  -- the rows that are met by asking k times, first from `from`, and then each time from the row after the last answer
  unfoldable pub met : ℕ → ℕ → List ℕ
  met zero from = []
  met (suc k) from = cond (ltb (next_incoming target m u from) m) (next_incoming target m u from ∷ met k (suc (next_incoming target m u from)))
      []

  -- a row into u, at or after `from`
  abbrev Into : ℕ → ℕ → Type 0
  Into from i = ((from ≤ i) × (i < m)) × (get_or target i 0 ≡ u)

  -- one question more: the row that it meets, and those that are met after it
  module _ (k from : ℕ) (fits : from ≤ m) (later : (from : ℕ) → from ≤ m → m ≤ k + from → (i : ℕ) → Mem i (met k from) ↔ Into from i) where
    abbrev r : ℕ
    r = next_incoming target m u from

    met_one : m ≤ suc k + from → (i : ℕ) → Mem i (met (suc k) from) ↔ Into from i
    unfolding met
    met_one e i = go (ltb r m) refl
      where
        n : NextInto target m u from r
        n = next_law target m u from fits

        go : (b : Bool) → ltb r m ≡ b → Mem i (cond b (r ∷ met k (suc r)) []) ↔ Into from i
        go true q =
            let l : r < m = ltb-true r m q in
            let after = later (suc r) l (omega (arith, e, n.low)) i in (
              λ h.
                  ⊎_elim (λ (e : i ≡ r). ((omega (arith, e, n.low), omega (arith, e, l)), ap (λ (j : ℕ). get_or target j 0) e ∙ n.hit l))
                  (λ (h : Mem i (met k (suc r))). let b = after.0 h in ((omega (arith, b.0, n.low), b.0.1), b.1))
                  (Memᴰ.cases_cons h),
              λ b.
                  ⊎_elim (λ (e : r ≡ i). Memᴰ.head (sym e)) (λ (h : r < i). Memᴰ.tail (after.1 ((h, b.0.1), b.1)))
                  (eq-or-lt_of_le (not-below (λ h. n.before i b.0.0 h b.1))),
            )
        go false q = (λ h. absurd (Memᴰ.not-nil h), λ b. absurd (n.before i b.0.0 (omega (arith, b.0, ltb-false r m q)) b.1))

  -- enough questions meet them all
  pub met_all : (k from : ℕ) → from ≤ m → m ≤ k + from → (i : ℕ) → Mem i (met k from) ↔ Into from i
  unfolding met
  met_all zero from f e i = (λ h. absurd (Memᴰ.not-nil h), λ b. absurd (omega (arith, b.0, e)))
  met_all (suc k) from f e i = met_one k from f (met_all k) e i

module _ (t : Lts) (v : Valid t) (u : ℕ) where
  -- asked from row 0
  abbrev rows_into : List ℕ
  rows_into = met t.target t.m u t.m 0

  pub met_rows : (i : ℕ) → Mem i rows_into ↔ ((i < t.m) × (get_or t.target i 0 ≡ u))
  met_rows i =
      let a = met_all t.target t.m u t.m 0 (omega arith) (omega arith) i in
      (λ h. let b = a.0 h in (b.0.1, b.1), λ b. a.1 ((omega arith, b.0), b.1))

  -- they are the steps into u
  pub met_steps : (s a : ℕ) → Step t s a u ↔ ((i : ℕ) × Mem i rows_into × (s ≡ get_or t.source i 0) × (a ≡ get_or t.label i 0))
  met_steps s a = (
    λ k. let p = step_row t s a u k in (p.row, (met_rows p.row).1 (p.below, sym p.target), p.source, p.label),
    λ p. let b = (met_rows p.0).0 p.1 in rw (p.2, p.3, ← b.1) (row_step t p.0 b.0),
  )

  abbrev earlier : ℕ → ℕ → Bool
  earlier i j = pair_lt (get_or t.source i 0, get_or t.label i 0) (get_or t.source j 0, get_or t.label j 0)

  met_up : (k from : ℕ) → from ≤ t.m → t.m ≤ k + from → Ascending earlier (met t.target t.m u k from)
  unfolding met Ascending
  met_up zero from f e = tt
  met_up (suc k) from f e = go (ltb r t.m) refl (met_up k (suc r))
    where
      r : ℕ
      r = next_incoming t.target t.m u from

      n : NextInto t.target t.m u from r
      n = next_law t.target t.m u from f

      go : (b : Bool) → ltb r t.m ≡ b → (suc r ≤ t.m → t.m ≤ k + suc r → Ascending earlier (met t.target t.m u k (suc r)))
          → Ascending earlier (cond b (r ∷ met t.target t.m u k (suc r)) [])
      go true q later =
          let l : r < t.m = ltb-true r t.m q in
          let w : t.m ≤ k + suc r = omega (arith, e, n.low) in (
            λ j h.
                let b = (met_all t.target t.m u k (suc r) l w j).0 h in
                incoming_up t v r j b.0.0 b.0.1 (n.hit l ∙ sym b.1),
            later l w,
          )
      go false q later = tt

  -- in 01's order: by ascending source, then label
  pub met_ascending : Ascending earlier rows_into
  met_ascending = met_up t.m 0 (omega arith) (omega arith)
