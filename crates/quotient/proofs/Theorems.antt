-- The naive quotient in document 01's words: a row is there exactly if a row between its blocks is not dropped; each switch drops its
-- own kind of row, and no row is of both kinds; with both off it is the quotient of the theory; and it is a valid table.
use borrow.Author.Tests.{not-true}
use Rattle.std.specs.Prelude.{◌≡◌, ℕ, ◌<◌, ◌≤◌, Bool, true, false, not, ◌&&◌, eqb, ◌↔◌, List, length}
use mathlib.Core.Path.{refl, subst}
use Rattle.bisimulation.specs.Quotient.{quotient}
use Rattle.bisimulation.proofs.Kept.{From, kept_in, kept_out, kept_ascending, kept_few}
use Rattle.columns.specs.Sets.{Row, row_lt, Ascending, StepIn}
use Rattle.columns.proofs.Bools.{and_left, and_right, contra, fails}
use Rattle.quotient.specs.Naive.{inert_step, stays, naive_rows}
use Rattle.table.specs.Hidden.{tau_loop}
use Rattle.bisimulation.proofs.Tables.{kept_valid}
use Rattle.table.specs.Lts.{Lts, rows, Valid}
use Rattle.table.specs.Tables.{table_of}
-- What a call that is done has answered and left: these rows, over the first cells, with their header, and the work zero.
pub use Rattle.quotient.proofs.Calls.{naive_done}

-- ---- the switches
-- no row is of both kinds
pub kinds_apart : (block : ℕ → ℕ) (r : Row) → inert_step block r ≡ true → tau_loop r ≡ false
unfolding inert_step tau_loop
kinds_apart block r e =
    let within = eqb (block r.0) (block r.1.1) in
    let loop = eqb r.0 r.1.1 in
    fails (λ f.
    contra (and_right (eqb r.1.0 0) loop f) (not-true loop (and_right within (not loop) (and_right (eqb r.1.0 0) _ e))))

-- a row stays exactly if neither switch that is on drops its kind
pub stays_exactly :
    (inerts loops : Bool) (block : ℕ → ℕ) (r : Row)
    → (stays inerts loops block r ≡ true) ↔ ((inerts ≡ true → inert_step block r ≡ false) × (loops ≡ true → tau_loop r ≡ false))
unfolding stays
stays_exactly inerts loops block r = (to, from inerts loops)
  where
    to : stays inerts loops block r ≡ true → (inerts ≡ true → inert_step block r ≡ false) × (loops ≡ true → tau_loop r ≡ false)
    to e = (
      λ i. not-true _ (subst (λ (b : Bool). not (b && inert_step block r) ≡ true) i (and_left (not (inerts && inert_step block r)) _ e)),
      λ l. not-true _ (subst (λ (b : Bool). not (b && tau_loop r) ≡ true) l (and_right (not (inerts && inert_step block r)) _ e)),
    )

    from :
        (i l : Bool) → (i ≡ true → inert_step block r ≡ false) × (l ≡ true → tau_loop r ≡ false)
        → (not (i && inert_step block r) && not (l && tau_loop r)) ≡ true
    from true true h = rw (h.0 refl, h.1 refl) refl
    from true false h = rw (h.0 refl) refl
    from false true h = rw (h.1 refl) refl
    from false false h = refl

-- so a row that one switch drops stays with the other alone
pub inert_stays : (loops : Bool) (block : ℕ → ℕ) (r : Row) → inert_step block r ≡ true → stays false loops block r ≡ true
inert_stays loops block r e = (stays_exactly false loops block r).1 (λ i. absurd (contra i refl), λ l. kinds_apart block r e)

pub loop_stays : (inerts : Bool) (block : ℕ → ℕ) (r : Row) → tau_loop r ≡ true → stays inerts false block r ≡ true
loop_stays inerts block r e =
    (stays_exactly inerts false block r).1 (λ i. fails (λ f. contra e (kinds_apart block r f)), λ l. absurd (contra l refl))

-- ---- the rows
module _ (inerts loops : Bool) (block : ℕ → ℕ) (rows : List Row) where
  -- each comes from a row between its blocks that stays
  pub naive_out : (b a c : ℕ) → StepIn (naive_rows inerts loops block rows) b a c → From (stays inerts loops block) block rows b a c
  unfolding naive_rows
  naive_out = kept_out (stays inerts loops block) block rows

  -- and each such row is there
  pub naive_in :
      (s a u : ℕ) → StepIn rows s a u → stays inerts loops block (s, (a, u)) ≡ true
      → StepIn (naive_rows inerts loops block rows) (block s) a (block u)
  unfolding naive_rows
  naive_in = kept_in (stays inerts loops block) block rows

  pub naive_ascending : Ascending row_lt (naive_rows inerts loops block rows)
  unfolding naive_rows
  naive_ascending = kept_ascending (stays inerts loops block) block rows

  pub naive_few : length (naive_rows inerts loops block rows) ≤ length rows
  unfolding naive_rows
  naive_few = kept_few (stays inerts loops block) block rows

-- with both switches off it is the quotient of the theory, so that what is proved there is proved of the code
pub naive_plain : (block : ℕ → ℕ) (rows : List Row) → naive_rows false false block rows ≡ quotient block rows
unfolding naive_rows stays quotient
naive_plain block rows = refl

-- ---- the table
-- as many states as blocks, the labels as they were, and the block of the initial state: a valid table with every switch
pub naive_valid :
    (inerts loops : Bool) (t : Lts) → Valid t → (count : ℕ) → count ≤ t.n → (block : ℕ → ℕ) → ((s : ℕ) → s < t.n → block s < count)
    → Valid (table_of count t.labels (block t.initial) (naive_rows inerts loops block (rows t)))
unfolding naive_rows
naive_valid inerts loops t v count few block below = kept_valid t v count few block below (stays inerts loops block)
