-- The rows of a naive quotient, by another column of numbers.
use Rattle.std.specs.Prelude.{◌≡◌, ℕ, ◌<◌, Bool, eqb}
use mathlib.Core.Path.{sym, ap, ◌∙◌}
use borrow.Author.Tests.{eqb-true, eq-eqb}
use Rattle.bisimulation.specs.Quotient.{between, quotient}
use Rattle.bisimulation.proofs.Quotients.{quotient_in, quotient_out, quotient_ascending}
use Rattle.columns.specs.Sets.{row_lt, StepIn}
use Rattle.columns.proofs.Bools.{bool_ext}
use Rattle.columns.proofs.Orders.{row_order}
use Rattle.columns.proofs.Sets.{ascending_unique, collect_alike}
use Rattle.quotient.specs.Naive.{inert_step, stays, naive_rows}
use Rattle.quotient.proofs.Theorems.{naive_in, naive_out, naive_ascending}
use Rattle.table.specs.Lts.{Lts, rows, Step, Valid}
use Rattle.table.proofs.Rows.{step_fields}

module _ (t : Lts) (v : Valid t) (inerts loops : Bool) where
  -- numbers that agree on the states give the same quotient
  pub naive_alike :
      (f g : ℕ → ℕ) → ((s : ℕ) → s < t.n → f s ≡ g s) → naive_rows inerts loops f (rows t) ≡ naive_rows inerts loops g (rows t)
  unfolding naive_rows stays inert_step between
  naive_alike f g h =
      collect_alike row_lt (stays inerts loops f) (stays inerts loops g) (between f) (between g) (rows t)
      (λ r k.
      let w = step_fields t v r.0 r.1.0 r.1.1 k in
      let x = h r.0 w.0 in
      let y = h r.1.1 w.1.1 in
      (rw (x, y), rw (x, y)))

  -- numbers that are renumbered one to one give the quotient renumbered
  module _ (f p : ℕ → ℕ) (one : (s u : ℕ) → s < t.n → u < t.n → p (f s) ≡ p (f u) → f s ≡ f u) where
    same_tests : (s u : ℕ) → s < t.n → u < t.n → eqb (p (f s)) (p (f u)) ≡ eqb (f s) (f u)
    same_tests s u h k =
        bool_ext _ _ (λ e. eq-eqb (f s) (f u) (one s u h k (eqb-true _ _ e))) (λ e. eq-eqb _ _ (ap p (eqb-true (f s) (f u) e)))

    same-stays : (s a u : ℕ) → Step t s a u → stays inerts loops (λ x. p (f x)) (s, (a, u)) ≡ stays inerts loops f (s, (a, u))
    unfolding stays inert_step
    same-stays s a u k = let w = step_fields t v s a u k in rw (same_tests s u w.0 w.1.1)

    pub naive_renumbered : naive_rows inerts loops (λ x. p (f x)) (rows t) ≡ quotient p (naive_rows inerts loops f (rows t))
    naive_renumbered =
        ascending_unique row_lt row_order _ _ (naive_ascending inerts loops (λ x. p (f x)) (rows t))
        (quotient_ascending p (naive_rows inerts loops f (rows t))) (λ r k. there r.0 r.1.0 r.1.1 k)
        (λ r k. back r.0 r.1.0 r.1.1 k)
      where
        there : (b a c : ℕ) → StepIn (naive_rows inerts loops (λ x. p (f x)) (rows t)) b a c
            → StepIn (quotient p (naive_rows inerts loops f (rows t))) b a c
        there b a c k =
            let r = naive_out inerts loops (λ x. p (f x)) (rows t) b a c k in
            let z = sym (same-stays r.source a r.target r.step) ∙ r.passes in
            let w = quotient_in p (naive_rows inerts loops f (rows t)) _ a _ (naive_in inerts loops f (rows t) _ a _ r.step z) in
            rw (r.from, r.to) at w

        back : (b a c : ℕ) → StepIn (quotient p (naive_rows inerts loops f (rows t))) b a c
            → StepIn (naive_rows inerts loops (λ x. p (f x)) (rows t)) b a c
        back b a c k =
            let q = quotient_out p (naive_rows inerts loops f (rows t)) b a c k in
            let r = naive_out inerts loops f (rows t) q.source a q.target q.step in
            let z = same-stays r.source a r.target r.step ∙ r.passes in
            let w = naive_in inerts loops (λ x. p (f x)) (rows t) _ a _ r.step z in
            rw (r.from, r.to, q.from, q.to) at w
