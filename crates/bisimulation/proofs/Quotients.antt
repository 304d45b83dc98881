-- The quotient's steps are those of the states, and where sharing a block is a bisimulation, each state and its block are related by
-- one between the rows and their quotient.
use mathlib.Core.Path.{◌≡◌, refl, sym, subst, ◌∙◌}
use mathlib.Core.Bool.{true}
use mathlib.Core.List.{List}
use Prim.Native.Nat.{ℕ, ◌≤◌, ◌<◌}
use lib.ListN.{length}
use Rattle.columns.specs.Sets.{Mem, Row, row_lt, Ascending, StepIn}
use Rattle.columns.proofs.Orders.{row_order}
use Rattle.columns.proofs.Sets.{ascending_unique}
use Rattle.bisimulation.specs.Bisimulation.{InRange, Match, Simulation, Bisimulation}
use Rattle.bisimulation.specs.Quotient.{quotient, Shares, Belongs}
use Rattle.bisimulation.proofs.Kept.{From, kept_in, kept_out, kept_ascending, kept_few}

module _ (block : ℕ → ℕ) (rows : List Row) where
  -- ---- the steps of the quotient
  pub quotient_in : (s a u : ℕ) → StepIn rows s a u → StepIn (quotient block rows) (block s) a (block u)
  unfolding quotient
  quotient_in s a u k = kept_in (λ r. true) block rows s a u k refl

  -- the step of a state that a step between blocks comes from
  abbrev pub Source : ℕ → ℕ → ℕ → Type 0
  Source b a c = From (λ r. true) block rows b a c

  pub quotient_out : (b a c : ℕ) → StepIn (quotient block rows) b a c → Source b a c
  unfolding quotient
  quotient_out b a c k = kept_out (λ r. true) block rows b a c k

  pub quotient_ascending : Ascending row_lt (quotient block rows)
  unfolding quotient
  quotient_ascending = kept_ascending (λ r. true) block rows

  pub quotient_few : length (quotient block rows) ≤ length rows
  unfolding quotient
  quotient_few = kept_few (λ r. true) block rows

  module _ (n : ℕ) where
    -- where each state is its own block, the quotient has the same rows
    pub quotient_own : Ascending row_lt rows → InRange n rows → ((s : ℕ) → s < n → block s ≡ s) → quotient block rows ≡ rows
    quotient_own up w own = ascending_unique row_lt row_order (quotient block rows) rows quotient_ascending up out back
      where
        out : (z : Row) → Mem {A = Row} z (quotient block rows) → Mem {A = Row} z rows
        out z k =
            let f = quotient_out z.0 z.1.0 z.1.1 k in
            let b : z.0 ≡ f.source = sym f.from ∙ own f.source (w.source _ _ _ f.step) in
            let c : z.1.1 ≡ f.target = sym f.to ∙ own f.target (w.target _ _ _ f.step) in
            subst (λ (x : ℕ). StepIn rows x z.1.0 z.1.1) (sym b)
            (subst (λ (y : ℕ). StepIn rows f.source z.1.0 y) (sym c) f.step)

        back : (z : Row) → Mem {A = Row} z rows → Mem {A = Row} z (quotient block rows)
        back z k =
            let b : block z.0 ≡ z.0 = own z.0 (w.source _ _ _ k) in
            let c : block z.1.1 ≡ z.1.1 = own z.1.1 (w.target _ _ _ k) in
            subst (λ (x : ℕ). StepIn (quotient block rows) x z.1.0 z.1.1) b
            (subst (λ (y : ℕ). StepIn (quotient block rows) (block z.0) z.1.0 y) c (quotient_in z.0 z.1.0 z.1.1 k))

    pub shares_turned : {s t : ℕ} → Shares n block s t → Shares n block t s
    shares_turned h = record { left = h.right; right = h.left; same = sym h.same }

    -- sharing a block is symmetric: one half is enough
    pub shares_bisimulation : Simulation rows rows (Shares n block) → Bisimulation rows rows (Shares n block)
    shares_bisimulation f = record {
      forth = f;
      back = λ s t a u h k.
          let g = f s t a u (shares_turned h) k in
          record { target = g.target; step = g.step; related = shares_turned g.related };
    }

    module _ (w : InRange n rows) (b : Bisimulation rows rows (Shares n block)) where
      -- each step of a block is answered by every state in it, with a target in the right block
      pub block_answered :
          (s c a d : ℕ) → Belongs n block s c → StepIn (quotient block rows) c a d → Match rows s a (λ u. Belongs n block u d)
      block_answered s c a d h k =
          let f = quotient_out c a d k in
          let here : Shares n block f.source s
          = record { left = w.source _ _ _ f.step; right = h.state; same = f.from ∙ sym h.home } in
          let g = b.forth f.source s a f.target here f.step in
          record {
            target = g.target;
            step = g.step;
            related = record { state = g.related.right; home = sym g.related.same ∙ f.to };
          }

      -- ---- a state and its block
      pub quotient_bisimulation : Bisimulation rows (quotient block rows) (Belongs n block)
      quotient_bisimulation = record {
        forth = λ s c a u h k.
            record {
              target = block u;
              step = subst (λ (x : ℕ). StepIn (quotient block rows) x a (block u)) h.home (quotient_in s a u k);
              related = record { state = w.target s a u k; home = refl };
            };
        back = λ c s a d h k. block_answered s c a d h k;
      }
