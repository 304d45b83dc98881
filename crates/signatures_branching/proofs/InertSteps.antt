-- A hidden step into a block, as an edge of the walks in that block.
use Rattle.std.specs.Prelude.{◌≡◌, ℕ, ◌<◌, Bool, true, eqb, List, get_or}
use native.Mathlib.Omega.{arith}
use borrow.Author.Tests.{eqb-true, eq-eqb}
use mathlib.Core.Path.{ap, sym, subst, ◌∙◌}
use Rattle.columns.proofs.Bools.{and_left, and_right, and_both}
use Rattle.table.specs.Hidden.{hidden_in}
use Rattle.table.specs.Lts.{Lts, Step, Valid}
use Rattle.table.proofs.Rows.{row_step, step_row}
use Rattle.table.proofs.Walks.{Edge, edge_row, row_edge}
use Rattle.signatures_branching.specs.Branching.{inert_edge}

module _ (t : Lts) (home : List ℕ) (b x y : ℕ) where
  pub inert_of : Step t x 0 y → get_or home y 0 ≡ b → inert_edge t home b x y ≡ true
  unfolding inert_edge hidden_in
  inert_of k e =
      let r = step_row t x 0 y k in
      row_edge t.m t.source t.target (hidden_in t.label t.target home b) x y r.row r.below (sym r.source)
      (sym r.target)
      (and_both (eq-eqb _ _ (sym r.label)) (eq-eqb _ _ (ap (λ (u : ℕ). get_or home u 0) (sym r.target) ∙ e)))

  module _ (e : inert_edge t home b x y ≡ true) where
    at : Edge t.m t.source t.target (hidden_in t.label t.target home b) x y
    unfolding inert_edge
    at = edge_row t.m t.source t.target (hidden_in t.label t.target home b) x y e

    label_at : Bool
    label_at = eqb (get_or t.label at.row 0) 0

    block_at_lem : Bool
    block_at_lem = eqb (get_or home (get_or t.target at.row 0) 0) b

    pub inert_step_lem : Step t x 0 y
    unfolding hidden_in label_at block_at_lem
    inert_step_lem =
        subst (λ (a : ℕ). Step t x a y) (eqb-true _ _ (and_left label_at block_at_lem at.passes))
        (subst (λ (u : ℕ). Step t u (get_or t.label at.row 0) y) at.from
        (subst (λ (u : ℕ). Step t (get_or t.source at.row 0) (get_or t.label at.row 0) u) at.to
        (row_step t at.row at.below)))

    pub inert_block : get_or home y 0 ≡ b
    unfolding hidden_in label_at block_at_lem
    inert_block = ap (λ (u : ℕ). get_or home u 0) (sym at.to) ∙ eqb-true _ _ (and_right label_at block_at_lem at.passes)

  pub inert_state : Valid t → inert_edge t home b x y ≡ true → y < t.n
  inert_state v e = omega (arith, (at e).to, (v.fields (at e).row (at e).below).target)
