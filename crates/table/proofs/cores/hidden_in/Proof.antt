-- `cores.hidden_in` meets its contract.
use borrow.Author.Rules.{rules}
use borrow.Author.Tests.{eq-eqb, ne_eqb}
use mathlib.Core.Path.{sym, ap, ◌∙◌}
use Rattle.std.specs.Prelude.{ℕ, eqb, get_or}
use Rattle.table.specs.Hidden.{hidden_in}
use Rattle.table.proofs.cores.hidden_in.Statement.{statement}
use Rattle.table.proofs.cores.hidden_in.Tie as tie

at-requires : tie.Need-at-requires
at-requires c κs = search rules

returns-then-at-ne0 : tie.Need-returns-then-at-ne0
unfolding hidden_in
returns-then-at-ne0 c = simp (ne_eqb _ _ (λ e. c.if-at-ne0.true (c.at.ensures.0 ∙ e)))

at-requires-2 : tie.Need-at-requires-2
at-requires-2 c κs = search rules

at-requires-3 : tie.Need-at-requires-3
at-requires-3 c κs = search rules

returns : tie.Need-returns
unfolding hidden_in
returns c =
    let a = c.args in
    simp (eq-eqb _ _ (sym c.at.ensures.0 ∙ c.if-at-ne0.false))
    (ap (λ (h : ℕ). eqb h a.b) (c.at-3.ensures.0 ∙ ap (λ (u : ℕ). get_or a.element_to_block.now u 0) c.at-2.ensures.0))

pub hidden_in_spec : {M : Type 1} → statement M
hidden_in_spec = tie.close (tie.spec at-requires returns-then-at-ne0 at-requires-2 at-requires-3 returns)
