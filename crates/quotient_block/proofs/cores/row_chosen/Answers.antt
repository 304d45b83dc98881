-- `row_chosen` meets its contract.
use Rattle.std.proofs.Common.{refl, ◌∙◌}
use borrow.Author.Tests.{eq-eqb, ne_eqb}
use Rattle.columns.specs.Rows.{row_in}
use Rattle.quotient.specs.Naive.{stays}
use Rattle.quotient_block.specs.Chosen.{of_chosen}
use Rattle.quotient_block.proofs.cores.row_chosen.Goals as goal

pub returns-then-at-s : goal.returns-then-at-s
unfolding of_chosen stays row_in
returns-then-at-s c =
    c.row_stays.ensures ∙ rw (← c.at-s.ensures.0, ← c.at.ensures.0, ← c.at-2.ensures.0, eq-eqb _ _ c.if-at-s.true) refl

pub returns-else-at-s : goal.returns-else-at-s
unfolding of_chosen row_in
returns-else-at-s c = rw (← c.at-s.ensures.0, ← c.at.ensures.0, ← c.at-2.ensures.0, ne_eqb _ _ c.if-at-s.false) refl
