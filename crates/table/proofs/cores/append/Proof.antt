-- `cores.append` meets its contract.
use borrow.Author.Rules.{rules}
use borrow.Author.Tests.{eq-eqb, ne_eqb}
use Rattle.std.specs.Prelude.{◌≡◌, true, false, eqb, get_or}
use mathlib.Core.Path.{sym, ◌∙◌}
use Rattle.table.specs.Search.{appended}
use Rattle.table.proofs.cores.append.Statement.{statement}
use Rattle.table.proofs.cores.append.Tie as tie

at-requires : tie.Need-at-requires
at-requires c κs = search rules

shape_of-marks-then-at-ne0 : tie.Need-shape_of-marks-then-at-ne0
shape_of-marks-then-at-ne0 c = search rules

returns-then-at-ne0 : tie.Need-returns-then-at-ne0
unfolding appended
returns-then-at-ne0 c =
    let e : eqb (get_or c.args.marks.now c.args.u 0)
    0 ≡ false = ne_eqb _ _ (λ q. c.if-at-ne0.true (c.at.ensures.0 ∙ q)) in
    rw e

offset_bounds-marks-u : tie.Need-offset_bounds-marks-u
offset_bounds-marks-u c = search rules

bounds-marks-u : tie.Need-bounds-marks-u
bounds-marks-u c = search rules

overflow_cast-queue : tie.Need-overflow_cast-queue
overflow_cast-queue c = search rules

offset_bounds-queue-tail : tie.Need-offset_bounds-queue-tail
offset_bounds-queue-tail c = search rules

bounds-queue-tail : tie.Need-bounds-queue-tail
bounds-queue-tail c = c.requires.3 (sym c.at.ensures.0 ∙ c.if-at-ne0.false)

overflow_add-result : tie.Need-overflow_add-result
overflow_add-result c = search rules

shape_of-marks : tie.Need-shape_of-marks
shape_of-marks c = search rules

shape_of-queue : tie.Need-shape_of-queue
shape_of-queue c = search rules

returns : tie.Need-returns
unfolding appended
returns c =
    let e : eqb (get_or c.args.marks.now c.args.u 0)
    0 ≡ true = eq-eqb _ _ (sym c.at.ensures.0 ∙ c.if-at-ne0.false) in
    rw e

pub append_spec : {M : Type 1} → statement M
append_spec =
    tie.close
    (tie.spec
    at-requires
    shape_of-marks-then-at-ne0
    returns-then-at-ne0
    offset_bounds-marks-u
    bounds-marks-u
    overflow_cast-queue
    offset_bounds-queue-tail
    bounds-queue-tail
    overflow_add-result
    shape_of-marks
    shape_of-queue
    returns)
