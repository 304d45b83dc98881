-- `check_reduction` meets its contract.
use Rattle.std.proofs.Common.{◌&&◌, leb, ◌∙◌}
use Rattle.columns.specs.Due.{due}
use Rattle.reduction.specs.Reducing.{reduction_refusal}
use Rattle.table.specs.Checks.{table_tests}
use Rattle.table.specs.Lts.{lts_of}
use Rattle.reduction.proofs.check_reduction.Goals as goal

pub returns : goal.returns
unfolding reduction_refusal
returns c =
    let t = lts_of c.args.system.now in
    let fits = c.long-fits.ensures in
    let wide = c.works_long-works_fit.ensures in
    c.check.ensures ∙ (λ i. due (table_tests t (fits i && (leb t.n c.args.block && wide i))))
