-- `check_sort` meets its contract.
use Rattle.std.proofs.Common.{Bool, ◌&&◌, leb, ap, ◌∙◌}
use Rattle.columns.specs.Due.{due}
use Rattle.table.specs.Checks.{table_tests}
use Rattle.table.specs.Lts.{lts_of}
use Rattle.table_order.specs.Call.{sort_refusal}
use Rattle.table_order.proofs.check_sort.Goals as goal

pub returns : goal.returns
unfolding sort_refusal
returns c =
    let t = lts_of c.args.system.now in
    c.check.ensures ∙ ap (λ (b : Bool). due (table_tests t (leb t.n c.args.places && b))) c.works_long.ensures
