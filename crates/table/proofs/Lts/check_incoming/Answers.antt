-- `check_incoming` meets its contract.
use Rattle.std.proofs.Common.{Bool, ◌&&◌, leb, ap, ◌∙◌}
use Rattle.columns.specs.Due.{due}
use Rattle.table.specs.Checks.{table_tests}
use Rattle.table.specs.Incoming.{incoming_refusal}
use Rattle.table.specs.Lts.{lts_of}
use Rattle.table.proofs.Lts.check_incoming.Goals as goal

pub returns : goal.returns
unfolding incoming_refusal
returns c =
    let t = lts_of c.args.self.now in
    c.check.ensures ∙ ap (λ (b : Bool). due (table_tests t (leb t.m c.args.res && b))) c.works_long.ensures
