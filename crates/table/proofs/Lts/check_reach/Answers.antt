-- `check_reach` meets its contract.
use Rattle.std.proofs.Common.{Bool, ◌&&◌, leb, ap, ◌∙◌}
use Rattle.table.specs.Checks.{table_argument_refusal}
use Rattle.table.specs.Lts.{lts_of}
use Rattle.table.specs.Reach.{reach_refusal}
use Rattle.table.proofs.Lts.check_reach.Goals as goal

pub returns : goal.returns
unfolding reach_refusal
returns c =
    let t = lts_of c.args.self.now in
    c.check_argument.ensures ∙ ap (λ (b : Bool). table_argument_refusal t c.args.state t.n (leb t.n c.args.res && b)) c.works_long.ensures
