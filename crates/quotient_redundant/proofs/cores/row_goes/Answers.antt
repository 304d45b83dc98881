-- `row_goes` meets its contract.
use Rattle.std.proofs.Common.{ap, ◌∙◌}
use Rattle.table.specs.Lts.{lts_of}
use Rattle.table.specs.Marks.{marks_into}
use Rattle.quotient_redundant.proofs.cores.row_goes.Goals as goal

pub is_redundant_transition-requires-clause-backward_value : goal.is_redundant_transition-requires-clause-backward_value
is_redundant_transition-requires-clause-backward_value c =
    let t = lts_of c.args.system.now in
    c.reach_back.ensures.marks_value t c.requires.turned_with_starts.rows ∙ ap (marks_into t) c.at-u.ensures.0
