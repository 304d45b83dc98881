-- `reach_back` meets its contract.
use Rattle.std.proofs.Common.{◌∙◌}
use Rattle.table.specs.Lts.{lts_of}
use Rattle.table.proofs.Turning.{marks_turned, count_turned}
use Rattle.table.proofs.Lts.reach_back.Goals as goal

pub returns : goal.returns
returns c =
    let back = lts_of c.args.self.now in
    record {
      value = λ t r. c.reach.ensures.value ∙ count_turned t back r c.args.hidden c.args.state;
      marks_value = λ t r. c.reach.ensures.marks_value ∙ marks_turned t back r c.args.hidden c.args.state;
    }
