-- `num_of_blocks` meets its contract.
use Rattle.std.proofs.Common.{refl, ap, ◌∙◌, [], ◌∷◌}
use Rattle.columns.specs.Answers.{none, said_number}
use Rattle.columns.proofs.Saying.{numbered, asked_refused, asked_done}
use Rattle.partition.specs.Checks.{partition_refusal}
use Rattle.partition.specs.Partition.{parts_of}
use Rattle.partition.specs.Readers.{num_of_blocks}
use Rattle.partition_calls.proofs.BlockPartition.num_of_blocks.Goals as goal

pub returns-in-Err : goal.returns-in-Err
unfolding num_of_blocks
returns-in-Err c =
    let p = parts_of c.args.columns.now c.args.self.n c.args.self.count in
    ap said_number c.refused.ensures
    ∙ asked_refused (partition_refusal p) _ c.in-Err.ensures (p.count ∷ []) (numbered _)

pub returns : goal.returns
unfolding num_of_blocks
returns c =
    let p = parts_of c.args.columns.now c.args.self.n c.args.self.count in
    ap said_number c.done.ensures ∙ asked_done (partition_refusal p) none c.in_default.ensures (p.count ∷ []) refl
