-- `len` meets its contract.
use Rattle.std.proofs.Common.{refl, ap, ◌∙◌, [], ◌∷◌}
use Rattle.columns.specs.Answers.{none, said_number}
use Rattle.columns.proofs.Saying.{numbered, asked_refused, asked_done}
use Rattle.partition.specs.Checks.{partition_refusal}
use Rattle.partition.specs.Partition.{parts_of}
use Rattle.partition.specs.Readers.{len_of}
use Rattle.partition_calls.proofs.BlockPartition.len.Goals as goal

pub returns-in-Err : goal.returns-in-Err
unfolding len_of
returns-in-Err c =
    let p = parts_of c.args.columns.now c.args.self.n c.args.self.count in
    ap said_number c.refused.ensures
    ∙ asked_refused (partition_refusal p) _ c.in-Err.ensures (p.n ∷ []) (numbered _)

pub returns : goal.returns
unfolding len_of
returns c =
    let p = parts_of c.args.columns.now c.args.self.n c.args.self.count in
    ap said_number c.done.ensures ∙ asked_done (partition_refusal p) none c.in_default.ensures (p.n ∷ []) refl
