-- `strong_blocks` meets its contract.
use Rattle.std.proofs.Common.{refl, ◌∙◌}
use Rattle.partition.specs.Partition.{Partition, parts}
use Rattle.reduction.proofs.Ends.{end_rounds, end_count, end_numbers}
use Rattle.table.specs.Lts.{lts_of}
use Rattle.reduction.proofs.cores.strong_blocks.Goals as goal

pub returns : goal.returns
returns c =
    let t = lts_of c.args.system.now in
    let v = c.requires.valid.0 in
    let q = c.refine-r in
    let l = q.new in
    let left : Partition =
    parts l.elements l.element_offset l.element_to_block l.begin l.marked_split l.end c.args.system.now.table.n q.result.count in (
      end_rounds t v _ left refl q.ensures.fact,
      end_count t v _ left refl q.ensures.fact,
      end_numbers t v _ left refl q.ensures.fact q.new.begins _ (q.auto.begins ∙ c.requires.valid.1) c.hand_out.ensures.1,
    )
