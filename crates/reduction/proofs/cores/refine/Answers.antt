-- `refine` meets its contract.
use Rattle.std.proofs.Common.{sym, subst, refl}
use Rattle.partition.specs.Partition.{Partition, parts, Sound}
use Rattle.partition.proofs.Freshness.{fresh_sound}
use Rattle.reduction.proofs.cores.refine.Goals as goal

pub run-requires-clause-valid : goal.run-requires-clause-valid
run-requires-clause-valid c =
    let g = c.args in
    let v = c.requires.valid in
    let p : Partition = parts g.elements.now g.element_offset.now g.element_to_block.now g.begin.now g.marked_split.now g.end.now g.system.now.table.n 1 in
    (v.0, subst Sound (sym c.new.ensures) (fresh_sound p v.0.some_states v.0.few_states v.1 refl))
