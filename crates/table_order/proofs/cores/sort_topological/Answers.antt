-- `sort_topological` meets its contract.
use Rattle.std.proofs.Common.{length, ◌∙◌}
use Rattle.table.specs.Lts.{lts_of}
use Rattle.table_order.proofs.Sorts.{start, in_range_lem, is_free, stays, placed}
use Rattle.table_order.proofs.cores.sort_topological.Goals as goal
use Rattle.table_order.proofs.cores.sort_topological.Goals.{then-free, else-free}

pub sweep_all-free-requires-clause-idle : goal.sweep_all-free-requires-clause-idle
sweep_all-free-requires-clause-idle c =
    start (lts_of c.args.system.now) c.requires.valid c.args.hidden _ (length c.args.marks.now) c.clear.ensures

pub write_places-requires-clause-by_index : goal.write_places-requires-clause-by_index
write_places-requires-clause-by_index c =
    in_range_lem (lts_of c.args.system.now) c.requires.valid c.args.hidden _ _ c.sweep_all-free.ensures c.if-free.true

pub returns-clause-value : goal.returns-clause-value
returns-clause-value c = is_free (lts_of c.args.system.now) c.requires.valid c.args.hidden _ _ c.sweep_all-free.ensures

pub returns-clause-places_value : goal.returns-clause-places_value
returns-clause-places_value c =
    let t = lts_of c.args.system.now in
    let w = c.sweep_all-free.ensures in
    elim c.if-free.branch [
      | then-free b ↦ b.places-is ∙ placed t c.requires.valid c.args.hidden _ _ w c.args.reversed c.args.places.now _ b.if-free.true b.write_places.ensures
      | else-free b ↦ b.places-is ∙ stays t c.requires.valid c.args.hidden _ _ w c.args.reversed c.args.places.now b.if-free.false
    ]
