-- `join` meets its contract.
use Rattle.pairs_merge.specs.Merged.{heads}
use Rattle.signatures_sorted.proofs.Joined.{room_a, room_b, merged-ascends, joined_count, joined_over}
use Rattle.signatures_sorted.proofs.cores.join.Goals as goal

pub unite-requires-clause-e_in_bounds : goal.unite-requires-clause-e_in_bounds
unite-requires-clause-e_in_bounds c =
    let a = c.args in
    let d = heads a.given_labels.now a.given_blocks.now a.high.now a.low.now a.end_high.now a.end_low.now in
    let e = c.merge-r.ensures in
    let p = c.requires.fact_2 in (
      room_a d a.lists a.own _ _ _ a.labels.now a.blocks.now e.0 e.1 e.2 p.0 p.1,
      room_b d a.lists a.own _ _ _ a.labels.now a.blocks.now e.0 e.1 e.2 p.0 p.1,
      c.requires.lists_bound.2,
      c.requires.lists_bound.3,
    )

pub unite-requires-clause-ascending : goal.unite-requires-clause-ascending
unite-requires-clause-ascending c =
    let a = c.args in
    let d = heads a.given_labels.now a.given_blocks.now a.high.now a.low.now a.end_high.now a.end_low.now in
    let e = c.merge-r.ensures in
    let p = c.requires.fact_2 in
    (merged-ascends d a.lists a.own _ _ _ a.labels.now a.blocks.now e.0 e.1 e.2 p.0 p.1, c.requires.fact.1)

pub returns : goal.returns
returns c =
    let a = c.args in
    let d = heads a.given_labels.now a.given_blocks.now a.high.now a.low.now a.end_high.now a.end_low.now in
    let e = c.merge-r.ensures in
    let u = c.unite.ensures in
    let p = c.requires.fact_2 in (
      joined_count d a.lists a.own _ _ _ a.labels.now a.blocks.now e.0 e.1 e.2 p.0 p.1 a.own_labels.now a.own_blocks.now _ _ _ u.0 u.1 u.2,
      joined_over d a.lists a.own _ _ _ a.labels.now a.blocks.now e.0 e.1 e.2 p.0 p.1 a.own_labels.now a.own_blocks.now _ _ _ u.0 u.1 u.2,
    )
