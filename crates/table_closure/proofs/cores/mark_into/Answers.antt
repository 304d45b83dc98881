-- `mark_into` meets its contract.
use Rattle.std.proofs.Common.{◌<◌, arith}
use Rattle.table.proofs.RowsInto.{into_stretch}
use Rattle.table_closure.proofs.Listed.{into_start, into_markable, into_more, into_end}
use Rattle.table_closure.proofs.cores.mark_into.Goals as goal

pub loop-j-init : goal.loop-j-init
loop-j-init c =
    let l = c.requires.listed in
    let run = into_stretch _ _ _ l.by_target _ _ _ c.incoming_rows_of-rows.ensures.0 c.incoming_rows_of-rows.ensures.1 in
    into_start _ _ _ _ l _ _ _ _ run

pub at-requires : goal.at-requires
at-requires c =
    let l = c.requires.listed in
    let run = into_stretch _ _ _ l.by_target _ _ _ c.incoming_rows_of-rows.ensures.0 c.incoming_rows_of-rows.ensures.1 in
    omega (arith, run.most, l.by_target.room)

pub at-s-requires : goal.at-s-requires
at-s-requires c =
    let l = c.requires.listed in
    let run = into_stretch _ _ _ l.by_target _ _ _ c.incoming_rows_of-rows.ensures.0 c.incoming_rows_of-rows.ensures.1 in
    omega (arith, c.at.ensures.0, l.source c.loop-j.j (omega (arith, run.most)))

pub mark_element-requires : goal.mark_element-requires
mark_element-requires c =
    let l = c.requires.listed in
    let run = into_stretch _ _ _ l.by_target _ _ _ c.incoming_rows_of-rows.ensures.0 c.incoming_rows_of-rows.ensures.1 in
    into_markable _ _ _ _ l _ _ _ _ c.loop-j.invariant c.requires.fits (omega (arith, run.most)) _ _ c.at.ensures.0 c.at-s.ensures.0

pub loop-j-preserved : goal.loop-j-preserved
loop-j-preserved c =
    let l = c.requires.listed in
    let run = into_stretch _ _ _ l.by_target _ _ _ c.incoming_rows_of-rows.ensures.0 c.incoming_rows_of-rows.ensures.1 in
    let w : c.loop-j.j < c.args.h = omega (arith, run.most) in
    into_more _ _ _ _ l _ _ _ _ c.loop-j.invariant w ((run.exactly _ w).1 (c.loop-j.auto.j, c.loop-j-test.true)) _ _ c.at.ensures.0
    c.at-s.ensures.0 _ c.mark_element.ensures

pub returns : goal.returns
returns c =
    let l = c.requires.listed in
    let run = into_stretch _ _ _ l.by_target _ _ _ c.incoming_rows_of-rows.ensures.0 c.incoming_rows_of-rows.ensures.1 in
    into_end _ _ _ _ l _ _ _ _ c.loop-j.invariant _ _ run (omega (arith, run.low))
