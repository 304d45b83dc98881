-- `run` meets its contract.
use Rattle.std.proofs.Common.{refl, arith}
use Rattle.refinement_rounds.proofs.Steps.{go_start, go_few, go_more, go_done}
use Rattle.refinement_strong.proofs.Bisimulations.{strong_by_blocks}
use Rattle.table.specs.Lts.{lts_of}
use Rattle.refinement_rounds.proofs.running.run.Goals as goal

pub loop-rounds-init : goal.loop-rounds-init
loop-rounds-init c =
    let a = c.args in
    let by = strong_by_blocks (lts_of a.system.now) c.requires.valid.0 in
    record { going = go_start _ _ by c.requires.valid.1 refl; room = c.requires.room_now }

pub returns-then-c-count-clause-fact : goal.returns-then-c-count-clause-fact
returns-then-c-count-clause-fact c =
    let a = c.args in
    let by = strong_by_blocks (lts_of a.system.now) c.requires.valid.0 in
    go_done _ _ by _ c.loop-rounds.invariant.going _ refl c.round-c.ensures.fact c.if-c-count.true

pub loop-rounds-preserved : goal.loop-rounds-preserved
loop-rounds-preserved c =
    let a = c.args in
    let by = strong_by_blocks (lts_of a.system.now) c.requires.valid.0 in
    record {
      going = go_more _ _ by _ c.loop-rounds.invariant.going _ refl c.round-c.ensures.fact c.if-c-count.false;
      room = c.round-c.ensures.room_is;
    }

-- some round splits nothing
pub returns-clause-fact : goal.returns-clause-fact
returns-clause-fact c =
    let a = c.args in
    let by = strong_by_blocks (lts_of a.system.now) c.requires.valid.0 in
    absurd (omega (arith, go_few _ _ by _ c.loop-rounds.invariant.going))
