-- The loop of `visit`: the targets of the rows seen that are taken are marked.
use Rattle.std.proofs.Common.{get_or}
use Rattle.table.specs.Reach.{takes}
use Rattle.table.proofs.Searching.{Visit}
use Rattle.table.proofs.Lts.visit.Given as goal

abbrev pub invariant-loop-i : goal.invariant-loop-i
invariant-loop-i l =
    Visit l.fn.self.table.n l.fn.self.table.m l.self.source.now l.self.target.now (λ j. takes l.hidden (get_or l.self.label.now j 0)) (get_or l.fn.queue 0 0) l.s l.fn.queue
    l.tail l.marks l.queue l.head l.high l.i
