-- The loop of `distinct`.
use Rattle.columns.specs.Sets.{row_lt}
use Rattle.columns.specs.Columns.{key_of}
use Rattle.columns.proofs.Picking.{Picking}
use Rattle.columns.proofs.sorting.Keys.distinct.Given as goal

abbrev pub invariant-loop-i : goal.invariant-loop-i
invariant-loop-i l = Picking row_lt (key_of l.self.first.now l.self.second.now l.self.third.now) l.initial.order l.order l.last l.r l.i
