-- The loop of `number_all`: the components whose least member is below s are numbered and counted.
use Rattle.std.proofs.Common.{◌≡◌}
use Rattle.columns.specs.Counting.{many}
use Rattle.columns.specs.Number.{leads}
use Rattle.table.specs.Lts.{lts_of}
use Rattle.quotient_components.specs.Components.{linked}
use Rattle.quotient_components.specs.Numbering.{numbered_below}
use Rattle.quotient_components.proofs.cores.number_all.Given as goal

abbrev pub invariant-loop-s : goal.invariant-loop-s
invariant-loop-s l = record {
  numbered : l.numbers ≡ numbered_below (lts_of l.system) l.s;
  counted : l.count ≡ many l.s (leads (linked (lts_of l.system)));
}
