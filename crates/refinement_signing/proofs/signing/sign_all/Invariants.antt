-- The loop of `sign_all`: the states below s are signed, and i is the first row of s.
use Rattle.std.proofs.Common.{◌≡◌, length}
use Rattle.columns.specs.Columns.{zeros}
use Rattle.refinement_signing.proofs.Turns.{Signing}
use Rattle.table.specs.Lts.{lts_of}
use Rattle.refinement_signing.proofs.signing.sign_all.Given as goal

abbrev pub invariant-loop-s : goal.invariant-loop-s
invariant-loop-s l = record {
  signed : Signing (lts_of l.system) l.home l.s l.i l.labels l.blocks l.d l.begins;
  spared : l.spare ≡ zeros (length l.initial.spare);
}
