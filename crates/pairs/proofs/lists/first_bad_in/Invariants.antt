-- The loop of `first_bad_in`: the lists before this one ascend.
use Rattle.pairs.proofs.Listing.{Clean}
use Rattle.pairs.proofs.lists.first_bad_in.Given as goal

abbrev pub invariant-loop-u : goal.invariant-loop-u
invariant-loop-u l = Clean l.starts l.labels l.blocks l.u
