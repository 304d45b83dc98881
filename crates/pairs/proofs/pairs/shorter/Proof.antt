-- `pairs.shorter` meets its contract.
use borrow.Author.Tests.{lt-ltb, le-ltb}
use Rattle.pairs.specs.Pairs.{shorter}
use Rattle.pairs.proofs.pairs.shorter.Statement.{statement}
use Rattle.pairs.proofs.pairs.shorter.Tie as tie

returns-then-a-b : tie.Need-returns-then-a-b
unfolding shorter
returns-then-a-b c = simp (lt-ltb _ _ c.if-a-b.true)

returns-else-a-b : tie.Need-returns-else-a-b
unfolding shorter
returns-else-a-b c = simp (le-ltb _ _ c.if-a-b.false)

pub shorter_spec : {M : Type 1} → statement M
shorter_spec = tie.close (tie.spec returns-then-a-b returns-else-a-b)
