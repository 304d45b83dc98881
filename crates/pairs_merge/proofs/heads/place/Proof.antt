-- `heads.place` meets its contract.
use borrow.Author.Rules.{rules}
use native.Mathlib.Omega.{arith}
use Rattle.pairs_merge.specs.Merged.{wide}
use Rattle.pairs_merge.proofs.heads.place.Statement.{statement}
use Rattle.pairs_merge.proofs.heads.place.Tie as tie

at-x-requires : tie.Need-at-x-requires
at-x-requires c κs = search rules

at-y-requires : tie.Need-at-y-requires
at-y-requires c κs = search rules

overflow_mul-result : tie.Need-overflow_mul-result
overflow_mul-result c = search rules

overflow_add-result : tie.Need-overflow_add-result
overflow_add-result c = search rules

returns : tie.Need-returns
unfolding wide
returns c = (omega (arith, c.at-x.ensures.0, c.at-y.ensures.0), omega arith)

pub place_spec : {M : Type 1} → statement M
place_spec = tie.close (tie.spec at-x-requires at-y-requires overflow_mul-result overflow_add-result returns)
