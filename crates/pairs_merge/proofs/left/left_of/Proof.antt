-- `left.left_of` meets its contract.
use borrow.Author.Rules.{rules}
use native.Mathlib.Omega.{arith}
use Rattle.pairs_merge.specs.Merged.{head_place, end_at}
use Rattle.pairs_merge.specs.Rest.{left_of}
use Rattle.pairs_merge.proofs.left.left_of.Statement.{statement}
use Rattle.pairs_merge.proofs.left.left_of.Tie as tie

place-x-requires : tie.Need-place-x-requires
place-x-requires c κs = search rules

place-y-requires : tie.Need-place-y-requires
place-y-requires c κs = search rules

returns-then-y-x : tie.Need-returns-then-y-x
unfolding left_of head_place end_at
returns-then-y-x c = (omega (arith, c.place-x.ensures, c.place-y.ensures), omega arith)

overflow_sub-result : tie.Need-overflow_sub-result
overflow_sub-result c = search rules

returns : tie.Need-returns
unfolding left_of head_place end_at
returns c = (omega (arith, c.place-x.ensures, c.place-y.ensures), omega (arith, c.place-y.ensures))

pub left_of_spec : {M : Type 1} → statement M
left_of_spec = tie.close (tie.spec place-x-requires place-y-requires returns-then-y-x overflow_sub-result returns)
