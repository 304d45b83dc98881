-- Any two results that the contract of the reduction allows are equal.
use Rattle.std.specs.Prelude.{◌≡◌}
use Rattle.columns.specs.OneResult.{OneResult}
use Rattle.columns.proofs.OneResult.{skip, works, determined}
use Rattle.columns.specs.Answers.{Answer}
use Rattle.columns.proofs.Saying.{same_said}
use Rattle.reduction.specs.Answers.{reduction_values, said_reduction}
use Rattle.reduction.specs.declared.answers.Reduced.{Reduced}
use Rattle.reduction.specs.contracts.strong_reduction as call_said
use Rattle.reduction.proofs.strong_reduction as call

same_values : (a b : Reduced) → reduction_values a ≡ reduction_values b → a ≡ b
same_values a b e =
    let n : a.table.n ≡ b.table.n = cc in
    let l : a.table.labels ≡ b.table.labels = cc in
    let m : a.table.m ≡ b.table.m = cc in
    let z : a.table.initial ≡ b.table.initial = cc in
    let k : a.rounds ≡ b.rounds = cc in
    λ i. record { table = record { n = n i; labels = l i; m = m i; initial = z i }; rounds = k i }

pub same_reduction : (a b : Answer Reduced) → said_reduction a ≡ said_reduction b → a ≡ b
same_reduction = same_said reduction_values same_values

-- the columns of the rows, the block column, and the work slices
pub strong_reduction_lem : OneResult call_said.ended call.Reads.Learnt
strong_reduction_lem κs a r q x y =
    determined same_reduction (λ c. skip 1 (c.0.0, (c.0.1.0, (c.0.1.1, (c.1.0, works 10 c.1.1))))) r q
