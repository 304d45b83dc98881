-- Any two results that the contract of `reduce_file` allows are equal.
use Rattle.std.specs.Prelude.{◌≡◌}
use Rattle.columns.specs.OneResult.{OneResult}
use Rattle.columns.specs.Answers.{Answer}
use Rattle.columns.proofs.OneResult.{skip, determined}
use Rattle.columns.proofs.Saying.{same_said}
use Rattle.file_reduction.specs.Answers.{file_values, said_file}
use Rattle.file_reduction.specs.declared.answers.Written.{Written}
use Rattle.file_reduction.specs.contracts.reduce_file as call_said
use Rattle.file_reduction.proofs.reduce_file as call

same_values : (a b : Written) → file_values a ≡ file_values b → a ≡ b
same_values a b e =
    let w : a.bytes ≡ b.bytes = cc in
    let n : a.states ≡ b.states = cc in
    let l : a.labels ≡ b.labels = cc in
    let m : a.rows ≡ b.rows = cc in
    let k : a.blocks ≡ b.blocks = cc in
    let r : a.reduced_rows ≡ b.reduced_rows = cc in
    let t : a.rounds ≡ b.rounds = cc in
    λ i. record { bytes = w i; states = n i; labels = l i; rows = m i; blocks = k i; reduced_rows = r i; rounds = t i }

pub same_file : (a b : Answer Written) → said_file a ≡ said_file b → a ≡ b
same_file = same_said file_values same_values

-- the bytes of the output
pub reduce_file_lem : OneResult call_said.ended call.Reads.Learnt
reduce_file_lem κs a r q x y = determined same_file (λ c. skip 1 (c, tt)) r q
