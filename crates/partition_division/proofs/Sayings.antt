-- What an answer of `partition_marked_with` says determines it.
use Rattle.std.specs.Prelude.{◌≡◌}
use Rattle.columns.specs.Answers.{Answer}
use Rattle.columns.proofs.Saying.{same_said}
use Rattle.partition_division.specs.declared.Division.{Division}
use Rattle.partition_division.specs.Division.{division_values, said_division}

same_values : (a b : Division) → division_values a ≡ division_values b → a ≡ b
same_values a b e =
    let x : a.index ≡ b.index = cc in
    let f : a.first ≡ b.first = cc in
    let c : a.count ≡ b.count = cc in
    λ i. record { index = x i; first = f i; count = c i }

pub same_division : (a b : Answer Division) → said_division a ≡ said_division b → a ≡ b
same_division = same_said division_values same_values
