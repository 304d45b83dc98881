-- What an answer with a reordered table's header and a state says determines it.
use Rattle.std.specs.Prelude.{◌≡◌}
use Rattle.columns.specs.Answers.{Answer}
use Rattle.columns.proofs.Saying.{same_said}
use Rattle.quotient_cycles.specs.declared.Reordered.{Reordered}
use Rattle.quotient_cycles.specs.Call.{reordered_values, said_reordered}

same_values : (a b : Reordered) → reordered_values a ≡ reordered_values b → a ≡ b
same_values a b e =
    let n : a.table.n ≡ b.table.n = cc in
    let l : a.table.labels ≡ b.table.labels = cc in
    let m : a.table.m ≡ b.table.m = cc in
    let z : a.table.initial ≡ b.table.initial = cc in
    let s : a.state ≡ b.state = cc in
    λ i. record { table = record { n = n i; labels = l i; m = m i; initial = z i }; state = s i }

pub same_reordered : (a b : Answer Reordered) → said_reordered a ≡ said_reordered b → a ≡ b
same_reordered = same_said reordered_values same_values
