-- What the answer of a reduction says: n, labels, m and initial state of the reduced table, and the rounds that split something.
use Rattle.std.specs.Prelude.{ℕ, List, [], ◌∷◌}
use Rattle.columns.specs.Answers.{Answer, Said, said_by}
use Rattle.reduction.specs.declared.answers.Reduced.{Reduced}

abbrev pub reduction_values : Reduced → List ℕ
reduction_values r = r.table.n ∷ r.table.labels ∷ r.table.m ∷ r.table.initial ∷ r.rounds ∷ []

abbrev pub said_reduction : Answer Reduced → Said
said_reduction a = said_by reduction_values a
