-- The states that a state reaches by hidden steps, and those that reach it, as marks: 1 for each of them, 0 for each other.
use Rattle.std.specs.Prelude.{ℕ, true, List}
use Rattle.columns.specs.Counting.{bit}
use Rattle.columns.specs.Columns.{listed}
use Rattle.table.specs.Lts.{Lts}
use Rattle.table.specs.Reach.{reaches}

abbrev pub marks_from : Lts → ℕ → List ℕ
marks_from t s = listed t.n (λ v. bit (reaches t true s v))

abbrev pub marks_into : Lts → ℕ → List ℕ
marks_into t u = listed t.n (λ v. bit (reaches t true v u))
