-- What the answer of a reduction from file to file says: the bytes written; states, labels and rows of the source; blocks and rows of the
-- result; the rounds that split something.
use Rattle.std.specs.Prelude.{ℕ, List, [], ◌∷◌, Result}
use Rattle.columns.specs.declared.answers.Refusal as code
use Rattle.columns.specs.Answers.{Answer, Said, said_outcome, said_by}
use Rattle.file_reduction.specs.declared.answers.Written.{Written}

abbrev pub file_values : Written → List ℕ
file_values w = w.bytes ∷ w.states ∷ w.labels ∷ w.rows ∷ w.blocks ∷ w.reduced_rows ∷ w.rounds ∷ []

abbrev pub said_file_outcome : Result Written code.Refusal → Said
said_file_outcome o = said_outcome file_values o

abbrev pub said_file : Answer Written → Said
said_file a = said_by file_values a
