-- Each arm makes the line of its case.
use Rattle.std.proofs.Common.{Result, List, ℕ, sym, ap}
use Rattle.columns.specs.Answers.{Refusal, said_coded}
use Rattle.file_reduction.specs.Answers.{file_values}
use Rattle.file_reduction.specs.declared.answers.Written.{Written}
use Rattle.spelling.proofs.Putting.{put_as, put_first_lem}
use Rattle.reduce.specs.Line.{line_text}
use Rattle.reduce.proofs.line.line.Goals as goal

-- the line of an outcome, where `of` gives the number and the place of what refuses
abbrev outcome_text : {R : Type 0} → (R → Refusal) → Result Written R → List ℕ
outcome_text of o = line_text (said_coded of file_values o)

pub returns-in-Err-clause-out_value : goal.returns-in-Err-clause-out_value
unfolding line_text
returns-in-Err-clause-out_value g c = (put_first_lem (put_as c.refused.ensures (ap (outcome_text g.R.Coded.code) (sym c.in-Err.is)))).1
