-- What an answer says that is handed on: its numbers, or its refusal, whose number and place `of` gives.
use Rattle.std.specs.Prelude.{Result, Ok, Err, take}
use Rattle.columns.specs.Answers.{Refusal, Said, done, refused, refusal_of}
use Rattle.columns.specs.declared.answers.Refusal as code
use Rattle.replay_lines.specs.declared.answers.Numbers as lines

unfoldable pub told_by : {R : Type 0} → (R → Refusal) → Result lines.Numbers R → Said
told_by of (Ok n) = done (take n.count n.numbers)
told_by of (Err r) = refused (of r).number (of r).place

abbrev pub told : Result lines.Numbers code.Refusal → Said
told s = told_by refusal_of s
