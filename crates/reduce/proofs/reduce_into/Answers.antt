-- What is held is refused as the whole input is, or it is the whole.
use Rattle.std.proofs.Common.{ℕ, List, ◌≡◌, ◌≤◌, ◌∙◌, sym, ap, arith}
use Rattle.columns.specs.Answers.{Said, refusal_of}
use Rattle.file.specs.Layout.{largest_input}
use Rattle.file_reduction.specs.Answers.{said_file}
use Rattle.file_reduction.specs.Reducing.{reduce_file}
use Rattle.file_reduction.proofs.Done.{never_refused}
use Rattle.reduce.specs.Held.{Heard}
use Rattle.reduce.proofs.Wholes.{long_as_whole, long_refused, short_as_whole}
use Rattle.reduce.proofs.reduce_into.Goals as goal
use Rattle.reduce.proofs.reduce_into.Goals.{After-refused, After-reduce_file, then-got-gt-LARGEST_INPUT+in_default, else-got-gt-LARGEST_INPUT}

long :
    (c : After-refused) → (whole : List ℕ) → Heard whole c.args.held.now c.args.got
    → (said_file c.refused.result, c.args.output.now) ≡ reduce_file whole c.args.output.now
long c whole heard =
    long_as_whole whole c.args.held.now c.args.output.now c.args.got.size (c.requires.0.decides whole heard)
    c.if-got-gt-LARGEST_INPUT.true (refusal_of c.in-Err.refusal) c.in-Err.ensures _ (ap said_file c.refused.ensures)

-- what is reduced is no longer than the longest input: a longer one is refused
size : (c : After-reduce_file) → c.args.got.size ≤ largest_input
size c =
    elim c.if-got-gt-LARGEST_INPUT.branch [
      | then-got-gt-LARGEST_INPUT+in_default w ↦ absurd (long_refused _ _ w.if-got-gt-LARGEST_INPUT.true (sym (ap (λ r. r.number) w.in_default.ensures)))
      | else-got-gt-LARGEST_INPUT w ↦ omega (arith, w.if-got-gt-LARGEST_INPUT.false)
    ]

short :
    (c : After-reduce_file) → (whole : List ℕ) → Heard whole c.args.held.now c.args.got
    → (said_file c.reduce_file.result, c.reduce_file.new.output) ≡ reduce_file whole c.args.output.now
short c whole heard =
    c.reduce_file.ensures ∙ short_as_whole whole c.args.held.now c.args.output.now c.args.got.size (c.requires.0.decides whole heard) (size c)

pub returns-in-Err-clause-by_index : goal.returns-in-Err-clause-by_index
returns-in-Err-clause-by_index c = long (goal.at.returns-in-Err-clause-by_index c).After-refused

pub returns-in-Err-clause-by_index_2 : goal.returns-in-Err-clause-by_index_2
returns-in-Err-clause-by_index_2 c whole heard file =
    ap (λ (p : Said × List ℕ). p.0)
    (long (goal.at.returns-in-Err-clause-by_index_2 c).After-refused whole heard
    ∙ never_refused whole c.args.output.now file c.requires.1)

pub returns-clause-by_index : goal.returns-clause-by_index
returns-clause-by_index c = short (goal.at.returns-clause-by_index c).After-reduce_file

pub returns-clause-by_index_2 : goal.returns-clause-by_index_2
returns-clause-by_index_2 c whole heard file =
    ap (λ (p : Said × List ℕ). p.0)
    (short (goal.at.returns-clause-by_index_2 c).After-reduce_file whole heard ∙ never_refused whole c.args.output.now file c.requires.1)
