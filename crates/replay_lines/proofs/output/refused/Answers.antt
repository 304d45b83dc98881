-- Three texts, one after the other.
use Rattle.std.proofs.Common.{◌∙◌}
use Rattle.spelling.specs.Texts.{text}
use Rattle.columns.specs.Answers.{refused}
use Rattle.replay_lines.specs.Spelling.{said_text}
use Rattle.replay_lines.proofs.Putting.{puts_as, puts_then}
use Rattle.replay_lines.proofs.Telling.{refused_text}
use Rattle.replay_lines.proofs.output.refused.Goals as goal

pub returns : goal.returns
unfolding text
returns g c =
    puts_as _ _ _ (puts_then _ _ _ (puts_then (text "refused") _ _ c.word-a.ensures c.number-b.ensures) c.number-2.ensures)
    (refused_text c.number.result c.place.result ∙ (λ i. said_text (refused (c.number.ensures i) (c.place.ensures i))))
