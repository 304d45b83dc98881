-- No cell of a run is above the largest, since the last is not.
use Rattle.std.proofs.Common.{ap, arith}
use Rattle.std.proofs.lemmas.Option.{IfSome_then}
use Rattle.replay_lines.specs.declared.runs.Run.{Run}
use Rattle.replay_lines.specs.declared.runs.Word.{Word}
use Rattle.replay_lines.proofs.Running.{last_equal, last_ascending}
use Rattle.replay_lines.proofs.input.Input.word.Goals as goal

pub returns-in-Some-eq42 : goal.returns-in-Some-eq42
returns-in-Some-eq42 c =
    let least = c.in_ok-first.ensures in
    IfSome_then _ c.counted.ensures (λ (word : Word) w. last_equal word.run _ w.2 (omega (arith, w.0, least.0)))

pub returns-in-Some-eq43 : goal.returns-in-Some-eq43
returns-in-Some-eq43 c =
    let least = c.in_ok-first.ensures in
    IfSome_then _ c.counted-in-Some-eq43.ensures
    (λ (word : Word) w. last_ascending word.run _ _ w.2 w.1 (omega (arith, w.0)) (omega (arith, w.0, least.0)))

pub returns-in_default : goal.returns-in_default
returns-in_default c =
    let least = c.in_ok-first.ensures in
    last_equal _ _ (ap (λ (r : Run). r.step) c.alone-run.ensures) (omega (arith, least.0, ap (λ (r : Run). r.first) c.alone-run.ensures))
