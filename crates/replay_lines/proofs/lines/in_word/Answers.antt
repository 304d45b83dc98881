use Rattle.std.proofs.Common.{◌∙◌, sym}
use Rattle.replay_lines.proofs.Placing.{blank, no_blank}
use Rattle.replay_lines.proofs.lines.in_word.Goals as goal

pub returns-then-ne : goal.returns-then-ne
returns-then-ne g c =
    let differs = sym c.ne.ensures ∙ c.if-ne.true in
    c.in_line.ensures ∙ no_blank (g.B.Seen.seen c.args.byte) (rw (c.seen.ensures, c.from.ensures) at differs)

pub returns-else-ne : goal.returns-else-ne
returns-else-ne g c =
    let same = sym c.ne.ensures ∙ c.if-ne.false in
    c.if-ne.false ∙ blank (g.B.Seen.seen c.args.byte) (rw (c.seen.ensures, c.from.ensures) at same)
