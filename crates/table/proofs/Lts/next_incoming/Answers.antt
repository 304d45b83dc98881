-- `next_incoming` meets its contract.
use Rattle.std.proofs.Common.{ℕ, [], ◌∷◌, ap, ◌∙◌, refl}
use Rattle.columns.specs.Answers.{none, done, said_number}
use Rattle.columns.proofs.Saying.{asked_refused, asked_done, numbered}
use Rattle.table.specs.Lts.{lts_of}
use Rattle.table.specs.Transitions.{next_refusal, next_incoming_row}
use Rattle.table.proofs.Refusals.{next_asked}
use Rattle.table.proofs.Lts.next_incoming.Goals as goal

pub returns-in-Err : goal.returns-in-Err
unfolding next_incoming_row
returns-in-Err c =
    let t = lts_of c.args.self.now in
    ap said_number c.refused.ensures ∙ asked_refused (next_refusal t c.args.state c.args.from) _ c.in-Err.ensures _ (numbered _)

pub next_incoming-row-requires : goal.next_incoming-row-requires
next_incoming-row-requires c =
    let q = next_asked (lts_of c.args.self.now) c.args.state c.args.from none c.in_default.ensures refl in
    (q.valid.long.target, q.fits)

pub returns : goal.returns
unfolding next_incoming_row
returns c =
    let t = lts_of c.args.self.now in
    ap said_number c.done.ensures ∙ ap (λ (k : ℕ). done (k ∷ [])) c.next_incoming-row.ensures
    ∙ asked_done (next_refusal t c.args.state c.args.from) none c.in_default.ensures _ refl
