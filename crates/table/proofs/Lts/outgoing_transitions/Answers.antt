-- `outgoing_transitions` meets its contract.
use Rattle.std.proofs.Common.{true, [], ◌∷◌, ap, ◌∙◌, refl, arith}
use Rattle.columns.specs.Answers.{none, done}
use Rattle.columns.proofs.Saying.{asked_refused, asked_done, numbered}
use Rattle.table.specs.Checks.{table_argument_refusal}
use Rattle.table.specs.Lts.{lts_of}
use Rattle.table.specs.Transitions.{said_stretch, outgoing_transitions}
use Rattle.table.proofs.Refusals.{asked_of}
use Rattle.table.proofs.Stretches.{rising}
use Rattle.table.proofs.Lts.outgoing_transitions.Goals as goal

pub returns-in-Err : goal.returns-in-Err
unfolding outgoing_transitions
returns-in-Err c =
    let t = lts_of c.args.self.now in
    ap said_stretch c.refused.ensures ∙ asked_refused (table_argument_refusal t c.args.state t.n true) _ c.in-Err.ensures _ (numbered _)

pub rows_of-requires : goal.rows_of-requires
rows_of-requires c =
    let t = lts_of c.args.self.now in
    let v = (asked_of t c.args.state t.n true none c.in_default.ensures refl).valid in
    (v.long.source, rising t v, omega arith)

pub returns : goal.returns
unfolding outgoing_transitions
returns c =
    let t = lts_of c.args.self.now in
    ap said_stretch c.done.ensures ∙ (λ i. done (c.rows_of.ensures.0 i ∷ c.rows_of.ensures.1 i ∷ [])) ∙ asked_done (table_argument_refusal t c.args.state t.n true) none c.in_default.ensures _ refl
