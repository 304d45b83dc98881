-- `tau_hat` meets its contract.
use Rattle.std.proofs.Common.{ap, ◌∙◌, refl}
use Rattle.columns.specs.Answers.{none, said_number}
use Rattle.columns.proofs.Saying.{asked_refused, asked_done, numbered}
use Rattle.signatures.specs.TauHat.{labels_refusal, tau_hat}
use Rattle.signatures.proofs.tau_hat.tau_hat.Goals as goal

pub returns-in-Err : goal.returns-in-Err
unfolding tau_hat labels_refusal
returns-in-Err c =
    ap said_number c.refused.ensures ∙ asked_refused (labels_refusal c.args.labels) _ c.in-Err.ensures _ (numbered _)

pub returns : goal.returns
unfolding tau_hat labels_refusal
returns c = ap said_number c.done.ensures ∙ asked_done (labels_refusal c.args.labels) none c.in_default.ensures _ refl
