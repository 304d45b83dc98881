-- `is_tau_hat` meets its contract.
use Rattle.std.proofs.Common.{ap, ◌∙◌, refl}
use Rattle.columns.specs.Answers.{none, said_flag}
use Rattle.columns.proofs.Saying.{asked_refused, asked_done, numbered}
use Rattle.signatures.specs.TauHat.{labels_refusal, is_tau_hat}
use Rattle.signatures.proofs.tau_hat.is_tau_hat.Goals as goal

pub returns-in-Err : goal.returns-in-Err
unfolding is_tau_hat labels_refusal
returns-in-Err c =
    ap said_flag c.refused.ensures ∙ asked_refused (labels_refusal c.args.labels) _ c.in-Err.ensures _ (numbered _)

pub returns : goal.returns
unfolding is_tau_hat labels_refusal
returns c = ap said_flag c.done.ensures ∙ asked_done (labels_refusal c.args.labels) none c.in_default.ensures _ refl
