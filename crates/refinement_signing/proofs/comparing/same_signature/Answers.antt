-- `same_signature` meets its contract.
use Rattle.std.proofs.Common.{◌∙◌}
use borrow.Author.Tests.{ne_eqb}
use Rattle.refinement_signing.proofs.Comparisons.{alike_shorter, alike_pairs}
use Rattle.refinement_signing.proofs.comparing.same_signature.Goals as goal

pub returns-then-w-v : goal.returns-then-w-v
returns-then-w-v c =
    c.same_pairs.ensures
    ∙ alike_pairs _ _ _ _ _ _ _ c.at-x.ensures.0 c.end_of-z.ensures c.at-v.ensures.0 c.end_of-w.ensures c.if-w-v.true

pub returns-else-w-v : goal.returns-else-w-v
returns-else-w-v c =
    ne_eqb _ _ c.if-w-v.false
    ∙ alike_shorter _ _ _ _ _ _ _ c.at-x.ensures.0 c.end_of-z.ensures c.at-v.ensures.0 c.end_of-w.ensures c.if-w-v.false
