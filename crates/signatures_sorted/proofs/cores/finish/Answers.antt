-- `finish` meets its contract.
use Rattle.std.proofs.Common.{[], ◌∷◌, ap, ◌∙◌}
use Rattle.columns.specs.Columns.{zeros}
use Rattle.signatures.proofs.Outcomes.{finished}
use Rattle.signatures.proofs.Works.{zeroed_of}
use Rattle.signatures_sorted.proofs.cores.finish.Goals as goal

pub returns : goal.returns
returns c =
    let a = c.args in
    let works = a.own_labels.now ∷ a.own_blocks.now ∷ a.high.now ∷ a.low.now ∷ a.end_high.now ∷ a.end_low.now ∷ a.tree.now ∷ [] in
    let k = c.write_set-answer.auto in
    finished a.taken.pushed _ (a.labels.now, a.blocks.now) _ _ works _ c.write_set-answer.ensures
    (zeroed_of _ works (
      c.clear.ensures ∙ ap zeros k.own_labels,
      (
        c.clear-2.ensures ∙ ap zeros k.own_blocks,
        (
          c.clear-3.ensures ∙ ap zeros k.high,
          (
            c.clear-4.ensures ∙ ap zeros k.low,
            (c.clear-5.ensures, (c.clear-6.ensures, (c.clear-7.ensures ∙ ap zeros k.tree, tt))),
          ),
        ),
      ),
    ))
