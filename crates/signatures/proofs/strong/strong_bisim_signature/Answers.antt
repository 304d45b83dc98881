-- `strong_bisim_signature` meets its contract.
use Rattle.std.proofs.Common.{true, [], ◌∷◌, length, refl, sym, ap, ◌∙◌, arith}
use Rattle.columns.specs.Answers.{none, said_number}
use Rattle.columns.specs.Rows.{pairs_of}
use Rattle.columns.proofs.Saying.{numbered}
use Rattle.columns.proofs.TwoColumns.{length_pairs}
use Rattle.partition.specs.Partition.{parts_of}
use Rattle.signatures.specs.Pairs.{signature}
use Rattle.signatures.specs.Strong.{strong_bisim_signature}
use Rattle.signatures.proofs.Outcomes.{signing_refused, signing_on}
use Rattle.signatures.proofs.Works.{asked_long, signable, level}
use Rattle.table.specs.Lts.{lts_of}
use Rattle.signatures.proofs.strong.strong_bisim_signature.Goals as goal

pub returns-in-Err : goal.returns-in-Err
unfolding strong_bisim_signature
returns-in-Err c =
    let a = c.args in
    let t = lts_of a.system.now in
    let p = parts_of a.columns.now t.n a.count in
    let works = a.pushed_labels.now ∷ a.pushed_blocks.now ∷ a.order.now ∷ a.spare.now ∷ [] in
    let e = asked_long t p a.state true works _ c.works_long-room.ensures _ c.in-Err.ensures in
    signing_refused _ _ e _ _ _ works _ (numbered _) (ap said_number c.refused.ensures)

pub push_strong-d-requires : goal.push_strong-d-requires
push_strong-d-requires c =
    let a = c.args in
    let t = lts_of a.system.now in
    let p = parts_of a.columns.now t.n a.count in
    let works = a.pushed_labels.now ∷ a.pushed_blocks.now ∷ a.order.now ∷ a.spare.now ∷ [] in
    let q = signable t p a.state true works _ c.works_long-room.ensures refl c.in_default.ensures in
    record { valid = (q.valid, q.known, q.sound.long.element_to_block); m_in_bounds = omega (arith, q.wide) }

pub sign-requires : goal.sign-requires
sign-requires c =
    let a = c.args in
    let t = lts_of a.system.now in
    let p = parts_of a.columns.now t.n a.count in
    let works = a.pushed_labels.now ∷ a.pushed_blocks.now ∷ a.order.now ∷ a.spare.now ∷ [] in
    let q = signable t p a.state true works _ c.works_long-room.ensures refl c.in_default.ensures in
    record { d_in_bounds = omega (arith, q.wide); d_in_bounds_2 = omega (arith, q.wide, q.valid.few_rows) }

pub returns : goal.returns
unfolding strong_bisim_signature
returns c =
    let a = c.args in
    let t = lts_of a.system.now in
    let p = parts_of a.columns.now t.n a.count in
    let works = a.pushed_labels.now ∷ a.pushed_blocks.now ∷ a.order.now ∷ a.spare.now ∷ [] in
    let e = asked_long t p a.state true works _ c.works_long-room.ensures none c.in_default.ensures in
    let q = c.push_strong-d in
    let l = q.new.pushed_labels in
    let b = q.new.pushed_blocks in
    c.sign.ensures
    ∙ signing_on _ none e _ _ _ works q.result (signature (pairs_of q.result l b)) (l ∷ b ∷ a.order.now ∷ a.spare.now ∷ []) refl
    (sym (length_pairs q.result l b) ∙ ap length q.ensures.0) (ap signature q.ensures.0)
    (level (l ∷ b ∷ a.order.now ∷ a.spare.now ∷ []) works (q.auto.pushed_labels, (q.auto.pushed_blocks, (refl, (refl, tt)))))
