-- `branching_bisim_signature_inductive` meets its contract.
use Rattle.std.proofs.Common.{◌≡◌, leb, not, ℕ, List, [], ◌∷◌, length, refl, sym, ap, ◌∙◌, arith}
use borrow.Author.Tests.{leb-true}
use Rattle.columns.specs.Answers.{none, said_number}
use Rattle.columns.specs.Rows.{pairs_of}
use Rattle.columns.proofs.Saying.{numbered}
use Rattle.columns.proofs.TwoColumns.{length_pairs}
use Rattle.partition.specs.Partition.{Partition, parts_of}
use Rattle.partition.specs.Marked.{unmarkedb}
use Rattle.partition.proofs.Marks.{block_known}
use Rattle.signatures.specs.Inductive.{marked_by, inductive_pushed, branching_bisim_signature_inductive}
use Rattle.signatures.specs.Pairs.{signature}
use Rattle.signatures.proofs.Outcomes.{signing_refused, signing_on}
use Rattle.signatures.proofs.Works.{asked_long, signable, level}
use Rattle.table.specs.Lts.{Lts, lts_of}
use Rattle.signatures.proofs.inductive.branching_bisim_signature_inductive.Goals as goal

-- marked as the code reads it
read :
    (t : Lts) (p : Partition) (keys : List ℕ) (s : ℕ)
    → inductive_pushed t p.element_to_block (marked_by p.element_offset p.element_to_block p.marked_split) keys s
    ≡ inductive_pushed t p.element_to_block (λ u. not (unmarkedb p u)) keys s
unfolding marked_by unmarkedb
read t p keys s = refl

pub returns-in-Err : goal.returns-in-Err
unfolding branching_bisim_signature_inductive
returns-in-Err c =
    let a = c.args in
    let t = lts_of a.system.now in
    let p = parts_of a.columns.now t.n a.count in
    let keys = leb t.n (length a.state_to_key.now) in
    let works = a.pushed_labels.now ∷ a.pushed_blocks.now ∷ a.order.now ∷ a.spare.now ∷ [] in
    let e = asked_long t p a.state keys works _ c.works_long-room.ensures _ c.in-Err.ensures in
    signing_refused _ _ e _ _ _ works _ (numbered _) (ap said_number c.refused.ensures)

pub push_inductive-d-requires : goal.push_inductive-d-requires
push_inductive-d-requires c =
    let a = c.args in
    let t = lts_of a.system.now in
    let p = parts_of a.columns.now t.n a.count in
    let keys = leb t.n (length a.state_to_key.now) in
    let works = a.pushed_labels.now ∷ a.pushed_blocks.now ∷ a.order.now ∷ a.spare.now ∷ [] in
    let q = signable t p a.state keys works _ c.works_long-room.ensures refl c.in_default.ensures in
    record {
      valid = (q.valid, q.known, leb-true _ _ q.enough);
      n_in_bounds = (q.sound.long.element_offset, q.sound.long.element_to_block);
      by_index = λ u h. block_known p u _ refl q.sound h;
      m_in_bounds = omega (arith, q.wide);
    }

pub sign-requires : goal.sign-requires
sign-requires c =
    let a = c.args in
    let t = lts_of a.system.now in
    let p = parts_of a.columns.now t.n a.count in
    let keys = leb t.n (length a.state_to_key.now) in
    let works = a.pushed_labels.now ∷ a.pushed_blocks.now ∷ a.order.now ∷ a.spare.now ∷ [] in
    let q = signable t p a.state keys works _ c.works_long-room.ensures refl c.in_default.ensures in
    record { d_in_bounds = omega (arith, q.wide); d_in_bounds_2 = omega (arith, q.wide, q.valid.few_rows) }

pub returns : goal.returns
unfolding branching_bisim_signature_inductive
returns c =
    let a = c.args in
    let t = lts_of a.system.now in
    let p = parts_of a.columns.now t.n a.count in
    let keys = leb t.n (length a.state_to_key.now) in
    let works = a.pushed_labels.now ∷ a.pushed_blocks.now ∷ a.order.now ∷ a.spare.now ∷ [] in
    let e = asked_long t p a.state keys works _ c.works_long-room.ensures none c.in_default.ensures in
    let q = c.push_inductive-d in
    let l = q.new.pushed_labels in
    let b = q.new.pushed_blocks in
    let pushed = q.ensures.0 ∙ read t p a.state_to_key.now a.state in
    c.sign.ensures
    ∙ signing_on _ none e _ _ _ works q.result (signature (pairs_of q.result l b)) (l ∷ b ∷ a.order.now ∷ a.spare.now ∷ []) refl
    (sym (length_pairs q.result l b) ∙ ap length pushed) (ap signature pushed)
    (level (l ∷ b ∷ a.order.now ∷ a.spare.now ∷ []) works (q.auto.pushed_labels, (q.auto.pushed_blocks, (refl, (refl, tt)))))
