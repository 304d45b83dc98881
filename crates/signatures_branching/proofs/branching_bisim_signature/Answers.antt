-- `branching_bisim_signature` meets its contract.
use Rattle.std.proofs.Common.{◌≡◌, true, ℕ, List, [], ◌∷◌, ◌++◌, length, get_or, take, drop, refl, sym, ap, ◌∙◌, arith}
use mathlib.Core.Path.{ap₂}
use lib.Seq.{length-take-le}
use Rattle.columns.specs.Answers.{none, said_number}
use Rattle.columns.specs.Columns.{zeros}
use Rattle.columns.specs.Rows.{pairs_of}
use Rattle.columns.proofs.Lists.{front_zeros, zeros_at, take-zeros}
use Rattle.columns.proofs.Saying.{numbered}
use Rattle.partition.specs.Partition.{parts_of}
use Rattle.signatures.specs.Pairs.{signature}
use Rattle.signatures.proofs.Outcomes.{signing_refused, signing_on}
use Rattle.signatures.proofs.Works.{asked_long, signable, zeroed_of, level, cleared-append}
use Rattle.table.specs.Lts.{lts_of}
use Rattle.signatures_branching.specs.Branching.{branching_bisim_signature}
use Rattle.signatures_branching.proofs.MoreWorks.{with_more, finish_more}
use Rattle.signatures_branching.proofs.branching_bisim_signature.Goals as goal

pub returns-in-Err : goal.returns-in-Err
unfolding branching_bisim_signature
returns-in-Err c =
    let a = c.args in
    let t = lts_of a.system.now in
    let p = parts_of a.columns.now t.n a.count in
    let works = a.pushed_labels.now ∷ a.pushed_blocks.now ∷ a.order.now ∷ a.spare.now ∷ a.marks.now ∷ a.queue.now ∷ [] in
    let e = asked_long t p a.state true works _ c.works_long-room.ensures _ c.in-Err.ensures in
    signing_refused _ _ e _ _ _ works _ (numbered _) (ap said_number c.refused.ensures)

pub slice_bounds-push_branching-end : goal.slice_bounds-push_branching-end
slice_bounds-push_branching-end c =
    let a = c.args in
    let t = lts_of a.system.now in
    let p = parts_of a.columns.now t.n a.count in
    let works = a.pushed_labels.now ∷ a.pushed_blocks.now ∷ a.order.now ∷ a.spare.now ∷ a.marks.now ∷ a.queue.now ∷ [] in
    let q = signable t p a.state true works _ c.works_long-room.ensures refl c.in_default.ensures in
    omega (arith, q.wide)

pub slice_bounds-push_branching-end-2 : goal.slice_bounds-push_branching-end-2
slice_bounds-push_branching-end-2 c =
    let a = c.args in
    let t = lts_of a.system.now in
    let p = parts_of a.columns.now t.n a.count in
    let works = a.pushed_labels.now ∷ a.pushed_blocks.now ∷ a.order.now ∷ a.spare.now ∷ a.marks.now ∷ a.queue.now ∷ [] in
    let q = signable t p a.state true works _ c.works_long-room.ensures refl c.in_default.ensures in
    sym (length-take-le _ _ (omega (arith, q.wide)))

pub push_branching-d-requires : goal.push_branching-d-requires
push_branching-d-requires c =
    let a = c.args in
    let t = lts_of a.system.now in
    let p = parts_of a.columns.now t.n a.count in
    let works = a.pushed_labels.now ∷ a.pushed_blocks.now ∷ a.order.now ∷ a.spare.now ∷ a.marks.now ∷ a.queue.now ∷ [] in
    let q = signable t p a.state true works _ c.works_long-room.ensures refl c.in_default.ensures in
    let front : length (take t.n c.clear.new.a) ≡ t.n = length-take-le t.n c.clear.new.a (omega (arith, q.wide)) in
    record {
      valid = (q.valid, q.known, q.sound.long.element_to_block);
      m_in_bounds = omega (arith, q.wide);
      marks_len = (
        front,
        omega (arith, q.wide),
        ap (take t.n) c.clear.ensures ∙ take-zeros t.n (length a.marks.now) (omega (arith, q.wide)) ∙ ap zeros (sym front),
        c.clear-2.ensures ∙ ap zeros (sym c.clear-2.auto.a),
      );
    }

pub sign-requires : goal.sign-requires
sign-requires c =
    let a = c.args in
    let t = lts_of a.system.now in
    let p = parts_of a.columns.now t.n a.count in
    let works = a.pushed_labels.now ∷ a.pushed_blocks.now ∷ a.order.now ∷ a.spare.now ∷ a.marks.now ∷ a.queue.now ∷ [] in
    let q = signable t p a.state true works _ c.works_long-room.ensures refl c.in_default.ensures in
    record { d_in_bounds = omega (arith, q.wide); d_in_bounds_2 = omega (arith, q.wide, q.valid.few_rows) }

pub returns : goal.returns
unfolding branching_bisim_signature
returns c =
    let a = c.args in
    let t = lts_of a.system.now in
    let p = parts_of a.columns.now t.n a.count in
    let works = a.pushed_labels.now ∷ a.pushed_blocks.now ∷ a.order.now ∷ a.spare.now ∷ a.marks.now ∷ a.queue.now ∷ [] in
    let r = signable t p a.state true works _ c.works_long-room.ensures refl c.in_default.ensures in
    let e = asked_long t p a.state true works _ c.works_long-room.ensures none c.in_default.ensures in
    let q = c.push_branching-d in
    let f = q.ensures in
    let pairs = signature (pairs_of q.result q.new.pushed_labels q.new.pushed_blocks) in
    let w : List (List ℕ) = q.new.pushed_labels ∷ q.new.pushed_blocks ∷ a.order.now ∷ a.spare.now ∷ [] in
    let more : List (List ℕ) = (q.new.marks ++ drop t.n c.clear.new.a) ∷ q.new.queue ∷ [] in
    let marks-left =
    front_zeros t.n c.clear.new.a q.new.marks (omega (arith, r.wide)) f.cleared.0
    (λ k l. ap (λ (x : List ℕ). get_or x k 0) c.clear.ensures ∙ zeros_at (length a.marks.now) k)
    ∙ ap zeros c.clear.auto.a in
    ap (with_more more) c.sign.ensures
    ∙ finish_more q.result pairs _ w more works
    (ap₂ ◌++◌ (level w (take 4 works) (q.auto.pushed_labels, (q.auto.pushed_blocks, (refl, (refl, tt)))))
    (zeroed_of more (drop 4 works) (marks-left, (f.cleared.1 ∙ ap zeros c.clear-2.auto.a, tt)))
    ∙ cleared-append (take 4 works) (drop 4 works))
    ∙ signing_on _ none e _ _ _ works q.result pairs works refl f.fact.0 f.fact.1 refl
