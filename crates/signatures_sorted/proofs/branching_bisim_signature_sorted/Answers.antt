-- `branching_bisim_signature_sorted` meets its contract.
use Rattle.std.proofs.Common.{[], ◌∷◌, length, refl, ap, ◌∙◌, arith}
use Rattle.columns.specs.Answers.{none, said_number}
use Rattle.columns.proofs.Lists.{still_zeros}
use Rattle.columns.proofs.Saying.{numbered}
use Rattle.pairs.specs.Lists.{list_at}
use Rattle.partition.specs.Partition.{parts_of}
use Rattle.signatures.proofs.Outcomes.{signing_refused, signing_on}
use Rattle.signatures.proofs.Works.{level}
use Rattle.table.specs.Lts.{lts_of}
use Rattle.signatures_sorted.specs.Sorted.{flat, sorted_pushed, sorted_signature, branching_bisim_signature_sorted}
use Rattle.signatures_sorted.proofs.Openings.{lists_taken}
use Rattle.signatures_sorted.proofs.Refused.{sorted_asked, sorted_signable}
use Rattle.signatures_sorted.proofs.branching_bisim_signature_sorted.Goals as goal

pub returns-in-Err : goal.returns-in-Err
unfolding branching_bisim_signature_sorted
returns-in-Err c =
    let a = c.args in
    let t = lts_of a.system.now in
    let p = parts_of a.columns.now t.n a.count in
    let g = flat a.starts.now a.given_labels.now a.given_blocks.now in
    let works =
    a.own_labels.now ∷ a.own_blocks.now ∷ a.high.now ∷ a.low.now ∷ a.end_high.now ∷ a.end_low.now ∷ a.tree.now ∷ [] in
    let e = sorted_asked t p a.state g works _ c.works_long-room.ensures _ c.in-Err.ensures in
    signing_refused _ _ e _ _ _ works _ (numbered _) (ap said_number c.refused.ensures)

pub branching_bisim_signature_sorted-requires-clause-valid : goal.branching_bisim_signature_sorted-requires-clause-valid
branching_bisim_signature_sorted-requires-clause-valid c =
    let a = c.args in
    let t = lts_of a.system.now in
    let p = parts_of a.columns.now t.n a.count in
    let g = flat a.starts.now a.given_labels.now a.given_blocks.now in
    let works =
    a.own_labels.now ∷ a.own_blocks.now ∷ a.high.now ∷ a.low.now ∷ a.end_high.now ∷ a.end_low.now ∷ a.tree.now ∷ [] in
    let q = sorted_signable t p a.state g works _ c.works_long-room.ensures refl c.in_default.ensures in
    (q.valid, q.known)

pub branching_bisim_signature_sorted-requires-clause-n_in_bounds : goal.branching_bisim_signature_sorted-requires-clause-n_in_bounds
branching_bisim_signature_sorted-requires-clause-n_in_bounds c =
    let a = c.args in
    let t = lts_of a.system.now in
    let p = parts_of a.columns.now t.n a.count in
    let g = flat a.starts.now a.given_labels.now a.given_blocks.now in
    let works =
    a.own_labels.now ∷ a.own_blocks.now ∷ a.high.now ∷ a.low.now ∷ a.end_high.now ∷ a.end_low.now ∷ a.tree.now ∷ [] in
    let q = sorted_signable t p a.state g works _ c.works_long-room.ensures refl c.in_default.ensures in
    (q.sound.long.element_to_block, q.many_starts)

pub branching_bisim_signature_sorted-requires-clause-fact : goal.branching_bisim_signature_sorted-requires-clause-fact
branching_bisim_signature_sorted-requires-clause-fact c =
    let a = c.args in
    let t = lts_of a.system.now in
    let p = parts_of a.columns.now t.n a.count in
    let g = flat a.starts.now a.given_labels.now a.given_blocks.now in
    let works =
    a.own_labels.now ∷ a.own_blocks.now ∷ a.high.now ∷ a.low.now ∷ a.end_high.now ∷ a.end_low.now ∷ a.tree.now ∷ [] in
    let q = sorted_signable t p a.state g works _ c.works_long-room.ensures refl c.in_default.ensures in
    lists_taken t p.element_to_block a.state g.starts g.labels g.blocks q.valid q.lists

pub branching_bisim_signature_sorted-requires-clause-fact_2 : goal.branching_bisim_signature_sorted-requires-clause-fact_2
branching_bisim_signature_sorted-requires-clause-fact_2 c =
    let a = c.args in
    let t = lts_of a.system.now in
    let p = parts_of a.columns.now t.n a.count in
    let g = flat a.starts.now a.given_labels.now a.given_blocks.now in
    let works =
    a.own_labels.now ∷ a.own_blocks.now ∷ a.high.now ∷ a.low.now ∷ a.end_high.now ∷ a.end_low.now ∷ a.tree.now ∷ [] in
    let q = sorted_signable t p a.state g works _ c.works_long-room.ensures refl c.in_default.ensures in
    let w = q.wide in (
      (
        omega (arith, w.0),
        (
          omega (arith, w.1.0),
          (
            omega (arith, w.1.1.0),
            (omega (arith, w.1.1.1.0), (omega (arith, w.1.1.1.1.0), (omega (arith, w.1.1.1.1.1.0), tt))),
          ),
        ),
      ),
      omega (arith, w.1.1.1.1.1.1.0),
      (
        still_zeros _ (length a.tree.now) c.clear-7.ensures,
        (
          still_zeros _ (length a.own_labels.now) c.clear.ensures,
          (
            still_zeros _ (length a.own_blocks.now) c.clear-2.ensures,
            (
              still_zeros _ (length a.high.now) c.clear-3.ensures,
              (
                still_zeros _ (length a.low.now) c.clear-4.ensures,
                (
                  still_zeros _ (length a.end_high.now) c.clear-5.ensures,
                  (still_zeros _ (length a.end_low.now) c.clear-6.ensures, tt),
                ),
              ),
            ),
          ),
        ),
      ),
    )

pub returns : goal.returns
unfolding branching_bisim_signature_sorted
returns c =
    let a = c.args in
    let t = lts_of a.system.now in
    let p = parts_of a.columns.now t.n a.count in
    let g = flat a.starts.now a.given_labels.now a.given_blocks.now in
    let works =
    a.own_labels.now ∷ a.own_blocks.now ∷ a.high.now ∷ a.low.now ∷ a.end_high.now ∷ a.end_low.now ∷ a.tree.now ∷ [] in
    let e = sorted_asked t p a.state g works _ c.works_long-room.ensures none c.in_default.ensures in
    let left =
    c.clear.new.a ∷ c.clear-2.new.a ∷ c.clear-3.new.a ∷ c.clear-4.new.a ∷ c.clear-5.new.a ∷ c.clear-6.new.a ∷ c.clear-7.new.a ∷ [] in
    let given = list_at g.starts g.labels g.blocks in
    let pushed = length (sorted_pushed t p.element_to_block given a.state) in
    let pairs = sorted_signature t p.element_to_block given a.state in
    c.branching_bisim_signature_sorted.ensures
    ∙ signing_on _ none e pushed pairs (a.labels.now, a.blocks.now) works pushed pairs left refl refl refl
    (level left works (
      c.clear.auto.a,
      (
        c.clear-2.auto.a,
        (c.clear-3.auto.a, (c.clear-4.auto.a, (c.clear-5.auto.a, (c.clear-6.auto.a, (c.clear-7.auto.a, tt))))),
      ),
    ))
