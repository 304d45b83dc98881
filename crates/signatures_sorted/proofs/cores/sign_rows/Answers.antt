-- `sign_rows` meets its contract: what is taken and merged is what the definition pushes.
use Rattle.std.proofs.Common.{◌≡◌, ℕ, ◌+◌, ◌*◌, ◌≤◌, List, [], ◌∷◌, length, get_or, sym, ap, ap₂, ◌∙◌, arith}
use lib.Seq.{length-take-le}
use Rattle.columns.specs.Columns.{zeros}
use Rattle.columns.specs.Sets.{Pair, pair_lt, add_all}
use Rattle.pairs_merge.specs.Merged.{heads}
use Rattle.pairs_merge.specs.Rest.{left_in, merge_of}
use Rattle.pairs_merge.proofs.Joins.{left_alike}
use Rattle.signatures.specs.Signing.{finishing}
use Rattle.signatures.specs.Strong.{own_rows}
use Rattle.table.specs.Lts.{Lts, lts_of, Valid}
use Rattle.signatures_sorted.specs.Joining.{joint_set}
use Rattle.signatures_sorted.specs.Taking.{inner_targets}
use Rattle.signatures_sorted.proofs.Counted.{sorted_count, sorted-set}
use Rattle.signatures_sorted.proofs.Emptied.{lent-zero, refinished}
use Rattle.signatures_sorted.proofs.Openings.{few_inner, few_lists, lists_ready}
use Rattle.signatures_sorted.proofs.Pushed.{few_outer, set_few, set_ascending}
use Rattle.signatures_sorted.proofs.cores.sign_rows.Goals as goal

-- the lists that are taken are few
few : (t : Lts) (home : List ℕ) (s k : ℕ) → Valid t → k ≡ length (inner_targets t home s)
    → (k ≤ t.n) × (k ≤ t.m) × (k ≤ length (own_rows t s))
few t home s k v e =
    let l = few_lists t v home s in
    let r = few_inner t home s in
    (omega arith, omega arith, omega arith)

pub overflow_mul-nodes : goal.overflow_mul-nodes
overflow_mul-nodes c =
    let t = lts_of c.args.system.now in
    let k = few t c.args.element_to_block.now c.args.state _ c.requires.valid.0 c.take-taken.ensures.fact_3.count in
    omega (arith, c.requires.valid.0.few_rows)

pub slice_bounds-finish-end : goal.slice_bounds-finish-end
slice_bounds-finish-end c =
    let t = lts_of c.args.system.now in
    let k = few t c.args.element_to_block.now c.args.state _ c.requires.valid.0 c.take-taken.ensures.fact_3.count in
    omega (arith, c.requires.fact_2.1)

pub slice_bounds-finish-end-2 : goal.slice_bounds-finish-end-2
slice_bounds-finish-end-2 c =
    let t = lts_of c.args.system.now in
    let k = few t c.args.element_to_block.now c.args.state _ c.requires.valid.0 c.take-taken.ensures.fact_3.count in
    sym (length-take-le _ c.args.tree.now (omega (arith, c.requires.fact_2.1)))

pub finish-requires-clause-lists_bound : goal.finish-requires-clause-lists_bound
finish-requires-clause-lists_bound c =
    let a = c.args in
    let t = lts_of a.system.now in
    let q = c.take-taken in
    let k = few t a.element_to_block.now a.state _ c.requires.valid.0 q.ensures.fact_3.count in
    let o = set_few _ _ _ _ q.ensures.own_blocks_value in
    let r = few_outer t a.element_to_block.now (get_or a.element_to_block.now a.state 0) a.state in
    let w = c.requires.fact_2 in (
      omega (arith, c.requires.valid.0.few_rows),
      omega (arith, length-take-le (2 * q.result.lists) a.tree.now (omega (arith, w.1))),
      omega (arith, q.auto.own_labels),
      omega (arith, q.auto.own_blocks),
    )

pub finish-requires-clause-fact : goal.finish-requires-clause-fact
finish-requires-clause-fact c =
    let a = c.args in
    let t = lts_of a.system.now in
    let q = c.take-taken in
    let k = few t a.element_to_block.now a.state _ c.requires.valid.0 q.ensures.fact_3.count in
    let w = c.requires.fact_2.0 in (
      lists_ready t a.element_to_block.now a.state a.starts.now a.given_labels.now a.given_blocks.now c.requires.fact q.result.lists _ _ _ _
          q.ensures.fact_3 (omega (arith, q.auto.high)) (omega (arith, q.auto.low)) (omega (arith, q.auto.end_high))
          (omega (arith, q.auto.end_low)),
      set_ascending _ _ _ _ q.ensures.own_blocks_value,
    )

-- what was pushed, with the columns of the lists that are given
pushed-by :
    (own : List Pair) (pushed k : ℕ) (labels blocks high low end_high end_low : List ℕ)
    → pushed ≡ length own + left_in (heads [] [] high low end_high end_low) k
    → pushed ≡ length own + left_in (heads labels blocks high low end_high end_low) k
pushed-by own pushed k labels blocks high low end_high end_low e =
    e ∙ ap (λ (j : ℕ). length own + j) (left_alike labels blocks high low end_high end_low k)

pub finish-requires-clause-lists_bound_2 : goal.finish-requires-clause-lists_bound_2
finish-requires-clause-lists_bound_2 c =
    let a = c.args in
    let q = c.take-taken in
    let o = set_few _ _ _ _ q.ensures.own_blocks_value in
    let p = pushed-by _ _ _ a.given_labels.now a.given_blocks.now _ _ _ _ q.ensures.pushed_value in
    omega arith

pub returns : goal.returns
unfolding joint_set
returns c =
    let a = c.args in
    let t = lts_of a.system.now in
    let home = a.element_to_block.now in
    let works = a.own_labels.now ∷ a.own_blocks.now ∷ a.high.now ∷ a.low.now ∷ a.end_high.now ∷ a.end_low.now ∷ a.tree.now ∷ [] in
    let q = c.take-taken in
    let d = heads a.given_labels.now a.given_blocks.now q.new.high q.new.low q.new.end_high q.new.end_low in
    let k = few t home a.state _ c.requires.valid.0 q.ensures.fact_3.count in
    let count =
    pushed-by _ _ _ a.given_labels.now a.given_blocks.now _ _ _ _ q.ensures.pushed_value
    ∙ sorted_count t home a.state a.starts.now a.given_labels.now a.given_blocks.now _ _ _ _ _ q.ensures.fact_3 in
    let set =
    ap (λ (l : List Pair). add_all pair_lt l (merge_of d q.result.lists)) q.ensures.own_blocks_value
    ∙ sorted-set t home a.state a.starts.now a.given_labels.now a.given_blocks.now _ _ _ _ _ q.ensures.fact_3 in
    refinished _ _ _ _ _ _ _ c.finish.ensures works _
    (λ z. (
      z.0 ∙ ap zeros q.auto.own_labels,
      (
        z.1.0 ∙ ap zeros q.auto.own_blocks,
        (
          z.1.1.0 ∙ ap zeros q.auto.high,
          (
            z.1.1.1.0 ∙ ap zeros q.auto.low,
            (
              z.1.1.1.1.0 ∙ ap zeros q.auto.end_high,
              (
                z.1.1.1.1.1.0 ∙ ap zeros q.auto.end_low,
                (
                  lent-zero (2 * q.result.lists) a.tree.now _ (omega (arith, c.requires.fact_2.1)) c.requires.fact_2.2 z.1.1.1.1.1.1.0,
                  tt,
                ),
              ),
            ),
          ),
        ),
      ),
    ))
    ∙ ap₂ (λ (n : ℕ) (l : List Pair). finishing n l (a.labels.now, a.blocks.now) works) count set
