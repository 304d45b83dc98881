-- `strong_reduction` meets its contract.
use Rattle.std.proofs.Common.{◌≡◌, ℕ, List, [], ◌∷◌, get_or, sym, ap, refl, ◌∙◌, arith}
use lib.Seq.{length-take-le}
use Rattle.columns.specs.Answers.{none, done}
use Rattle.reduction.specs.Answers.{said_reduction}
use Rattle.columns.proofs.Lists.{over_front}
use Rattle.columns.proofs.Parts.{length_fronted}
use Rattle.columns.proofs.Saying.{left_refused, left_done, numbered}
use Rattle.reduction.specs.Reducing.{reduction_refusal, reduction_left}
use Rattle.reduction.specs.Reducing.{strong_reduction, Ready}
use Rattle.reduction.proofs.Entries.{ready_of, length-blocks, blocks-over, few_blocks, few_rows}
use Rattle.refinement_strong.specs.Reduction.{strong_blocks}
use Rattle.table.specs.Lts.{Lts, lts_of, Valid}
use Rattle.reduction.proofs.strong_reduction.Goals as goal

-- a call that has passed the checks
ready : {results works : List ℕ} {block : ℕ} (t : Lts) → none ≡ reduction_refusal t results block works → Ready t results block works
ready t e = ready_of t _ _ _ none e refl

pub returns-in-Err : goal.returns-in-Err
unfolding strong_reduction
returns-in-Err c = left_refused _ _ c.in-Err.ensures _ _ _ _ (numbered _) (ap said_reduction c.refused.ensures)

pub slice_bounds-reduce-end : goal.slice_bounds-reduce-end
slice_bounds-reduce-end c = (ready (lts_of c.args.system.now) c.in_default.ensures).long

pub slice_bounds-reduce-end-2 : goal.slice_bounds-reduce-end-2
slice_bounds-reduce-end-2 c = sym (length-take-le _ c.args.block.now (ready (lts_of c.args.system.now) c.in_default.ensures).long)

pub reduce-r-requires-clause-valid : goal.reduce-r-requires-clause-valid
reduce-r-requires-clause-valid c =
    let q = ready (lts_of c.args.system.now) c.in_default.ensures in
    (q.valid, length-take-le _ c.args.block.now q.long)

pub reduce-r-requires-clause-each_long : goal.reduce-r-requires-clause-each_long
reduce-r-requires-clause-each_long c = (ready (lts_of c.args.system.now) c.in_default.ensures).fits

pub reduce-r-requires-clause-fact : goal.reduce-r-requires-clause-fact
reduce-r-requires-clause-fact c =
    let w = (ready (lts_of c.args.system.now) c.in_default.ensures).wide in
    (w.0, (w.1.0, (w.1.1.0, (w.1.1.1.0, (w.1.1.1.1.0, (w.1.1.1.1.1.0, tt))))))

pub reduce-r-requires-clause-each_long_2 : goal.reduce-r-requires-clause-each_long_2
reduce-r-requires-clause-each_long_2 c = (ready (lts_of c.args.system.now) c.in_default.ensures).wide.1.1.1.1.1.1

-- the numbers of blocks and of rows fit a cell
pub overflow_cast-table : goal.overflow_cast-table
overflow_cast-table c =
    let t = lts_of c.args.system.now in
    omega (arith, c.reduce-r.ensures.fact_2.0, few_blocks t (ready t c.in_default.ensures).valid)

pub overflow_cast-table-2 : goal.overflow_cast-table-2
overflow_cast-table-2 c =
    let t = lts_of c.args.system.now in
    omega (arith, c.reduce-r.ensures.fact_2.1, few_rows t (ready t c.in_default.ensures).valid)

-- the block column is as long as before
pub bounds-block-system : goal.bounds-block-system
bounds-block-system c =
    let q = ready (lts_of c.args.system.now) c.in_default.ensures in
    omega (arith, q.valid.initial, q.long, length_fronted _ c.args.block.now c.reduce-r.new.block q.long c.reduce-r.auto.block)

valid : (c : goal.After-done) → Valid (lts_of c.args.system.now)
valid c = (ready (lts_of c.args.system.now) c.in_default.ensures).valid

pub returns : goal.returns
unfolding strong_reduction reduction_left
returns c =
    let t = lts_of c.args.system.now in
    let start = c.args.system.now.table.initial in
    let column = c.args.block.now in
    let v = valid c in
    let q = c.reduce-r.ensures in
    let blocks = blocks-over t column c.reduce-r.new.block q.fact_3.0 in
    let first = ap (λ (l : List ℕ). get_or l start 0) blocks ∙ over_front (strong_blocks t) column start (omega (arith, length-blocks t, v.initial)) in
    left_done _ none c.in_default.ensures _ _ _ _ _ refl
    (ap said_reduction c.done.ensures ∙ (λ i. done (q.fact_2.0 i ∷ t.labels ∷ q.fact_2.1 i ∷ first i ∷ q.fact_2.2 i ∷ [])))
    (λ i. (
      q.fact_3.1 i,
      (
        blocks i,
        q.cleared.0 i ∷ q.cleared.1 i ∷ q.cleared.2 i ∷ q.cleared.3 i ∷ q.cleared.4 i
            ∷ q.cleared_2.0 i ∷ q.cleared_2.1 i ∷ q.cleared_2.2 i ∷ q.cleared_2.3 i ∷ q.cleared_2.4 i ∷ [],
      ),
    ))
