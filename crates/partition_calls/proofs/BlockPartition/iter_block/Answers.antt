-- `iter_block` meets its contract.
use Rattle.std.proofs.Common.{◌≡◌, ℕ, ◌+◌, ◌*◌, true, false, Result, Ok, Err, refl, ap, arith}
use Rattle.std.specs.Borrow.{Bor}
use Rattle.std.specs.Result.{is_err}
use Rattle.std.specs.Prelude.{List}
use Rattle.columns.specs.Answers.{checked}
use Rattle.columns.specs.declared.answers.Refusal as code
use Rattle.columns.proofs.Saying.{numbered}
use Rattle.partition.specs.Checks.{block_refusal}
use Rattle.partition.specs.Partition.{Partition, parts}
use Rattle.partition.proofs.Refusals.{ArgumentReady, argument_ready}
use Rattle.partition.proofs.Stretches.{iter_refused, iter_done, begin_refused, begin_done}
use Rattle.partition_calls.proofs.BlockPartition.iter_block.Goals as goal

-- a check that is asked only whether it refuses
refuses : (r : Result (Unit {0}) code.Refusal) → is_err r ≡ true → (checked r).number ≡ 0 → ⊥
refuses (Ok u) e = absurd cc
refuses (Err x) e = numbered x

passes : (r : Result (Unit {0}) code.Refusal) → is_err r ≡ false → (checked r).number ≡ 0
passes (Ok u) e = refl
passes (Err x) e = absurd cc

ready :
    (p : Partition) (b : ℕ) (r : Result (Unit {0}) code.Refusal) → checked r ≡ block_refusal p b → is_err r ≡ false
    → ArgumentReady p b p.count true
ready p b r e f = argument_ready p b p.count true (checked r) e (passes r f)

-- where cell k of a lent column lies
abbrev Place : Bor (List ℕ) → ℕ → ℕ × ℕ
Place x k = (x.ref_ptr.0, k * 2 + x.ref_ptr.1)

pub returns-then-is_err-clause-result_value : goal.returns-then-is_err-clause-result_value
returns-then-is_err-clause-result_value c =
    let g = c.args in
    let p = parts g.elements.now g.element_offset.now g.element_to_block.now g.begin.now g.marked_split.now g.end.now g.self.n g.self.count in
    iter_refused p c.args.block_index _ c.check_block.ensures (refuses _ cc)

pub returns-then-is_err-clause-fact : goal.returns-then-is_err-clause-fact
returns-then-is_err-clause-fact c =
    let g = c.args in
    let p = parts g.elements.now g.element_offset.now g.element_to_block.now g.begin.now g.marked_split.now g.end.now g.self.n g.self.count in
    ap (Place c.args.elements) (begin_refused p c.args.block_index _ c.check_block.ensures (refuses _ cc))

pub at-requires : goal.at-requires
at-requires c =
    let g = c.args in
    let p = parts g.elements.now g.element_offset.now g.element_to_block.now g.begin.now g.marked_split.now g.end.now g.self.n g.self.count in
    let q = ready p c.args.block_index _ c.check_block.ensures cc in
    omega (arith, q.known, q.sound.consistent.most, q.sound.long.begin)

pub at-requires-2 : goal.at-requires-2
at-requires-2 c =
    let g = c.args in
    let p = parts g.elements.now g.element_offset.now g.element_to_block.now g.begin.now g.marked_split.now g.end.now g.self.n g.self.count in
    let q = ready p c.args.block_index _ c.check_block.ensures cc in
    omega (arith, q.known, q.sound.consistent.most, q.sound.long.end)

pub slice_bounds-result-count-2 : goal.slice_bounds-result-count-2
slice_bounds-result-count-2 c =
    let g = c.args in
    let p = parts g.elements.now g.element_offset.now g.element_to_block.now g.begin.now g.marked_split.now g.end.now g.self.n g.self.count in
    let q = ready p c.args.block_index _ c.check_block.ensures cc in
    let w = q.sound.consistent.bounds c.args.block_index q.known in
    omega (arith, w, c.at.ensures, c.at-2.ensures)

pub slice_bounds-result-start-2 : goal.slice_bounds-result-start-2
slice_bounds-result-start-2 c =
    let g = c.args in
    let p = parts g.elements.now g.element_offset.now g.element_to_block.now g.begin.now g.marked_split.now g.end.now g.self.n g.self.count in
    let q = ready p c.args.block_index _ c.check_block.ensures cc in
    let w = q.sound.consistent.bounds c.args.block_index q.known in
    omega (arith, w, c.at.ensures, c.at-2.ensures)

pub slice_bounds-result-end-2 : goal.slice_bounds-result-end-2
slice_bounds-result-end-2 c =
    let g = c.args in
    let p = parts g.elements.now g.element_offset.now g.element_to_block.now g.begin.now g.marked_split.now g.end.now g.self.n g.self.count in
    let q = ready p c.args.block_index _ c.check_block.ensures cc in
    let w = q.sound.consistent.bounds c.args.block_index q.known in
    omega (arith, w, q.sound.long.elements, c.at-2.ensures)

pub returns-clause-result_value : goal.returns-clause-result_value
returns-clause-result_value c =
    let g = c.args in
    let p = parts g.elements.now g.element_offset.now g.element_to_block.now g.begin.now g.marked_split.now g.end.now g.self.n g.self.count in
    iter_done p c.args.block_index _ c.check_block.ensures (passes _ cc) _ _ c.at.ensures.0 c.at-2.ensures.0

pub returns-clause-fact : goal.returns-clause-fact
returns-clause-fact c =
    let g = c.args in
    let p = parts g.elements.now g.element_offset.now g.element_to_block.now g.begin.now g.marked_split.now g.end.now g.self.n g.self.count in
    ap (Place c.args.elements)
    (begin_done p c.args.block_index _ c.check_block.ensures (passes _ cc) _ c.at.ensures.0)
