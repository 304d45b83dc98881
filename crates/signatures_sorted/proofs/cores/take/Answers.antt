-- `take` meets its contract.
use Rattle.std.proofs.Common.{ℕ, ◌+◌, length, ap, ap₂, ◌∙◌, arith}
use Rattle.signatures_branching.specs.Branching.{outer_pairs}
use Rattle.signatures.specs.Pairs.{signature}
use Rattle.signatures_sorted.proofs.Openings.{few_inner}
use Rattle.signatures_sorted.proofs.Pushed.{few_rows, few_outer, pushed_pairs, pushed_count, set-pairs}
use Rattle.table.specs.Lts.{lts_of}
use Rattle.signatures_sorted.proofs.cores.take.Goals as goal

pub push_outer-d-requires-clause-fact : goal.push_outer-d-requires-clause-fact
push_outer-d-requires-clause-fact c =
    let t = lts_of c.args.system.now in
    let f = few_outer t c.args.element_to_block.now c.at.result c.args.state in
    let p = c.requires.fact_2 in
    let m = few_rows t c.args.state in
    (omega arith, omega arith, omega (arith, c.requires.fact.0.few_rows))

pub flatten-own-requires-clause-d_in_bounds : goal.flatten-own-requires-clause-d_in_bounds
flatten-own-requires-clause-d_in_bounds c =
    let t = lts_of c.args.system.now in
    let f = few_outer t c.args.element_to_block.now c.at.result c.args.state in
    let d = pushed_count _ _ _ _ _ _ c.push_outer-d.ensures.pushed_blocks_value in
    let p = c.requires.fact_2 in
    (omega arith, omega arith, omega arith, omega arith)

pub flatten-own-requires-clause-d_in_bounds_2 : goal.flatten-own-requires-clause-d_in_bounds_2
flatten-own-requires-clause-d_in_bounds_2 c =
    let t = lts_of c.args.system.now in
    let f = few_outer t c.args.element_to_block.now c.at.result c.args.state in
    let d = pushed_count _ _ _ _ _ _ c.push_outer-d.ensures.pushed_blocks_value in
    let p = c.requires.fact_2 in
    let m = few_rows t c.args.state in
    (omega arith, omega arith, omega (arith, c.requires.fact.0.few_rows))

pub left_in-requires : goal.left_in-requires
left_in-requires c =
    let t = lts_of c.args.system.now in
    let k = few_inner t c.args.element_to_block.now c.args.state in
    let e = c.open_lists-lists.ensures.fact_3.count in
    let p = c.requires.fact_2 in
    let m = few_rows t c.args.state in
    (omega arith, omega arith, omega arith, omega arith, omega (arith, c.requires.fact.0.few_rows))

pub overflow_add-result : goal.overflow_add-result
overflow_add-result c =
    let t = lts_of c.args.system.now in
    let f = few_outer t c.args.element_to_block.now c.at.result c.args.state in
    let d = pushed_count _ _ _ _ _ _ c.push_outer-d.ensures.pushed_blocks_value in
    let k = few_inner t c.args.element_to_block.now c.args.state in
    let e = c.open_lists-lists.ensures.fact_3.count in
    let m = few_rows t c.args.state in
    omega (arith, c.left_in.ensures.1, c.requires.fact.0.few_rows)

pub returns-clause-own_blocks_value : goal.returns-clause-own_blocks_value
returns-clause-own_blocks_value c =
    let a = c.args in
    let f = c.flatten-own.ensures in
    set-pairs _ _ _ _ a.own_labels.now a.own_blocks.now f.value f.blocks_value
    ∙ ap signature
    (pushed_pairs _ _ _ _ _ _ c.push_outer-d.ensures.pushed_blocks_value
    ∙ ap (λ (b : ℕ). outer_pairs (lts_of a.system.now) a.element_to_block.now b a.state) c.at.ensures.0)

pub returns-clause-pushed_value : goal.returns-clause-pushed_value
returns-clause-pushed_value c =
    let a = c.args in
    ap₂ (λ (x y : ℕ). x + y)
    (pushed_count _ _ _ _ _ _ c.push_outer-d.ensures.pushed_blocks_value
    ∙ ap (λ (b : ℕ). length (outer_pairs (lts_of a.system.now) a.element_to_block.now b a.state)) c.at.ensures.0)
    c.left_in.ensures.0
