-- `left_in` meets its contract.
use Rattle.std.proofs.Common.{◌≡◌, ℕ, zero, suc, ◌+◌, ◌*◌, ◌<◌, ◌≤◌, List, [], map, get_or, refl, ◌∙◌, arith, rules}
use Rattle.std.specs.List.{range_with_len, sum_by}
use Rattle.std.proofs.lemmas.Iterator.{YieldsList-from_range, YieldsList-from_map}
use Rattle.std.proofs.lemmas.Iterator.Consumers.{sum_from_yields_List, fits_from_yields_list}
use Rattle.columns.specs.Counting.{sum}
use Rattle.std.proofs.lemmas.List.FromFn.{sum_by-map-range_with_len_more}
use native.Mathlib.Numerals.{add-one}
use Rattle.pairs_merge.specs.Merged.{heads, end_at, wide}
use Rattle.pairs_merge.specs.Rest.{left_of, left_in}
use Rattle.pairs_merge.proofs.left.left_in.Goals as goal

-- what a range gives, added up
sum_from : (f : ℕ → ℕ) (n : ℕ) → sum_by (λ x. x) (map f (range_with_len 0 n)) ≡ sum f n
unfolding sum
sum_from f zero = refl
sum_from f (suc n) =
    let more : sum_by (λ x. x) (map f (range_with_len 0 (suc n))) ≡ sum_by (λ x. x) (map f (range_with_len 0 n)) + f n
    = rw add-one at (sum_by-map-range_with_len_more (λ x. x) f 0 n n (omega arith)) in
    omega (arith, sum_from f n)

sum_few : (f : ℕ → ℕ) (n : ℕ) → ((k : ℕ) → f k < 4294967296) → sum f n ≤ n * 4294967296
unfolding sum
sum_few f zero h = omega arith
sum_few f (suc n) h = omega (arith, sum_few f n h, h n)

left_few : (high low end_high end_low : List ℕ) (j : ℕ) → get_or end_high j 0 < 65536 → get_or end_low j 0 < 65536
    → left_of (heads [] [] high low end_high end_low) j < 4294967296
unfolding left_of end_at wide
left_few high low end_high end_low j h l = omega arith

pub sum-requires-clause-fits : goal.sum-requires-clause-fits
sum-requires-clause-fits c =
    let a = c.args in
    let d = heads [] [] a.high.now a.low.now a.end_high.now a.end_low.now in
    fits_from_yields_list _ _
    (YieldsList-from_map _ (left_of d) (YieldsList-from_range 0 a.k a.k c.map.ensures.source (omega arith)) c.map.ensures.closure
    (λ x r q k. search rules))
    (omega (
      arith,
      sum_from (left_of d) a.k,
      sum_few (left_of d) a.k
          (λ j. left_few a.high.now a.low.now a.end_high.now a.end_low.now j (c.type_inv.end_high j).fits (c.type_inv.end_low j).fits),
    ))

pub returns : goal.returns
unfolding left_in
returns c =
    let a = c.args in
    let d = heads [] [] a.high.now a.low.now a.end_high.now a.end_low.now in
    let e =
    sum_from_yields_List _ _ c.sum.ensures.ran
    (YieldsList-from_map _ (left_of d) (YieldsList-from_range 0 a.k a.k c.map.ensures.source (omega arith)) c.map.ensures.closure
    (λ x r q k. search rules))
    ∙ sum_from (left_of d) a.k in
    let few = sum_few (left_of d) a.k
    (λ j. left_few a.high.now a.low.now a.end_high.now a.end_low.now j (c.type_inv.end_high j).fits (c.type_inv.end_low j).fits) in
    (e, omega arith)
