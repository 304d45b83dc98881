-- `first_row` meets its contract.
use borrow.Author.Tests.{ltb-true, ltb-false}
use Rattle.std.proofs.Common.{rules, of_calls, ◌≡◌, ◌<◌, ◌≤◌, ℕ, take, get_or, nat_lt, arith}
use lib.Seq.{length-take-le}
use Rattle.std.proofs.lemmas.Fn.{always_returns_same}
use Rattle.std.proofs.lemmas.List.{get_or-take}
use Rattle.std.proofs.lemmas.List.Sorted.{IsNonDecreasingBy-from_default, IsPartitionedBy-ltb}
use Rattle.table.proofs.RowsOf.{first_row_is}
use Rattle.table.proofs.cores.first_row.Goals as goal

pub returns : goal.returns
returns c =
    let l = c.args.source.now in
    let m = c.args.m in
    let s = c.args.s in
    let front = take m l in
    let size = length-take-le m l c.requires.0 in
    let cell : (i : ℕ) → i < m → get_or front i 0 ≡ get_or l i 0 = λ i h. get_or-take m l i 0 h in
    let rising =
    IsNonDecreasingBy-from_default (λ (x : ℕ). x) front 0
    (λ i j h k. omega (arith, c.requires.1 i j h (omega (arith, size, k)), cell i (omega (arith, size, h, k)), cell j (omega (arith, size, k)))) in
    let point =
    c.partition_point.ensures.partitioned (λ x. nat_lt x s) (always_returns_same _ _ _ (λ a r f k. search (rules, of_calls)))
    (IsPartitionedBy-ltb (λ (x : ℕ). x) front s rising) in
    let bound : c.partition_point.result ≤ m = omega (arith, size, c.partition_point.ensures.bound) in
    first_row_is l m s c.partition_point.result bound
    (λ i h. omega (arith, cell i (omega (arith, bound, h)), ltb-true _ _ (point.0 i 0 (omega arith) h)))
    (λ i h k. omega (arith, cell i k, ltb-false _ _ (point.1 i 0 h (omega (arith, size, k)))))
