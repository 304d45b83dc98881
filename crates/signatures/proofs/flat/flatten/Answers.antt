-- `flatten` meets its contract: the numbers picked name the pairs of the signature.
use Rattle.std.proofs.Common.{ℕ, ◌/◌, ◌++◌, drop, sym, ap, ◌∙◌, arith}
use lib.Seq.{length-take-le}
use Rattle.columns.specs.Columns.{wiped}
use Rattle.columns.proofs.Lists.{wiped_front}
use Rattle.columns.proofs.RowSets.{lent}
use Rattle.signatures.proofs.Picks.{picked_count, picked-over}
use Rattle.signatures.proofs.flat.flatten.Goals as goal

pub slice_bounds-write_pairs-end : goal.slice_bounds-write_pairs-end
slice_bounds-write_pairs-end c =
    let q = c.pick_rows-r in
    let k = lent _ _ _ _ _ _ _ c.requires.d_in_bounds_2.0 q.ensures.value q.ensures.order_value q.auto.order in
    omega (arith, k.few, k.wide)

pub slice_bounds-write_pairs-end-2 : goal.slice_bounds-write_pairs-end-2
slice_bounds-write_pairs-end-2 c =
    let q = c.pick_rows-r in
    let k = lent _ _ _ _ _ _ _ c.requires.d_in_bounds_2.0 q.ensures.value q.ensures.order_value q.auto.order in
    sym (length-take-le _ _ (omega (arith, k.few, k.wide)))

pub write_pairs-requires : goal.write_pairs-requires
write_pairs-requires c =
    let q = c.pick_rows-r in
    let k = lent _ _ _ _ _ _ _ c.requires.d_in_bounds_2.0 q.ensures.value q.ensures.order_value q.auto.order in
    let n = length-take-le q.result (q.new.order ++ drop c.args.d c.args.order.now) (omega (arith, k.few, k.wide)) in
    (omega (arith, n, k.few), omega (arith, n, k.few))

pub returns : goal.returns
returns c =
    let a = c.args in
    let q = c.pick_rows-r in
    let h = c.requires.d_in_bounds in
    let w = c.write_pairs.ensures in
    let k = lent _ _ _ _ _ _ _ c.requires.d_in_bounds_2.0 q.ensures.value q.ensures.order_value q.auto.order in
    record {
      value = k.count ∙ picked_count a.d _ _ h.0 h.1;
      blocks_value = picked-over a.d _ _ h.0 h.1 _ _ _ _ _ k.front w.0 w.1;
      order_value = (
        wiped_front a.d a.order.now _ _ k.wide c.clear.ensures k.rest,
        q.ensures.spare_value ∙ ap (λ (i : ℕ). wiped (i / 2) a.spare.now) (length-take-le a.d a.order.now c.requires.d_in_bounds_2.0),
      );
    }
