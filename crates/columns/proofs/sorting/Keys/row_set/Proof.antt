-- `row_set` meets its contract.
use borrow.Author.Rules.{rules}
use native.Mathlib.Omega.{arith}
use Prim.Native.Nat.{ℕ, ◌/◌}
use mathlib.Core.Path.{sym, ap, ◌∙◌}
use mathlib.Core.List.{List, ◌++◌, map}
use lib.ListN.{drop}
use lib.Seq.{length-take-le}
use Rattle.columns.specs.Columns.{over, wiped, cell}
use Rattle.columns.proofs.Lists.{wiped_front}
use Rattle.columns.proofs.RowSets.{lent, count_rows, first-column, second_column, third_column}
use Rattle.columns.proofs.sorting.Keys.row_set.Statement.{statement}
use Rattle.columns.proofs.sorting.Keys.row_set.Tie as tie

slice_bounds-pick_rows-end : tie.Need-slice_bounds-pick_rows-end
slice_bounds-pick_rows-end c = search rules

slice_bounds-pick_rows-end-2 : tie.Need-slice_bounds-pick_rows-end-2
slice_bounds-pick_rows-end-2 c = sym (length-take-le c.args.m
    c.args.order.now (omega arith))

pick_rows-r-requires : tie.Need-pick_rows-r-requires
pick_rows-r-requires c κs = (
  omega (
    arith,
    length-take-le c.args.m
        c.args.order.now
        c.requires.1.1.0,
  ),
  omega (
    arith,
    length-take-le c.args.m
        c.args.order.now
        c.requires.1.1.0,
  ),
)

slice_bounds-write_rows-end : tie.Need-slice_bounds-write_rows-end
slice_bounds-write_rows-end c =
    let g = c.args in
    let q = c.pick_rows-r in
    let k = lent g.m q.result g.self.now.first.now g.self.now.second.now g.self.now.third.now g.order.now q.new.order
    c.requires.1.1.0 q.ensures.0 q.ensures.1.0 q.auto.order in
    omega (arith, k.few, k.wide)

slice_bounds-write_rows-end-2 : tie.Need-slice_bounds-write_rows-end-2
slice_bounds-write_rows-end-2 c =
    let g = c.args in
    let q = c.pick_rows-r in
    let k = lent g.m q.result g.self.now.first.now g.self.now.second.now g.self.now.third.now g.order.now q.new.order
    c.requires.1.1.0 q.ensures.0 q.ensures.1.0 q.auto.order in
    sym (length-take-le q.result (q.new.order ++ drop g.m g.order.now) (omega (arith, k.few, k.wide)))

write_rows-requires : tie.Need-write_rows-requires
write_rows-requires c κs =
    let g = c.args in
    let q = c.pick_rows-r in
    let k = lent g.m q.result g.self.now.first.now g.self.now.second.now g.self.now.third.now g.order.now q.new.order
    c.requires.1.1.0 q.ensures.0 q.ensures.1.0 q.auto.order in
    let n = length-take-le q.result (q.new.order ++ drop g.m g.order.now) (omega (arith, k.few, k.wide)) in
    let v = c.requires.1.0 in
    (omega (arith, n, k.few, v.0), omega (arith, n, k.few, v.1), omega (arith, n, k.few, v.2))

slice_bounds-clear-end : tie.Need-slice_bounds-clear-end
slice_bounds-clear-end c = search rules

slice_bounds-clear-end-2 : tie.Need-slice_bounds-clear-end-2
slice_bounds-clear-end-2 c =
    let g = c.args in
    let q = c.pick_rows-r in
    let k = lent g.m q.result g.self.now.first.now g.self.now.second.now g.self.now.third.now g.order.now q.new.order
    c.requires.1.1.0 q.ensures.0
    q.ensures.1.0 q.auto.order in
    sym (length-take-le g.m (q.new.order ++ drop g.m g.order.now) k.wide)

clear-requires : tie.Need-clear-requires
clear-requires c κs = search rules

shape_of-x : tie.Need-shape_of-x
shape_of-x c = search rules

shape_of-y : tie.Need-shape_of-y
shape_of-y c = search rules

shape_of-z : tie.Need-shape_of-z
shape_of-z c = search rules

shape_of-order : tie.Need-shape_of-order
shape_of-order c = search rules

shape_of-spare : tie.Need-shape_of-spare
shape_of-spare c = search rules

returns : tie.Need-returns
returns c =
    let g = c.args in
    let q = c.pick_rows-r in
    let k = lent g.m q.result g.self.now.first.now g.self.now.second.now g.self.now.third.now g.order.now q.new.order
    c.requires.1.1.0
    q.ensures.0 q.ensures.1.0 q.auto.order in
    let h = c.requires.0 in
    let w = c.write_rows.ensures in (
      k.count ∙ count_rows g.m g.self.now.first.now g.self.now.second.now g.self.now.third.now h.0 h.1 h.2,
      (
        w.0 ∙ ap (λ (t : List ℕ). over (map (cell g.self.now.first.now) t) g.x.now) k.front ∙
            ap (λ (t : List ℕ). over t g.x.now) (first-column g.m g.self.now.first.now g.self.now.second.now g.self.now.third.now h.0 h.1 h.2),
        (
          w.1.0 ∙ ap (λ (t : List ℕ). over (map (cell g.self.now.second.now) t) g.y.now) k.front ∙
              ap (λ (t : List ℕ). over t g.y.now) (second_column g.m g.self.now.first.now g.self.now.second.now g.self.now.third.now h.0 h.1 h.2),
          (
            w.1.1 ∙ ap (λ (t : List ℕ). over (map (cell g.self.now.third.now) t) g.z.now) k.front ∙
                ap (λ (t : List ℕ). over t g.z.now) (third_column g.m g.self.now.first.now g.self.now.second.now g.self.now.third.now h.0 h.1 h.2),
            (
              wiped_front g.m g.order.now (q.new.order ++ drop g.m g.order.now)
                  c.clear.new.a k.wide c.clear.ensures k.rest,
              q.ensures.1.1 ∙ ap (λ (i : ℕ). wiped (i / 2) g.spare.now)
                  (length-take-le g.m g.order.now
                  c.requires.1.1.0),
            ),
          ),
        ),
      ),
    )

pub row_set_spec : {M : Type 1} → statement M
row_set_spec =
    tie.close
    (tie.spec
    slice_bounds-pick_rows-end
    slice_bounds-pick_rows-end-2
    pick_rows-r-requires
    slice_bounds-write_rows-end
    slice_bounds-write_rows-end-2
    write_rows-requires
    slice_bounds-clear-end
    slice_bounds-clear-end-2
    clear-requires
    shape_of-x
    shape_of-y
    shape_of-z
    shape_of-order
    shape_of-spare
    returns)
