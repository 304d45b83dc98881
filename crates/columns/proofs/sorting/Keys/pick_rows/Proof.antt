-- `pick_rows` meets its contract.
use borrow.Author.Rules.{rules}
use Prim.Native.Nat.{ℕ, ◌/◌}
use mathlib.Core.Path.{◌≡◌, ap, ◌∙◌}
use mathlib.Core.List.{List}
use lib.ListN.{length}
use Rattle.columns.specs.Columns.{listed, over, wiped, sort_by}
use Rattle.columns.specs.Rows.{firsts_by, pick_rows, picked}
use Rattle.columns.proofs.sorting.Keys.pick_rows.Statement.{statement}
use Rattle.columns.proofs.sorting.Keys.pick_rows.Tie as tie

count_up-requires : tie.Need-count_up-requires
count_up-requires c κs = search rules

sort-requires : tie.Need-sort-requires
sort-requires c κs = search rules

distinct-requires : tie.Need-distinct-requires
distinct-requires c κs = search rules

shape_of-order : tie.Need-shape_of-order
shape_of-order c = search rules

shape_of-spare : tie.Need-shape_of-spare
shape_of-spare c = search rules

returns : tie.Need-returns
unfolding pick_rows picked
returns c =
    let a = c.args.self.now.first.now in
    let b = c.args.self.now.second.now in
    let d = c.args.self.now.third.now in
    let e : c.sort.new.order ≡ sort_by a b d
    (listed (length
    c.args.order.now) (λ k. k)) =
    c.sort.ensures.0 ∙
    ap (sort_by a b d)
    c.count_up.ensures in (
      c.distinct.ensures.0 ∙ ap (λ (l : List ℕ). length (firsts_by a b d l)) e,
      (
        c.distinct.ensures.1 ∙ ap (λ (l : List ℕ). over (firsts_by a b d l) l) e,
        c.sort.ensures.1 ∙
            ap (λ (n : ℕ). wiped (n / 2)
            c.args.spare.now)
            c.count_up.auto.a,
      ),
    )

pub pick_rows_spec : {M : Type 1} → statement M
pick_rows_spec =
    tie.close
    (tie.spec count_up-requires sort-requires distinct-requires shape_of-order shape_of-spare returns)
