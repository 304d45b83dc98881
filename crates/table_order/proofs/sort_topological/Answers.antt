-- `sort_topological` meets its contract.
use Rattle.std.proofs.Common.{Bool, cond, [], sym, ap, ◌∙◌, refl}
use Rattle.columns.specs.Answers.{Refusal, none, said, done, refused}
use Rattle.columns.specs.Limits.{cyclic}
use Rattle.columns.proofs.Saying.{numbered}
use Rattle.table.specs.Lts.{lts_of}
use Rattle.table_order.proofs.Calls.{ready, refused_first, sorted_last}
use Rattle.table_order.proofs.sort_topological.Goals as goal

pub returns-in-Err : goal.returns-in-Err
returns-in-Err c =
    refused_first (lts_of c.args.system.now) c.args.hidden c.args.reversed _ _ _ _ c.in-Err.ensures _ (numbered _) (ap said c.refused.ensures)

pub sort_topological-requires-clause-valid : goal.sort_topological-requires-clause-valid
sort_topological-requires-clause-valid c =
    (ready (lts_of c.args.system.now) _ _ _ (sym (ap (λ (r : Refusal). r.number) c.in_default.ensures))).valid

pub sort_topological-requires-clause-n_in_bounds : goal.sort_topological-requires-clause-n_in_bounds
sort_topological-requires-clause-n_in_bounds c =
    let q = ready (lts_of c.args.system.now) _ _ _ (sym (ap (λ (r : Refusal). r.number) c.in_default.ensures)) in
    (q.result, q.marked, q.stacked)

pub returns-then-sort_topological : goal.returns-then-sort_topological
returns-then-sort_topological c =
    let e = c.sort_topological.ensures in
    sorted_last (lts_of c.args.system.now) c.args.hidden c.args.reversed _ _ _ none c.in_default.ensures _ refl _ _ _ _
    (ap said c.done.ensures ∙ ap (λ (b : Bool). cond b (done []) (refused cyclic 0)) (sym c.if-sort_topological.true)) e.value e.places_value
    e.cleared.0 e.cleared.1

pub returns-else-sort_topological : goal.returns-else-sort_topological
returns-else-sort_topological c =
    let e = c.sort_topological.ensures in
    sorted_last (lts_of c.args.system.now) c.args.hidden c.args.reversed _ _ _ none c.in_default.ensures _ refl _ _ _ _
    (ap said c.refused-else-sort_topological.ensures ∙ ap (λ (b : Bool). cond b (done []) (refused cyclic 0)) (sym c.if-sort_topological.false))
    e.value e.places_value e.cleared.0 e.cleared.1
