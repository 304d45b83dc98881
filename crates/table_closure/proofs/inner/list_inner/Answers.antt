-- `list_inner` meets its contract.
use Rattle.std.proofs.Common.{List, ℕ, ◌≤◌, length, get_or, ap, ◌∙◌, arith}
use lib.Seq.{length-take-le}
use Rattle.columns.specs.Columns.{wiped}
use Rattle.columns.proofs.Lists.{wiped-zeros, zeros_at}
use Rattle.table_closure.proofs.Inners.{inner_sorted}
use Rattle.table_closure.proofs.inner.list_inner.Goals as goal

pub returns-clause-fact_2 : goal.returns-clause-fact_2
returns-clause-fact_2 c =
    let r = c.requires.fact in
    let q = c.list_states-h in
    let few = q.ensures.fact_2.1 in
    inner_sorted _ r.0 _ _ _ _ _ r.2 q.new.order _ q.result (omega (arith, few, q.auto.order, c.requires.m_in_bounds.0)) few q.ensures.fact_2.0
    c.sort.ensures.order_value
    (λ k w. q.ensures.by_index k w ∙ ap (λ (l : List ℕ). get_or l k 0) c.requires.clear.0 ∙ zeros_at (length c.args.order.now) k)

pub returns-clause-cleared : goal.returns-clause-cleared
returns-clause-cleared c =
    let q = c.list_states-h in
    let few = q.ensures.fact_2.1 in
    let fits : q.result ≤ length q.new.order = omega (arith, few, q.auto.order, c.requires.m_in_bounds.0) in
    c.sort.ensures.spare_value ∙ ap (wiped _) c.requires.clear.1
    ∙ wiped-zeros _ (length c.args.spare.now) (omega (arith, length-take-le q.result q.new.order fits, few, c.requires.m_in_bounds.1))
