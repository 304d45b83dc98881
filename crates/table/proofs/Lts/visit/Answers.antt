-- `visit` meets its contract.
use Rattle.std.proofs.Common.{ℕ, get_or, sym, ap, ◌∙◌, arith}
use Rattle.columns.proofs.Bools.{contra}
use Rattle.table.specs.Reach.{edge}
use Rattle.table.proofs.Searching.{visit_start, visit_skip, visit_append, visit_room, visit_end, search_few}
use Rattle.table.proofs.RowsOf.{rows_from, own_row_in}
use Rattle.table.proofs.Stretches.{rising}
use Rattle.table.proofs.Lts.visit.Goals as goal
use Rattle.table.proofs.Lts.visit.Goals.{then-taken, else-taken}

pub at-s-requires : goal.at-s-requires
at-s-requires c = omega (arith, search_few _ _ _ _ _ _ _ c.requires.fact)

pub rows_at-rows-requires-clause-m_in_bounds : goal.rows_at-rows-requires-clause-m_in_bounds
rows_at-rows-requires-clause-m_in_bounds c =
    let v = c.requires.valid.0 in
    (v.long.source, rising _ v, c.at-s.ensures.1)

pub loop-i-init : goal.loop-i-init
unfolding edge
loop-i-init c =
    let v = c.requires.valid.0 in
    let run = rows_from _ v _ _ _ c.rows_at-rows.ensures.0 c.rows_at-rows.ensures.1 in
    visit_start _ _ _ _ _ (λ i l. (v.fields i l).target) _ _ _ _ _ _ _ _ run.stretch c.requires.fact c.requires.valid.1 (sym c.at-s.ensures.0)

pub taken-requires : goal.taken-requires
taken-requires c =
    let v = c.requires.valid.0 in
    let run = rows_from _ v _ _ _ c.rows_at-rows.ensures.0 c.rows_at-rows.ensures.1 in
    omega (arith, run.most, v.long.label)

pub at-requires : goal.at-requires
at-requires c =
    let v = c.requires.valid.0 in
    let run = rows_from _ v _ _ _ c.rows_at-rows.ensures.0 c.rows_at-rows.ensures.1 in
    omega (arith, run.most, v.long.target)

pub append-high-requires : goal.append-high-requires
append-high-requires c =
    let v = c.requires.valid.0 in
    let run = rows_from _ v _ _ _ c.rows_at-rows.ensures.0 c.rows_at-rows.ensures.1 in
    let o = own_row_in run c.loop-i.i c.loop-i.auto.i c.loop-i-test.true in
    let s = c.loop-i.invariant.search in (
      omega (arith, c.at.ensures.0, (v.fields c.loop-i.i o.below).target, s.size),
      c.at.ensures.1,
      omega (arith, search_few _ _ _ _ _ _ _ s, v.few_states),
      λ z.
          omega (
            arith,
            visit_room _ _ _ _ _ (λ i l. (v.fields i l).target) _ _ _ _ _ _ _ _ _ c.loop-i.invariant o.below o.own
                (sym c.taken.ensures ∙ c.if-taken.true)
                (sym (ap (λ (y : ℕ). get_or c.loop-i.marks y 0) c.at.ensures.0) ∙ z),
            s.room,
          ),
    )

pub loop-i-preserved : goal.loop-i-preserved
loop-i-preserved c =
    let v = c.requires.valid.0 in
    let run = rows_from _ v _ _ _ c.rows_at-rows.ensures.0 c.rows_at-rows.ensures.1 in
    let o = own_row_in run c.loop-i.i c.loop-i.auto.i c.loop-i-test.true in
    elim c.if-taken.branch [
      | then-taken b ↦ visit_append _ _ _ _ _ (λ i l. (v.fields i l).target) _ _ _ _ _ _ _ _ _ c.loop-i.invariant o.below o.own
          (sym c.taken.ensures ∙ b.if-taken.true) _ _ _ cc
      | else-taken b ↦
          rw (b.marks-is, b.queue-is, b.high-is)
          (visit_skip _ _ _ _ _ (λ i l. (v.fields i l).target) _ _ _ _ _ _ _ _ _ c.loop-i.invariant
          (λ e. absurd (contra e (sym c.taken.ensures ∙ b.if-taken.false))))
    ]

pub returns : goal.returns
unfolding edge
returns c =
    let v = c.requires.valid.0 in
    let run = rows_from _ v _ _ _ c.rows_at-rows.ensures.0 c.rows_at-rows.ensures.1 in
    visit_end _ _ _ _ _ (λ i l. (v.fields i l).target) _ _ _ _ _ _ _ _ _ c.loop-i.invariant _ _ run.stretch (omega (arith, run.up))
