-- `number_all` meets its contract.
use Rattle.std.proofs.Common.{ℕ, sym, ap, ◌∙◌, arith}
use Rattle.columns.specs.Columns.{listed}
use Rattle.columns.proofs.Counting.{many-none}
use Rattle.columns.proofs.Lists.{listed_const}
use Rattle.quotient_components.proofs.Numbering.{
  counts_few,
  number_none,
  fresh_leads,
  known_follows,
  number_skip,
  count_skip,
  count_more,
  number_done,
  count_done,
}
use Rattle.quotient_components.proofs.cores.number_all.Goals as goal
use Rattle.quotient_components.proofs.cores.number_all.Goals.{then-at-n, else-at-n}

pub loop-s-init : goal.loop-s-init
loop-s-init c = record {
  numbered = number_none _ c.requires.turned_with_starts.rows.given _
      (c.fill.ensures.after (λ y e. e) ∙ sym (listed_const _ _)
      ∙ ap (λ (k : ℕ). listed k (λ _. c.args.system.now.table.n)) c.requires.numbers_len.0);
  counted = sym (many-none _);
}

pub overflow_cast-count : goal.overflow_cast-count
overflow_cast-count c =
    omega (arith, counts_few _ _ _ c.loop-s.invariant.counted, c.requires.turned_with_starts.rows.given.few_states)

pub overflow_add-count : goal.overflow_add-count
overflow_add-count c =
    omega (arith, counts_few _ _ _ c.loop-s.invariant.counted, c.requires.turned_with_starts.rows.given.few_states)

pub loop-s-preserved : goal.loop-s-preserved
loop-s-preserved c =
    let v = c.requires.turned_with_starts.rows.given in
    let i = c.loop-s.invariant in
    elim c.if-at-n.branch [
      | then-at-n w ↦
          let e = fresh_leads _ v _ c.loop-s-test.true _ i.numbered _ c.at.ensures.0 w.if-at-n.true in
          record { numbered = w.numbers-is ∙ w.number_one.ensures; counted = w.count-is ∙ count_more _ v _ _ e i.counted }
      | else-at-n w ↦
          let e = known_follows _ v _ c.loop-s-test.true _ i.numbered _ c.at.ensures.0 w.if-at-n.false in
          record { numbered = w.numbers-is ∙ number_skip _ v _ e _ i.numbered; counted = w.count-is ∙ count_skip _ v _ e _ i.counted }
    ]

pub returns-clause-value : goal.returns-clause-value
returns-clause-value c = count_done _ c.requires.turned_with_starts.rows.given _ _ (omega arith) c.loop-s.invariant.counted

pub returns-clause-numbers_value : goal.returns-clause-numbers_value
returns-clause-numbers_value c = number_done _ c.requires.turned_with_starts.rows.given _ _ (omega arith) c.loop-s.invariant.numbered
