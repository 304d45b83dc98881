-- `open_lists` meets its contract.
use Rattle.std.proofs.Common.{◌≡◌, ℕ, ◌+◌, ◌&&◌, Bool, true, get_or, sym, ap, ◌∙◌, List, arith}
use mathlib.Core.Path.{ap₂}
use Rattle.columns.proofs.Bools.{and_no_left}
use Rattle.columns.proofs.Counting.{many-le, many_strict}
use Rattle.pairs.specs.Lists.{start_at}
use Rattle.table.specs.Hidden.{hidden_in}
use Rattle.table.specs.Lts.{Lts, lts_of}
use Rattle.table.proofs.RowsOf.{own_row, rows_from}
use Rattle.table.proofs.Stretches.{rising}
use Rattle.signatures_sorted.specs.Taking.{inner_row, inner_targets}
use Rattle.signatures_sorted.proofs.Pushed.{own_few}
use Rattle.signatures_sorted.proofs.Turning.{opening_start, opening_more, opening_pass, opening_done}
use Rattle.signatures_sorted.proofs.opening.open_lists.Goals as goal
use Rattle.signatures_sorted.proofs.opening.open_lists.Goals.{then-hidden_in, else-hidden_in}

-- a row of s is tested as the definition does it
inner_is : (t : Lts) (home : List ℕ) (s i b : ℕ) (h : Bool) → own_row t s i ≡ true → b ≡ get_or home s 0
    → h ≡ hidden_in t.label t.target home b i → inner_row t home s i ≡ h
unfolding inner_row
inner_is t home s i b h o eb e =
    ap₂ (λ (x : Bool) (y : ℕ). x && hidden_in t.label t.target home y i) o (sym eb) ∙ sym e

pub rows_of-rows-requires : goal.rows_of-rows-requires
rows_of-rows-requires c =
    let a = c.args in (
      c.requires.fact.0.long.source,
      rising (lts_of a.system.now) c.requires.fact.0,
      omega (arith, c.requires.fact.0.few_states),
    )

pub loop-i-init : goal.loop-i-init
unfolding inner_row
loop-i-init c =
    let a = c.args in
    let from =
    rows_from (lts_of a.system.now) c.requires.fact.0 a.state _ _ c.rows_of-rows.ensures.0
    c.rows_of-rows.ensures.1 in
    record { rows = from; opened = opening_start from.up (λ r l. and_no_left _ _ (from.before r l)) }

pub open-requires-clause-j_in_bounds : goal.open-requires-clause-j_in_bounds
unfolding inner_row
open-requires-clause-j_in_bounds c =
    let a = c.args in
    let i = c.loop-i.invariant in
    let t = lts_of a.system.now in
    let o = i.rows.own c.loop-i.i (omega arith) (omega arith) in
    let p = inner_is t a.element_to_block.now a.state c.loop-i.i _ _ o c.at-b.ensures.0 c.hidden_in.ensures ∙ c.if-hidden_in.true in
    let room = many_strict c.loop-i.i t.m (inner_row t a.element_to_block.now a.state) (omega arith) p in
    let few = own_few t a.state (hidden_in t.label t.target a.element_to_block.now (get_or a.element_to_block.now a.state 0)) in
    (omega arith, omega arith, omega arith, omega arith)

pub loop-i-preserved : goal.loop-i-preserved
loop-i-preserved c =
    let a = c.args in
    let i = c.loop-i.invariant in
    let t = lts_of a.system.now in
    let o = i.rows.own c.loop-i.i (omega arith) (omega arith) in
    let p = inner_is t a.element_to_block.now a.state c.loop-i.i _ _ o c.at-b.ensures.0 c.hidden_in.ensures in
    elim c.if-hidden_in.branch [
      | then-hidden_in w ↦ record {
        rows = i.rows;
        opened =
            rw (w.high-is, w.low-is, w.end_high-is, w.end_low-is, w.k-is)
            (opening_more i.opened (omega arith) (p ∙ w.if-hidden_in.true) (
              w.«open».ensures.j_value.0 ∙ ap (start_at a.starts.now) w.at-u.ensures.0,
              w.«open».ensures.j_value.1 ∙ ap (λ (u : ℕ). start_at a.starts.now (u + 1)) w.at-u.ensures.0,
            ) w.«open».ensures.by_index w.«open».auto.high w.«open».auto.low w.«open».auto.end_high w.«open».auto.end_low);
      }
      | else-hidden_in w ↦ record {
        rows = i.rows;
        opened =
            rw (w.high-is, w.low-is, w.end_high-is, w.end_low-is, w.k-is)
            (opening_pass i.opened (omega arith) (p ∙ w.if-hidden_in.false));
      }
    ]

pub returns-clause-fact_3 : goal.returns-clause-fact_3
unfolding inner_targets inner_row
returns-clause-fact_3 c =
    let i = c.loop-i.invariant in
    opening_done i.opened c.args.system.now.table.m (omega arith) i.rows.most (λ r u v. and_no_left _ _ (i.rows.after r u v))

pub overflow_add-k : goal.overflow_add-k
overflow_add-k c = omega (arith, many-le)
