-- The quotient by components as it lies in lent columns: it is valid, has no long hidden cycle, and its places are the new numbers.
use Rattle.std.specs.Prelude.{◌≡◌, ℕ, ◌<◌, ◌≤◌, Bool, true, false, List, length, get_or}
use mathlib.Core.Path.{sym, ap, subst, ◌∙◌}
use native.Mathlib.Omega.{arith}
use Rattle.columns.specs.Blocks.{block_of}
use Rattle.columns.specs.Columns.{over, written}
use Rattle.columns.specs.Sets.{Row, StepIn}
use Rattle.columns.proofs.Bools.{fails}
use Rattle.columns.proofs.Lists.{listed_cong, written_at}
use Rattle.quotient.specs.Naive.{stays, naive_rows}
use Rattle.bisimulation.proofs.Tables.{kept_laid}
use Rattle.quotient.proofs.Theorems.{naive_few}
use Rattle.quotient_components.specs.Components.{components, component}
use Rattle.quotient_components.proofs.Components.{component-below, components_few}
use Rattle.table.specs.Lts.{Lts, rows, Valid}
use Rattle.table.specs.Reach.{stop, along, Way}
use Rattle.table.specs.Tables.{Three, table_of, rows_over, table_by}
use Rattle.table.proofs.Tables.{rows-length, table_of-rows, laid_table, laid-rows}
use Rattle.table.proofs.Walks.{edge_step}
use Rattle.table_order.specs.Call.{sorted}
use Rattle.table_order.specs.Order.{sort_place, has_cycle}
use Rattle.table_order.specs.Promise.{LongCycle}
use Rattle.table_order.proofs.Cycles.{cyclic_long}
use Rattle.quotient_cycles.specs.Reordered.{merged, new_place, new_number}
use Rattle.quotient_cycles.proofs.Acyclic.{acyclic}
use Rattle.quotient_cycles.proofs.Renumbered.{naive_alike}

-- ---- tables with the same rows
module _ (x y : Lts) (e : rows x ≡ rows y) where
  same_walk : (hidden : Bool) {s u : ℕ} → Way x hidden s u → Way y hidden s u
  same_walk hidden stop = stop
  same_walk hidden (along {s = s} {u = u} h w) =
      let p = (edge_step x hidden s u).0 h in
      along ((edge_step y hidden s u).1 (p.0, p.1, subst (λ (l : List Row). StepIn l s p.0 u) e p.2)) (same_walk hidden w)

  same_cycle : (hidden : Bool) → LongCycle x hidden → LongCycle y hidden
  same_cycle hidden c = record {
    from = c.from;
    through = c.through;
    other = c.other;
    there = same_walk hidden c.there;
    back = same_walk hidden c.back;
  }

  same_place : x.n ≡ y.n → (hidden reversed : Bool) (s : ℕ) → sort_place x hidden reversed s ≡ sort_place y hidden reversed s
  unfolding sort_place
  same_place n hidden reversed s = rw (n, e)

-- ---- the quotient, with the components' numbers in a column
module _ (t : Lts) (v : Valid t) (eliminate : Bool) (numbers : List ℕ) (homes : (s : ℕ) → s < t.n → get_or numbers s 0 ≡ component t s) where
  -- its rows by the column
  abbrev by_column : List Row
  by_column = naive_rows eliminate eliminate (block_of numbers) (rows t)

  abbrev by_number : List Row
  by_number = naive_rows eliminate eliminate (component t) (rows t)

  same_rows : by_column ≡ by_number
  same_rows = naive_alike t v eliminate eliminate (block_of numbers) (component t) homes

  pub few_middle : length by_column ≤ t.m
  few_middle = omega (arith, naive_few eliminate eliminate (block_of numbers) (rows t), rows-length t)

  module _ (count k start : ℕ) (out mid : Three) (ec : count ≡ components t) (ek : k ≡ length by_column)
      (es : start ≡ get_or numbers t.initial 0) (em : mid ≡ rows_over by_column out) where
    abbrev middle : Lts
    middle = table_by count t.labels k start mid

    abbrev laid : Lts
    laid = laid_table (components t) t.labels (component t t.initial) by_number out.0 out.1.0 out.1.1

    settled : middle ≡ laid
    unfolding rows_over
    settled = rw (ec, ek, es, em, same_rows, homes t.initial v.initial)

    pub middle_valid : Valid middle
    unfolding naive_rows
    middle_valid =
        subst Valid (sym settled)
        (kept_laid t v (components t) (components_few t v) (component t) (component-below t v)
        (stays eliminate eliminate (component t)) out.0 out.1.0 out.1.1).valid

    middle_rows : rows middle ≡ rows (merged t eliminate)
    unfolding merged
    middle_rows =
        ap (λ (x : Lts). rows x) settled
        ∙ laid-rows (components t) t.labels (component t t.initial) by_number out.0 out.1.0 out.1.1
        ∙ sym (table_of-rows (components t) t.labels (component t t.initial) by_number)

    middle_free : has_cycle middle true ≡ false
    middle_free =
        fails
        (λ e. acyclic t v eliminate
        (same_cycle middle (merged t eliminate) middle_rows true ((cyclic_long middle true middle_valid).0 e)))

    middle_place : (b : ℕ) → sort_place middle true true b ≡ new_place t eliminate b
    unfolding new_place merged table_of
    middle_place b = same_place middle (merged t eliminate) middle_rows ec true true b

    module _ (old places : List ℕ) (ep : places ≡ sorted middle true true old) where
      laid_places : places ≡ written count (sort_place middle true true) old
      unfolding sorted
      laid_places = ep ∙ rw middle_free

      pub new_numbers :
          written t.n (λ s. get_or places (get_or numbers s 0) 0) numbers ≡ written t.n (new_number t eliminate) numbers
      unfolding written new_number
      new_numbers =
          ap (λ (l : List ℕ). over l numbers)
          (listed_cong t.n (λ s. get_or places (get_or numbers s 0) 0) (new_number t eliminate)
          (λ s h.
          ap (λ (l : List ℕ). get_or l (get_or numbers s 0) 0) laid_places
          ∙ ap (λ (b : ℕ). get_or (written count (sort_place middle true true) old) b 0) (homes s h)
          ∙ written_at count (sort_place middle true true) old (component t s) (omega (arith, component-below t v s h, ec))
          ∙ middle_place (component t s)))
