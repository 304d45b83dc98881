-- What comes out, in document 01's words. Two states get one number exactly if each reaches the other by hidden steps; the numbers of
-- components are permuted, and each row of the quotient is there under the new numbers; a hidden row leads to a smaller number, or is a
-- self-loop, and with the flag on no hidden cycle is left, self-loops among them.
use Rattle.std.specs.Prelude.{◌≡◌, ℕ, ◌<◌, ◌≤◌, Bool, true, not, ◌⊎◌, ◌↔◌, List, get_or}
use mathlib.Core.Path.{refl, sym, ap, subst, ◌∙◌}
use mathlib.Core.Logic.{inl, inr, ⊎_elim}
use native.Mathlib.Omega.{arith}
use borrow.Author.Tests.{eq-eqb, ne_eqb}
use Rattle.bisimulation.specs.Quotient.{quotient}
use Rattle.columns.specs.Blocks.{block_of}
use Rattle.bisimulation.proofs.Quotients.{Source, quotient_in, quotient_out}
use Rattle.bisimulation.proofs.Tables.{quotient_valid}
use Rattle.columns.specs.Sets.{Row}
use Rattle.columns.specs.Columns.{written}
use Rattle.columns.proofs.All.{same_or_not}
use Rattle.columns.proofs.Lists.{written_at}
use Rattle.columns.proofs.Bools.{contra, and_both}
use Rattle.quotient.specs.Naive.{inert_step, naive_rows}
use Rattle.table.specs.Hidden.{tau_loop}
use Rattle.quotient.proofs.Theorems.{stays_exactly}
use Rattle.quotient_components.specs.Components.{components, component}
use Rattle.quotient_components.proofs.Components.{component_exactly, component-below, component_onto}
use Rattle.table.specs.Lts.{Lts, rows, Step, Valid}
use Rattle.table.specs.Reach.{stop, along, takes, Way}
use Rattle.table.specs.Tables.{table_of}
use Rattle.table.proofs.Rows.{step_fields}
use Rattle.table.proofs.Tables.{table_of-rows, table_of_in, table_of_out}
use Rattle.table_order.specs.Promise.{Permutation}
use Rattle.table_order.proofs.Topological.{permutation, topological}
use Rattle.quotient_cycles.specs.Reordered.{merged, new_place, new_number, new_rows, reordered_table}
use Rattle.quotient_cycles.proofs.Acyclic.{hidden_step, merged_valid, merged_out, acyclic}
use Rattle.quotient_cycles.proofs.Renumbered.{naive_alike, naive_renumbered}

module _ (t : Lts) (v : Valid t) (eliminate : Bool) where
  abbrev place : ℕ → ℕ
  place = new_place t eliminate

  abbrev old : Lts
  old = merged t eliminate

  abbrev new : Lts
  new = reordered_table t eliminate

  abbrev start : ℕ
  start = new_number t eliminate t.initial

  -- ---- the numbers
  -- the new numbers of the components are a permutation
  pub places_permute : Permutation (components t) place
  unfolding new_place merged table_of
  places_permute = permutation old (merged_valid t v eliminate) true (acyclic t v eliminate) true

  -- two states get one number exactly if each reaches the other by hidden steps
  pub new_number_exactly :
      (s u : ℕ) → s < t.n → u < t.n
      → (new_number t eliminate s ≡ new_number t eliminate u) ↔ (Way t true s u × Way t true u s)
  unfolding new_number
  new_number_exactly s u h k = (
    λ e.
        (component_exactly t v s u).0
        (places_permute.one (component t s) (component t u) (component-below t v s h) (component-below t v u k) e),
    λ w. ap place ((component_exactly t v s u).1 w),
  )

  pub new_number_below : (s : ℕ) → s < t.n → new_number t eliminate s < components t
  unfolding new_number
  new_number_below s h = places_permute.below (component t s) (component-below t v s h)

  -- every number is that of a state
  pub new_number_onto : (k : ℕ) → k < components t → (s : ℕ) × (s < t.n) × (new_number t eliminate s ≡ k)
  unfolding new_number
  new_number_onto k h =
      let b = places_permute.onto k h in
      let s = component_onto t v b.0 b.1 in
      (s.0, s.1, ap place s.2 ∙ b.2)

  -- ---- the rows
  -- the row of the quotient that a row under the new numbers comes from
  new_out : (b a c : ℕ) → Step new b a c → Source place (rows old) b a c
  unfolding reordered_table new_rows
  new_out b a c k = quotient_out place (rows old) b a c (table_of_out (components t) t.labels start (new_rows t eliminate) b a c k)

  -- each row of the quotient is there under the new numbers, and no other
  pub new_exactly :
      (b a c : ℕ) → b < components t → c < components t → Step new (place b) a (place c) ↔ Step old b a c
  unfolding reordered_table new_rows merged table_of
  new_exactly b a c h k = (
    λ z.
        let f = new_out (place b) a (place c) z in
        let w = step_fields old (merged_valid t v eliminate) f.source a f.target f.step in
        let p : f.source ≡ b = places_permute.one f.source b w.0 h f.from in
        let q : f.target ≡ c = places_permute.one f.target c w.1.1 k f.to in
        subst (λ (x : ℕ). Step old x a c) p (subst (λ (y : ℕ). Step old f.source a y) q f.step),
    λ z.
        table_of_in (components t) t.labels start (new_rows t eliminate) (place b) a (place c) (quotient_in place (rows old) b a c z),
  )

  pub reordered_valid : Valid new
  unfolding reordered_table new_rows new_number merged table_of
  reordered_valid =
      quotient_valid old (merged_valid t v eliminate) (components t) (omega arith) place (λ s h. places_permute.below s h)

  -- ---- hidden rows
  -- the reversed order runs by finishing, and what a state leads to finishes before it: a hidden row leads to a smaller number, or is a
  -- self-loop
  pub hidden_falls : (b c : ℕ) → Step new b 0 c → (b ≡ c) ⊎ (c < b)
  unfolding new_place takes
  hidden_falls b c k = go (new_out b 0 c k)
    where
      go : Source place (rows old) b 0 c → (b ≡ c) ⊎ (c < b)
      go f =
          ⊎_elim (λ (e : f.source ≡ f.target). inl (sym f.from ∙ ap place e ∙ f.to))
          (λ (n : f.source ≡ f.target → ⊥).
          inr (lower ((topological old (merged_valid t v eliminate) true (acyclic t v eliminate) true).along f.source 0 f.target
          f.step refl n) f.from f.to))
          (same_or_not f.source f.target)
        where
          lower : {x y : ℕ} → y < x → x ≡ b → y ≡ c → c < b
          lower l p q = omega (arith, l, p, q)

  -- with the flag on a hidden row leads to another component, so never a self-loop
  apart : eliminate ≡ true → (b c : ℕ) → Step old b 0 c → b ≡ c → ⊥
  unfolding inert_step tau_loop
  apart on b c k e =
      let f = merged_out t v eliminate b 0 c k in
      let x = (stays_exactly eliminate eliminate (component t) (f.source, (0, f.target))).0 f.passes in
      let same : component t f.source ≡ component t f.target = f.from ∙ e ∙ sym f.to in
      ⊎_elim (λ (z : f.source ≡ f.target). contra (eq-eqb f.source f.target z) (x.1 on))
      (λ (n : f.source ≡ f.target → ⊥).
      contra
      (and_both (eq-eqb (component t f.source) (component t f.target) same) (ap not (ne_eqb f.source f.target n))) (x.0 on))
      (same_or_not f.source f.target)

  module _ (on : eliminate ≡ true) where
    pub hidden_lower : (b c : ℕ) → Step new b 0 c → c < b
    unfolding new_place takes
    hidden_lower b c k =
        let f = new_out b 0 c k in
        let l = (topological old (merged_valid t v eliminate) true (acyclic t v eliminate) true).along f.source 0 f.target
        f.step refl (apart on f.source f.target f.step) in
        lower l f.from f.to
      where
        lower : {x y : ℕ} → y < x → x ≡ b → y ≡ c → c < b
        lower l p q = omega (arith, l, p, q)

    walk_falls : {b c : ℕ} → Way new true b c → c ≤ b
    walk_falls stop = omega arith
    walk_falls (along {s = b} {u = d} h w) =
        let l = hidden_lower b d (hidden_step new b d h) in
        let r = walk_falls w in
        omega (arith, l, r)

    -- no hidden cycle is left, self-loops among them
    pub no_hidden_cycle : (b c : ℕ) → Step new b 0 c → Way new true c b → ⊥
    no_hidden_cycle b c k w = let l = hidden_lower b c k in let r = walk_falls w in omega (arith, l, r)

-- ---- by a column of new numbers
pub new_rows_lem :
    (t : Lts) → Valid t → (eliminate : Bool) (numbers : List ℕ) → ((s : ℕ) → s < t.n → get_or numbers s 0 ≡ new_number t eliminate s)
    → naive_rows eliminate eliminate (block_of numbers) (rows t) ≡ new_rows t eliminate
unfolding new_rows new_number merged
new_rows_lem t v eliminate numbers homes =
    naive_alike t v eliminate eliminate (block_of numbers) (λ s. new_place t eliminate (component t s)) homes
    ∙ naive_renumbered t v eliminate eliminate (component t) (new_place t eliminate)
    (λ s u h k e.
    (places_permute t v eliminate).one (component t s) (component t u) (component-below t v s h) (component-below t v u k) e)
    ∙ ap (λ (l : List Row). quotient (new_place t eliminate) l)
    (sym (table_of-rows (components t) t.labels (component t t.initial) (naive_rows eliminate eliminate (component t) (rows t))))

-- the same where the column is written
module _ (t : Lts) (eliminate : Bool) (numbers before : List ℕ) (e : numbers ≡ written t.n (new_number t eliminate) before) where
  pub written_numbers : (s : ℕ) → s < t.n → get_or numbers s 0 ≡ new_number t eliminate s
  written_numbers s h = ap (λ (l : List ℕ). get_or l s 0) e ∙ written_at t.n (new_number t eliminate) before s h

pub written_rows :
    (t : Lts) → Valid t → (eliminate : Bool) (numbers before : List ℕ) → numbers ≡ written t.n (new_number t eliminate) before
    → naive_rows eliminate eliminate (block_of numbers) (rows t) ≡ new_rows t eliminate
written_rows t v eliminate numbers before e = new_rows_lem t v eliminate numbers (written_numbers t eliminate numbers before e)
