-- The two ways out of a call of `quotient_lts_block`; and where it is done, the header that it says and the rows that it leaves are the
-- quotient.
use Rattle.std.specs.Prelude.{◌≡◌, ℕ, Bool, true, false, cond, ltb, List, [], ◌∷◌}
use native.Mathlib.Omega.{arith}
use mathlib.Core.Path.{refl, sym, ap, subst}
use Rattle.columns.specs.Blocks.{block_of}
use Rattle.columns.specs.Answers.{Refusal}
use Rattle.columns.specs.Answers.{Said, done, refused}
use Rattle.columns.specs.Columns.{zeroed}
use Rattle.columns.specs.Limits.{no_bottom}
use Rattle.columns.specs.Sets.{Row}
use Rattle.columns.proofs.Saying.{apart, unless_refused, unless_on}
use Rattle.partition.specs.Partition.{Partition}
use Rattle.quotient.specs.Call.{quotient_refusal}
use Rattle.quotient.specs.Naive.{header_by}
use Rattle.columns.proofs.Doing.{unless_done}
use Rattle.quotient.proofs.Answering.{quotient_ready}
use Rattle.quotient.proofs.Calls.{left_laid}
use Rattle.bisimulation.proofs.Tables.{kept_laid, IsQuotient}
use Rattle.quotient_block.specs.Call.{quotient_lts_block}
use Rattle.quotient_block.specs.Chosen.{choice, lacking, of_chosen, chosen_rows, block_rows, block_quotient}
use Rattle.table.specs.Lts.{Lts}
use Rattle.table.specs.Tables.{Three, rows_over, table_by}

module _ (branching loops : Bool) (t : Lts) (p : Partition) (out : Three) (work : List (List ℕ)) where
  module _ (r : Refusal) (e : r ≡ quotient_refusal t p out work) (s : Said) where
    pub block_refused :
        (r.number ≡ 0 → ⊥) → s ≡ refused r.number r.place → (s, (out, work)) ≡ quotient_lts_block branching loops t p out work
    unfolding quotient_lts_block
    block_refused n f = unless_refused (quotient_refusal t p out work) r e (out, work) _ s n f

    pub block_call_answered :
        r.number ≡ 0 → (left : Three)
        → (s, left) ≡ block_quotient branching loops t p.element_to_block p.elements p.begin p.count out
        → (work₁ : List (List ℕ)) → work₁ ≡ zeroed work → (s, (left, work₁)) ≡ quotient_lts_block branching loops t p out work
    unfolding quotient_lts_block
    block_call_answered z left q work₁ w =
        unless_on (quotient_refusal t p out work) r e (out, work) _ (s, (left, work₁)) z (λ i. ((q i).0, ((q i).1, w i)))

  abbrev rows_left : List Row
  rows_left = block_rows branching loops t p.element_to_block p.elements p.begin

  abbrev quotient_left : Said × Three
  quotient_left = block_quotient branching loops t p.element_to_block p.elements p.begin p.count out

  -- a call that says it is done was not refused, and has found a state for each block
  done_checked :
      (values : List ℕ) (left : Three) (work₁ : List (List ℕ))
      → quotient_lts_block branching loops t p out work ≡ (done values, (left, work₁))
      → ((quotient_refusal t p out work).number ≡ 0) × (quotient_left ≡ (done values, left))
  unfolding quotient_lts_block
  done_checked values left work₁ e =
      let d = unless_done (quotient_refusal t p out work) (out, work) (left, work₁) values (quotient_left.0, (quotient_left.1, zeroed work))
      (sym e) in
      let q = sym d.1 in
      (d.0, λ i. ((q i).0, (q i).1.0))

  done_rows :
      (values : List ℕ) (left : Three) → quotient_left ≡ (done values, left)
      → (header_by t p.element_to_block p.count rows_left ≡ values) × (rows_over rows_left out ≡ left)
  unfolding block_quotient
  done_rows values left e =
      go (ltb (lacking branching t p.element_to_block p.elements p.begin p.count) p.count) _ rows_left e
    where
      go :
          (b : Bool) (k : ℕ) (l : List Row)
          → ◌≡◌ {A = Said × Three}
          (cond b (refused no_bottom k, out) (done (header_by t p.element_to_block p.count l), rows_over l out)) (done values, left)
          → (header_by t p.element_to_block p.count l ≡ values) × (rows_over l out ≡ left)
      go true k l e = absurd (apart _ _ _ (sym (ap (λ (x : Said × Three). x.0) e)))
      go false k l e =
          let d : done (header_by t p.element_to_block p.count l) ≡ done values = ap (λ (x : Said × Three). x.0) e in
          let h : header_by t p.element_to_block p.count l ≡ values = cc (d) in
          (h, ap (λ (x : Said × Three). x.1) e)

  pub block_call_done :
      p.n ≡ t.n → (n labels m initial : ℕ) (left : Three) (work₁ : List (List ℕ))
      → quotient_lts_block branching loops t p out work ≡ (done (n ∷ labels ∷ m ∷ initial ∷ []), (left, work₁))
      → IsQuotient t p.count (block_of p.element_to_block) rows_left (table_by n labels m initial left)
  unfolding block_rows chosen_rows
  block_call_done same n labels m initial left work₁ e =
      let block = block_of p.element_to_block in
      let d = done_checked (n ∷ labels ∷ m ∷ initial ∷ []) left work₁ e in
      let w = done_rows (n ∷ labels ∷ m ∷ initial ∷ []) left d.1 in
      let q = quotient_ready t p out work _ refl same d.0 in
      subst (IsQuotient t p.count block rows_left)
      (left_laid rows_left p.count t.labels (block t.initial) out n labels m initial left w.0 w.1)
      (kept_laid t q.valid p.count (omega (arith, same, q.sound.consistent.most)) block
      (λ s h. (q.sound.consistent.lies s (omega (arith, same))).known)
      (of_chosen loops (choice branching t p.element_to_block p.elements p.begin) block) out.0 out.1.0 out.1.1)
