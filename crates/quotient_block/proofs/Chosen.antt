-- What the rows of the column of chosen states are, what is said and left by them, and the blocks of a partition that is checked.
use Rattle.std.specs.Prelude.{◌≡◌, ℕ, ◌<◌, ◌≤◌, Bool, true, false, not, ◌&&◌, cond, eqb, ltb, ◌⊎◌, List, get_or}
use native.Mathlib.Omega.{arith}
use borrow.Author.Tests.{lt-ltb, le-ltb}
use mathlib.Core.Path.{refl, ap, ◌∙◌}
use mathlib.Core.Logic.{inl, inr}
use Rattle.bisimulation.specs.Quotient.{between}
use Rattle.columns.specs.Blocks.{block_of}
use Rattle.columns.specs.declared.answers.Refusal as code
use Rattle.columns.specs.Answers.{Refusal, refusal, none, refusal_of, Said, done, refused}
use Rattle.columns.specs.Columns.{written}
use Rattle.columns.specs.Limits.{no_bottom}
use Rattle.columns.specs.Sets.{Row, row_lt}
use Rattle.columns.proofs.All.{lt-or-le}
use Rattle.columns.proofs.Counting.{first_law}
use Rattle.columns.proofs.Lists.{written_at}
use Rattle.columns.proofs.Saying.{numbered}
use Rattle.columns.proofs.Sets.{collect_alike}
use Rattle.partition.specs.Partition.{Partition, Sound}
use Rattle.partition.proofs.Owned.{owned}
use Rattle.quotient.specs.Naive.{header_by}
use Rattle.table.specs.Hidden.{tau_loop}
use Rattle.quotient_block.specs.Chosen.{first_state, choice, lacking, of_chosen, chosen_rows, block_rows, block_quotient, Choosable}
use Rattle.table.specs.Lts.{Lts, rows, Valid}
use Rattle.table.specs.Tables.{Three, rows_over}
use Rattle.table.proofs.Rows.{step_fields}

-- ---- the column of chosen states has the chosen states
-- what g chooses below `count` is read from a column where it is written
written-rows :
    (loops : Bool) (t : Lts) → Valid t → (home : List ℕ) (count : ℕ) → ((s : ℕ) → s < t.n → block_of home s < count)
    → (g : ℕ → ℕ) (col : List ℕ)
    → chosen_rows loops (λ b. get_or (written count g col) b 0) (block_of home) (rows t) ≡ chosen_rows loops g (block_of home) (rows t)
unfolding chosen_rows of_chosen
written-rows loops t v home count below g col =
    collect_alike row_lt _ _ (between (block_of home)) (between (block_of home)) (rows t)
    (λ r m. (
      ap (λ (x : ℕ). eqb x r.0 && not (loops && tau_loop r))
          (written_at count g col (block_of home r.0) (below r.0 (step_fields t v r.0 r.1.0 r.1.1 m).0)),
      refl,
    ))

-- ---- what is said and left
module _ (branching loops : Bool) (t : Lts) (home elements begin : List ℕ) (count : ℕ) (out : Three) where
  -- 12 at the lowest block with no state, or none
  abbrev found : Refusal
  found = let b = lacking branching t home elements begin count in cond (ltb b count) (refusal no_bottom b) none

  pub block_lacks :
      (r : code.Refusal) → refusal_of r ≡ found → (s : Said) → s ≡ refused (refusal_of r).number (refusal_of r).place
      → (s, out) ≡ block_quotient branching loops t home elements begin count out
  unfolding block_quotient
  block_lacks r e s q =
      let b = lacking branching t home elements begin count in
      (λ i. (q i, out)) ∙ go b _ (ltb b count) e
    where
      go :
          (b : ℕ) (x : Said × Three) (lacks : Bool) → refusal_of r ≡ cond lacks (refusal no_bottom b) none
          → ◌≡◌ {A = Said × Three} (refused (refusal_of r).number (refusal_of r).place, out) (cond lacks (refused no_bottom b, out) x)
      go b x true e = λ i. (refused (e i).number (e i).place, out)
      go b x false e = absurd (numbered r (ap (λ (q : Refusal). q.number) e))

  module _ (e : none ≡ found) where
    pub all_chosen : count ≤ lacking branching t home elements begin count
    all_chosen = let b = lacking branching t home elements begin count in go b (lt-or-le b count) e
      where
        go : (b : ℕ) → (b < count) ⊎ (count ≤ b) → none ≡ cond (ltb b count) (refusal no_bottom b) none → count ≤ b
        go b (inl h) e = let f : 0 ≡ no_bottom = ap (λ (q : Refusal). q.number) (rw (lt-ltb b count h) at e) in absurd (omega (arith, f))
        go b (inr h) e = h

    pub block_done :
        (s : Said) (left : Three) (kept : List Row) → kept ≡ block_rows branching loops t home elements begin
        → s ≡ done (header_by t home count kept) → left ≡ rows_over kept out
        → (s, left) ≡ block_quotient branching loops t home elements begin count out
    unfolding block_quotient
    block_done s left kept k q w =
        rw (le-ltb (lacking branching t home elements begin count) count all_chosen, ← k) (λ i. (q i, w i))

    pub block_rows_lem :
        Valid t → Choosable t.n count elements home begin → (col col₀ : List ℕ)
        → col ≡ written (lacking branching t home elements begin count) (choice branching t home elements begin) col₀
        → chosen_rows loops (λ b. get_or col b 0) (block_of home) (rows t) ≡ block_rows branching loops t home elements begin
    unfolding block_rows lacking
    block_rows_lem v k col col₀ q =
        let g = choice branching t home elements begin in
        let few = (first_law count (λ i. eqb (g i) t.n)).bound in
        let f : lacking branching t home elements begin count ≡ count = omega (arith, all_chosen, few) in
        ap (λ (l : List ℕ). chosen_rows loops (λ b. get_or l b 0) (block_of home) (rows t)) (q ∙ ap (λ (i : ℕ). written i g col₀) f)
        ∙ written-rows loops t v home count k.below g col₀

-- ---- the blocks of a partition that is checked
pub choosable_of : (p : Partition) → Sound p → Choosable p.n p.count p.elements p.element_to_block p.begin
unfolding first_state
choosable_of p s = record {
  few = s.consistent.most;
  homes = s.long.element_to_block;
  begins = omega (arith, s.consistent.most, s.long.begin);
  place = λ b h. let w = s.consistent.bounds b h in omega (arith, w.some, w.most, s.long.elements);
  state = λ b h.
      let w = s.consistent.bounds b h in
      s.consistent.order.below (get_or p.begin b 0) (omega (arith, w.some, w.most));
  own = λ b h. let w = s.consistent.bounds b h in owned p s.consistent b (get_or p.begin b 0) h (omega arith) w.some;
  below = λ u h. (s.consistent.lies u h).known;
}
