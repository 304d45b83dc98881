-- The branching signature of a state: (a, b) is in it exactly if some state that is reached by hidden steps that stay in the block has a
-- step (a, u) to block b, and the step is visible or leads to another block.
use Rattle.std.specs.Prelude.{◌≡◌, ℕ, Bool, true, not, ◌&&◌, eqb, ◌↔◌, List, map, get_or}
use borrow.Author.Tests.{eqb-true, eq-eqb}
use mathlib.Core.Path.{ap, sym, subst, ◌∙◌}
use mathlib.Core.List.Memᴰ
use Rattle.columns.specs.Counting.{members}
use Rattle.columns.specs.Sets.{Mem, Pair, pair_lt, Ascending}
use Rattle.columns.proofs.Bools.{and_left, and_right, and_both, contra, fails}
use Rattle.columns.proofs.Members.{members_in, members_out}
use Rattle.table.specs.Hidden.{hidden_in}
use Rattle.signatures.specs.Strong.{row_pair}
use Rattle.signatures.proofs.Sigs.{sig_in, sig_out, sig_ascending}
use Rattle.table.specs.Lts.{Lts, Step, Valid}
use Rattle.table.specs.Reach.{Walk}
use Rattle.table.proofs.Rows.{row_step, step_row}
use Rattle.signatures_branching.specs.Branching.{inert_edge, inertly, outerb, branching_pushed, branching_signature}
use Rattle.signatures_branching.proofs.Endings.{inertly_of, of_inertly}

-- a step under label a to block b, visible or out of the block of s, of a state that s reaches in its block
pub record Leaves (t : Lts) (home : List ℕ) (s a b : ℕ) : Type 0 where
  pub through : ℕ
  pub reached : Walk (inert_edge t home (get_or home s 0)) s through
  pub target : ℕ
  pub step : Step t through a target
  pub outer : a ≡ 0 → get_or home target 0 ≡ get_or home s 0 → ⊥
  pub block : get_or home target 0 ≡ b

module _ (t : Lts) (v : Valid t) (home : List ℕ) (s : ℕ) where
  -- row i is visible or leads to another block, as a test
  outer_of_lem : (i : ℕ) → (get_or t.label i 0 ≡ 0 → get_or home (get_or t.target i 0) 0 ≡ get_or home s 0 → ⊥) →
      outerb t home (get_or home s 0) i ≡ true
  unfolding outerb hidden_in
  outer_of_lem i n =
      ap not (fails (λ e.
      n (eqb-true _ _ (and_left (eqb (get_or t.label i 0) 0) (eqb (get_or home (get_or t.target i 0) 0) (get_or home s 0)) e))
      (eqb-true _ _ (and_right (eqb (get_or t.label i 0) 0) (eqb (get_or home (get_or t.target i 0) 0) (get_or home s 0)) e))))

  of_outer : (i : ℕ) → outerb t home (get_or home s 0) i ≡ true → get_or t.label i 0 ≡ 0 → get_or home (get_or t.target i 0) 0 ≡ get_or home s 0
      → ⊥
  unfolding outerb hidden_in
  of_outer i e z h = contra e (ap not (and_both (eq-eqb _ _ z) (eq-eqb _ _ h)))

  pub branching_in : (a b : ℕ) → Leaves t home s a b → Mem {A = Pair} (a, b) (branching_signature t home s)
  unfolding branching_signature branching_pushed row_pair
  branching_in a b l =
      let r = step_row t l.through a l.target l.step in
      let f : ℕ → Bool = λ i. inertly t home s (get_or t.source i 0) && outerb t home (get_or home s 0) i in
      let h : get_or home (get_or t.target r.row 0) 0 ≡ b = ap (λ (u : ℕ). get_or home u 0) (sym r.target) ∙ l.block in
      let e : ◌≡◌ {A = Pair} (get_or t.label r.row 0, get_or home (get_or t.target r.row 0) 0) (a, b) =
      λ i. (sym r.label i, h i) in
      sig_in (branching_pushed t home s) (a, b)
      (subst (λ (p : Pair). Mem p (map (row_pair t home) (members t.m f))) e
      (Memᴰ.map (row_pair t home)
      (members_in f t.m r.row r.below
      (and_both (ap (inertly t home s) (sym r.source) ∙ inertly_of t v home s l.through l.reached)
      (outer_of_lem r.row (λ z q. l.outer (r.label ∙ z) (ap (λ (u : ℕ). get_or home u 0) r.target ∙ q)))))))

  pub branching_out : (a b : ℕ) → Mem {A = Pair} (a, b) (branching_signature t home s) → Leaves t home s a b
  unfolding branching_signature branching_pushed row_pair
  branching_out a b m =
      let f : ℕ → Bool = λ i. inertly t home s (get_or t.source i 0) && outerb t home (get_or home s 0) i in
      let g = Memᴰ.of_map (row_pair t home) (members t.m f) (sig_out (branching_pushed t home s) (a, b) m) in
      let q = members_out f t.m g.0 g.1 in
      let x = get_or t.source g.0 0 in
      let u = get_or t.target g.0 0 in
      let e : get_or t.label g.0 0 ≡ a = λ i. (g.2 i).0 in
      record {
        through = x;
        reached = of_inertly t v home s x (and_left (inertly t home s x) (outerb t home (get_or home s 0) g.0) q.1);
        target = u;
        step = subst (λ (y : ℕ). Step t x y u) e (row_step t g.0 q.0);
        outer = λ z h. of_outer g.0 (and_right (inertly t home s x) (outerb t home (get_or home s 0) g.0) q.1) (e ∙ z) h;
        block = λ i. (g.2 i).1;
      }

  pub branching_exactly : (a b : ℕ) → Mem {A = Pair} (a, b) (branching_signature t home s) ↔ Leaves t home s a b
  branching_exactly a b = (branching_out a b, branching_in a b)

  pub branching_ascending : Ascending pair_lt (branching_signature t home s)
  unfolding branching_signature
  branching_ascending = sig_ascending (branching_pushed t home s)
