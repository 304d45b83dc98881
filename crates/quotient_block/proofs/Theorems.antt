-- The quotient by chosen states in document 01's words: the state chosen for a block is a state of it, with BRANCHING a bottom state, and
-- there is none exactly if the walk comes back to a state; the rows are those of the chosen states; and they are a valid table.
use Rattle.std.specs.Prelude.{◌≡◌, ℕ, ◌<◌, ◌≤◌, Bool, true, false, not, ◌&&◌, eqb, ◌↔◌, List}
use native.Mathlib.Omega.{arith}
use borrow.Author.Tests.{eqb-true, eq-eqb, not-true}
use mathlib.Core.Path.{refl, sym, ap, subst, ◌∙◌}
use Rattle.columns.specs.Blocks.{block_of}
use Rattle.bisimulation.proofs.Kept.{kept_in, kept_out, kept_ascending}
use Rattle.columns.specs.Sets.{Row, row_lt, Ascending, StepIn}
use Rattle.columns.proofs.Bools.{and_left, and_right, and_both, contra}
use Rattle.columns.proofs.Counting.{first_law}
use Rattle.table.specs.Hidden.{tau_loop}
use Rattle.bisimulation.proofs.Tables.{kept_valid}
use Rattle.quotient_block.specs.Bottom.{bottom}
use Rattle.quotient_block.specs.Chosen.{first_state, choice, lacking, of_chosen, chosen_rows, block_rows, Choosable}
use Rattle.quotient_block.proofs.Returns.{Returning, lost_exactly}
use Rattle.quotient_block.proofs.Walks.{walked_state, walked-home, found_walked, found_bottom}
use Rattle.table.specs.Lts.{Lts, Valid}
use Rattle.table.specs.Tables.{table_of}
-- What a call that is done has answered and left.
pub use Rattle.quotient_block.proofs.Calls.{block_call_done}
-- A bottom state is one from which no hidden row leads to another state of the block; each step of the walk goes along one, until then.
pub use Rattle.quotient_block.proofs.Walks.{bottom_exactly, walked_on}

-- ---- the state chosen for a block
module _ (t : Lts) (home elements begin : List ℕ) (count : ℕ) (v : Valid t) (k : Choosable t.n count elements home begin) where
  -- without BRANCHING there always is one
  pub first_found : (b : ℕ) → b < count → choice false t home elements begin b ≡ t.n → ⊥
  unfolding choice
  first_found b h e = omega (arith, k.state b h, e)

  -- with BRANCHING there is none exactly if the walk from the block's first state comes back to a state
  pub bottom-lacking : (b : ℕ) → b < count → (choice true t home elements begin b ≡ t.n) ↔ Returning t home (first_state elements begin b)
  unfolding choice
  bottom-lacking b h = lost_exactly t home (first_state elements begin b) v (k.state b h)

  module _ (branching : Bool) where
    -- 12 is given for the lowest block that has none: the blocks below it have one
    pub lacking_lowest :
        let l = lacking branching t home elements begin count in
        ((b : ℕ) → b < l → choice branching t home elements begin b ≡ t.n → ⊥)
        × (l < count → choice branching t home elements begin l ≡ t.n)
    unfolding lacking
    lacking_lowest =
        let q = first_law count (λ i. eqb (choice branching t home elements begin i) t.n) in
        (λ b h e. contra (eq-eqb _ _ e) (q.before b h), λ h. eqb-true _ _ (q.hit h))

    module _ (b : ℕ) (h : b < count) (found : choice branching t home elements begin b ≡ t.n → ⊥) where
      -- it is a state
      pub choice_state : choice branching t home elements begin b < t.n
      unfolding choice
      choice_state = go branching found
        where
          go : (y : Bool) → (choice y t home elements begin b ≡ t.n → ⊥) → choice y t home elements begin b < t.n
          go true d =
              subst (λ (x : ℕ). x < t.n) (sym (found_walked t home (first_state elements begin b) d))
              (walked_state t home (first_state elements begin b) v (k.state b h) t.n)
          go false d = k.state b h

      -- of the block
      pub choice-home : block_of home (choice branching t home elements begin b) ≡ b
      unfolding choice
      choice-home = go branching found
        where
          go : (y : Bool) → (choice y t home elements begin b ≡ t.n → ⊥) → block_of home (choice y t home elements begin b) ≡ b
          go true d =
              ap (block_of home) (found_walked t home (first_state elements begin b) d)
              ∙ walked-home t home (first_state elements begin b) t.n ∙ k.own b h
          go false d = k.own b h

  -- and with BRANCHING a bottom state: by `bottom_exactly` no hidden row leads to another state of the block
  pub choice-bottom :
      (b : ℕ) → (choice true t home elements begin b ≡ t.n → ⊥) → bottom t home (choice true t home elements begin b) ≡ true
  unfolding choice
  choice-bottom b d = found_bottom t home (first_state elements begin b) d

-- ---- the rows of the chosen states
module _ (loops : Bool) (chosen block : ℕ → ℕ) (rows : List Row) where
  -- a row of a block's chosen state that is no hidden self-loop which is to go
  pub record FromChosen (b a c : ℕ) : Type 0 where
    pub target : ℕ
    pub step : StepIn rows (chosen b) a target
    pub kept : loops ≡ true → tau_loop (chosen b, (a, target)) ≡ false
    pub to : block target ≡ c

  -- such a row is there, between blocks
  pub chosen_in : (b a c : ℕ) → block (chosen b) ≡ b → FromChosen b a c → StepIn (chosen_rows loops chosen block rows) b a c
  unfolding chosen_rows of_chosen
  chosen_in b a c own f =
      subst (λ (x : ℕ). StepIn (chosen_rows loops chosen block rows) x a c) own
      (subst (λ (x : ℕ). StepIn (chosen_rows loops chosen block rows) (block (chosen b)) a x) f.to
      (kept_in (of_chosen loops chosen block) block rows (chosen b) a f.target f.step
      (and_both (eq-eqb _ _ (ap chosen own)) (stay loops f.kept))))
    where
      stay : (l : Bool) → (l ≡ true → tau_loop (chosen b, (a, f.target)) ≡ false) → not (l && tau_loop (chosen b, (a, f.target))) ≡ true
      stay true h = rw (h refl) refl
      stay false h = refl

  -- and no other
  pub chosen_out : (b a c : ℕ) → StepIn (chosen_rows loops chosen block rows) b a c → FromChosen b a c
  unfolding chosen_rows of_chosen
  chosen_out b a c k =
      let f = kept_out (of_chosen loops chosen block) block rows b a c k in
      let r : Row = (f.source, (a, f.target)) in
      let own = eqb (chosen (block f.source)) f.source in
      let e : f.source ≡ chosen b = sym (eqb-true _ _ (and_left own (not (loops && tau_loop r)) f.passes)) ∙ ap chosen f.from in
      let h : not (loops && tau_loop r) ≡ true = and_right own (not (loops && tau_loop r)) f.passes in
      record {
        target = f.target;
        step = subst (λ (x : ℕ). StepIn rows x a f.target) e f.step;
        kept = λ z.
            subst (λ (x : ℕ). tau_loop (x, (a, f.target)) ≡ false) e
            (not-true _ (subst (λ (l : Bool). not (l && tau_loop r) ≡ true) z h));
        to = f.to;
      }

  pub chosen_ascending : Ascending row_lt (chosen_rows loops chosen block rows)
  unfolding chosen_rows
  chosen_ascending = kept_ascending (of_chosen loops chosen block) block rows

-- ---- the table
-- as many states as blocks, the labels as they were, and the block of the initial state: a valid table with every switch
pub block_valid :
    (branching loops : Bool) (t : Lts) → Valid t → (home elements begin : List ℕ) (count : ℕ) → count ≤ t.n
    → ((s : ℕ) → s < t.n → block_of home s < count)
    → Valid (table_of count t.labels (block_of home t.initial) (block_rows branching loops t home elements begin))
unfolding block_rows chosen_rows
block_valid branching loops t v home elements begin count few below =
    kept_valid t v count few (block_of home) below (of_chosen loops (choice branching t home elements begin) (block_of home))
