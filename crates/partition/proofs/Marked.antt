-- Laws of `marked_in`: when a state is a marked one of a block.
use Prim.Native.Nat.{ℕ, ◌≤◌, ◌<◌}
use native.Mathlib.Omega.{arith}
use borrow.Author.Tests.{leb-true, le-leb, eqb-true, eq-eqb, le-ltb, ltb-false}
use mathlib.Core.Bool.{true, false}
use mathlib.Core.Logic.{◌↔◌}
use mathlib.Core.Path.{◌≡◌, ap, sym, subst}
use lib.Dec.{leb, eqb}
use lib.ListN.{get_or}
use Rattle.columns.proofs.Bools.{and_left, and_right, and_both}
use Rattle.partition.specs.Partition.{Partition, home_of, Consistent}
use Rattle.partition.specs.Marked.{unmarkedb, marked_in}

module _ (p : Partition) (b s : ℕ) where
  pub marked_block : marked_in p b s ≡ true → home_of p s ≡ b
  unfolding marked_in
  marked_block e = eqb-true _ _ (and_left (eqb (home_of p s) b) (leb (get_or p.marked_split b 0) (get_or p.element_offset s 0)) e)

  pub marked_from_lem : marked_in p b s ≡ true → get_or p.marked_split b 0 ≤ get_or p.element_offset s 0
  unfolding marked_in
  marked_from_lem e = leb-true _ _ (and_right (eqb (home_of p s) b) (leb (get_or p.marked_split b 0) (get_or p.element_offset s 0)) e)

  pub marked_of : home_of p s ≡ b → get_or p.marked_split b 0 ≤ get_or p.element_offset s 0 → marked_in p b s ≡ true
  unfolding marked_in
  marked_of e h = and_both (eq-eqb _ _ e) (le-leb _ _ h)

  -- a state of block b is a marked one of it exactly if it is marked
  pub marked_in_lem : home_of p s ≡ b → (marked_in p b s ≡ true) ↔ (unmarkedb p s ≡ false)
  unfolding unmarkedb
  marked_in_lem e = (
    λ m. le-ltb _ _ (subst (λ (x : ℕ). get_or p.marked_split x 0 ≤ get_or p.element_offset s 0) (sym e) (marked_from_lem m)),
    λ u. marked_of e (subst (λ (x : ℕ). get_or p.marked_split x 0 ≤ get_or p.element_offset s 0) e (ltb-false _ _ u)),
  )

-- where a block's marks begin with it, its states are all marked
pub whole_marked :
    (p : Partition) → Consistent p → (b : ℕ) → get_or p.marked_split b 0 ≡ get_or p.begin b 0
    → (s : ℕ) → s < p.n → home_of p s ≡ b → marked_in p b s ≡ true
whole_marked p h b all s l e = marked_of p b s e (omega (arith, all, (h.lies s l).from, ap (λ (x : ℕ). get_or p.begin x 0) e))
