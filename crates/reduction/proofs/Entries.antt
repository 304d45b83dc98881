-- What a call goes by that has passed the checks; and the definition, of a right table and the room, is never refused.
use Rattle.std.specs.Prelude.{◌≡◌, ℕ, ◌+◌, ◌≤◌, ◌&&◌, false, leb, List, ◌++◌, length, drop}
use mathlib.Core.Path.{refl, sym, ap, ◌∙◌}
use borrow.Author.Tests.{leb-true, le-leb}
use Rattle.columns.specs.Answers.{done, none}
use Rattle.columns.specs.Blocks.{block_of}
use Rattle.columns.specs.Columns.{over}
use Rattle.columns.specs.Due.{all_long}
use Rattle.columns.specs.Answers.{Refusal}
use Rattle.columns.proofs.Bools.{and_left, and_right, and_both}
use Rattle.columns.proofs.Chains.{passed, none-due}
use Rattle.columns.proofs.Rooms.{roomy_of, of_roomy}
use Rattle.columns.proofs.Saying.{left_done}
use Rattle.reduction.specs.Reducing.{Slices, result_lengths, work_lengths, reduction_refusal, reduction_numbers, reduction_left}
use Rattle.reduction.specs.Reducing.{strong_reduction, Ready, ReadyFor}
use Rattle.refinement.proofs.Rounds.{final_length}
use Rattle.quotient.specs.Naive.{naive_rows}
use Rattle.quotient.proofs.Theorems.{naive_plain}
use Rattle.refinement_strong.specs.Reduction.{strong_block, strong_blocks, strong_count, strong_rows, quotient_of, strong_reduced}
use Rattle.refinement_strong.proofs.Reductions.{reduced_valid}
use Rattle.columns.specs.Limits.{max_rows, max_states}
use Rattle.table.specs.Tables.{table_of}
use Rattle.signatures.specs.Strong.{strong_signature}
use Rattle.table.specs.Checks.{works_long, table_tests}
use Rattle.table.specs.Lts.{Lts, Valid, rows}
use Rattle.table.proofs.Refusals.{checked_of, of_checked}

module _ (t : Lts) (results : List ℕ) (block : ℕ) (works : List ℕ) where
  pub ready_of : (r : Refusal) → r ≡ reduction_refusal t results block works → r.number ≡ 0 → Ready t results block works
  unfolding reduction_refusal
  ready_of r e z =
      let a = all_long t.m results in
      let b = leb t.n block in
      let w = works_long t works in
      let c = checked_of t (a && (b && w)) (passed (table_tests t (a && (b && w))) refl r e z) in
      let rest = and_right a (b && w) c.enough in
      record {
        valid = c.valid;
        fits = roomy_of t.m results (and_left a (b && w) c.enough);
        long = leb-true t.n block (and_left b w rest);
        wide = roomy_of (t.n + t.m + 1) works (and_right b w rest);
      }

  pub ready_none : Ready t results block works → reduction_refusal t results block works ≡ none
  unfolding reduction_refusal
  ready_none q =
      none-due (table_tests t (all_long t.m results && (leb t.n block && works_long t works)))
      (of_checked t (all_long t.m results && (leb t.n block && works_long t works)) q.valid
      (and_both (of_roomy t.m results q.fits)
      (and_both (le-leb t.n block q.long) (of_roomy (t.n + t.m + 1) works q.wide))))

pub never_refused :
    (t : Lts) (lent : Slices) → ReadyFor t lent → strong_reduction t lent ≡ (done (reduction_numbers t), reduction_left t lent)
unfolding strong_reduction
never_refused t lent ready =
    let r = reduction_refusal t (result_lengths lent) (length lent.1.0) (work_lengths lent) in
    sym (left_done r _ (sym (ready_none t (result_lengths lent) (length lent.1.0) (work_lengths lent) ready)) lent
    (reduction_left t lent) (reduction_numbers t) (done (reduction_numbers t)) (reduction_left t lent) refl refl refl)

pub length-blocks : (t : Lts) → length (strong_blocks t) ≡ t.n
unfolding strong_blocks
length-blocks t = final_length t.n (strong_signature t)

-- the first n cells of the block column, lent and come back
pub blocks-over : (t : Lts) (block x : List ℕ) → x ≡ strong_blocks t → x ++ drop t.n block ≡ over (strong_blocks t) block
unfolding over
blocks-over t block x e = rw (e, length-blocks t)

-- the rows between the blocks that were found
pub same_rows : (t : Lts) (block : List ℕ) → block ≡ strong_blocks t → naive_rows false false (block_of block) (rows t) ≡ strong_rows t
same_rows t block e = ap (λ (p : List ℕ). naive_rows false false (block_of p) (rows t)) e ∙ naive_plain (strong_block t) (rows t)

-- the reduced table fits its columns
module _ (t : Lts) (v : Valid t) where
  pub few_blocks : strong_count t ≤ max_states
  unfolding strong_reduced quotient_of table_of
  few_blocks = (reduced_valid t v).few_states

  pub few_rows : length (strong_rows t) ≤ max_rows
  unfolding strong_reduced quotient_of table_of
  few_rows = (reduced_valid t v).few_rows
