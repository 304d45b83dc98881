-- `check_division` meets its contract.
use Rattle.std.proofs.Common.{◌≡◌, ℕ, ◌+◌, leb, Bool, ◌&&◌, List, [], ◌∷◌, ◌++◌, length, refl, ap, ◌∙◌, arith}
use borrow.Author.Tests.{leb-true}
use Rattle.columns.specs.Answers.{Refusal}
use Rattle.columns.specs.Answers.{none}
use Rattle.columns.specs.Due.{Test, index_test, all_long}
use Rattle.columns.proofs.Bools.{and_left}
use Rattle.columns.proofs.Chains.{refused_first, refused_second}
use Rattle.partition.specs.Checks.{partition_tests, argument_refusal}
use Rattle.partition.specs.Partition.{Partition, parts_of}
use Rattle.partition.proofs.Refusals.{argument_ready}
use Rattle.partition_division.specs.Division.{unfit_tests, roomb, refusal_for}
use Rattle.partition_division.proofs.checks.check_division.Goals as goal

-- the tests before those of the block
abbrev Front : Partition → ℕ → Bool → List Test
Front p b room = partition_tests p room ++ (index_test b p.count ∷ [])

-- what the columns and the block are refused for, with the room that the definition tests
asked :
    (p : Partition) (b : ℕ) (v works : List ℕ) (w : Bool) (r : Refusal)
    → r ≡ argument_refusal p b p.count (leb p.n (length v) && w) → w ≡ all_long (p.n + 1) works
    → r ≡ argument_refusal p b p.count (roomb p.n (length v) works)
unfolding roomb
asked p b v works w r e f = e ∙ ap (λ (x : Bool). argument_refusal p b p.count (leb p.n (length v) && x)) f

pub returns-in_err-check_argument : goal.returns-in_err-check_argument
unfolding refusal_for argument_refusal
returns-in_err-check_argument c =
    let a = c.args in
    let p = parts_of a.columns.now a.n a.count in
    let works = a.old_elements ∷ a.block_sizes ∷ a.spare ∷ [] in
    refused_first (Front p a.b (roomb a.n (length a.numbers.now) works)) (unfit_tests p a.b a.numbers.now) refl _ _
    (asked p a.b a.numbers.now works _ _ c.in_err-check_argument.ensures c.long-works.ensures) c.from_residual.ensures.1

pub check_unfit-requires-clause-b_in_bounds : goal.check_unfit-requires-clause-b_in_bounds
check_unfit-requires-clause-b_in_bounds c =
    let a = c.args in
    let p = parts_of a.columns.now a.n a.count in
    let works = a.old_elements ∷ a.block_sizes ∷ a.spare ∷ [] in
    let q = argument_ready p a.b a.count (roomb a.n (length a.numbers.now) works) none
    (asked p a.b a.numbers.now works _ _ c.in_ok-check_argument.ensures c.long-works.ensures) refl in
    let w = q.sound.consistent.bounds a.b q.known in
    omega (arith, q.known, q.sound.consistent.most, q.sound.long, w.some)

pub check_unfit-requires-clause-n_in_bounds : goal.check_unfit-requires-clause-n_in_bounds
unfolding roomb
check_unfit-requires-clause-n_in_bounds c =
    let a = c.args in
    let p = parts_of a.columns.now a.n a.count in
    let works = a.old_elements ∷ a.block_sizes ∷ a.spare ∷ [] in
    let q = argument_ready p a.b a.count (roomb a.n (length a.numbers.now) works) none
    (asked p a.b a.numbers.now works _ _ c.in_ok-check_argument.ensures c.long-works.ensures) refl in
    let l = leb-true _ _ (and_left (leb a.n (length a.numbers.now)) (all_long (a.n + 1) works) q.enough) in
    (q.sound.long.element_offset, q.sound.long.element_to_block, l, q.sound.small)

pub returns : goal.returns
unfolding refusal_for argument_refusal
returns c =
    let a = c.args in
    let p = parts_of a.columns.now a.n a.count in
    let works = a.old_elements ∷ a.block_sizes ∷ a.spare ∷ [] in
    refused_second (Front p a.b (roomb a.n (length a.numbers.now) works)) (unfit_tests p a.b a.numbers.now) refl _
    (asked p a.b a.numbers.now works _ _ c.in_ok-check_argument.ensures c.long-works.ensures) (c.check_unfit.ensures a.count)
