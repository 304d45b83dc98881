-- What `reduce_file` says and leaves where it is refused and where it is done, and when that is so.
use Rattle.std.specs.Prelude.{◌≡◌, ℕ, ◌≤◌, true, List, [], ◌∷◌, length, get_or, take, drop}
use mathlib.Core.Path.{refl, sym, ap, ◌∙◌}
use native.Mathlib.Omega.{arith}
use lib.ListN.{length-append}
use Rattle.columns.specs.Answers.{Said, done, refused, none}
use Rattle.columns.specs.Columns.{over}
use Rattle.columns.specs.Due.{due, room_test}
use Rattle.columns.specs.Answers.{Refusal}
use Rattle.columns.proofs.Chains.{Holds, parted, passed_both, goes_on_lem, ends}
use Rattle.columns.proofs.Doing.{leaving_done}
use Rattle.columns.proofs.Lists.{take-over}
use Rattle.columns.proofs.Saying.{left_refused, left_done}
use Rattle.file.specs.Input.{table_in, contents_tests, file_tests, file_refusal}
use Rattle.file.specs.Layout.{largest_output}
use Rattle.file.specs.Output.{FileOf}
use Rattle.file.proofs.Inputs.{accepted_of}
use Rattle.file.proofs.Outputs.{length_output}
use Rattle.file.proofs.Theorems.{of_file}
use Rattle.file_reduction.specs.Reducing.{reduced_bytes, reduced_size, file_numbers, reduce_tests, reduce_file}
use Rattle.file_reduction.proofs.Ties.{room_left}
use Rattle.reduction.proofs.Entries.{length-blocks, few_rows}
use Rattle.refinement_strong.specs.Reduction.{strong_blocks, quotient_of, strong_reduced}
use Rattle.table.specs.Checks.{table_tests}
use Rattle.table.specs.Lts.{Lts, Valid}
use Rattle.table.specs.Tables.{table_of}
use Rattle.table.proofs.Refusals.{checked_of}

-- how many bytes the file of a reduced table has
pub length_reduced : (t : Lts) → length (reduced_bytes t) ≡ reduced_size t
unfolding reduced_bytes strong_reduced quotient_of table_of
length_reduced t = omega (arith, length_output (strong_reduced t) (strong_blocks t), length-blocks t)

module _ (input output left values : List ℕ) (e : reduce_file input output ≡ (done values, left)) where
  abbrev source : Lts
  source = table_in input

  said :
      ((due (reduce_tests input (length output))).number ≡ 0) × (values ≡ file_numbers source) × (left ≡ over (reduced_bytes source) output)
  unfolding reduce_file
  said = leaving_done _ output left (over (reduced_bytes source) output) values (file_numbers source) (sym e)

  tests : Holds (file_tests input true) × Holds (room_test (reduced_size source) (length output) ∷ [])
  tests = passed_both (file_tests input true) (room_test (reduced_size source) (length output) ∷ []) refl _ refl said.0

  -- the table passed the checks
  pub valid : Valid source
  valid = (checked_of source true (parted (contents_tests input) (table_tests source true) tests.0).1).valid

  -- what is said
  pub numbers : values ≡ file_numbers source
  numbers = said.1

  -- what is left: the file over the first bytes
  pub written : left ≡ over (reduced_bytes source) output
  written = said.2

  -- as many bytes as are said to be written are there, and they are the file
  size : get_or values 0 0 ≡ length (reduced_bytes source)
  size = ap (λ (l : List ℕ). get_or l 0 0) numbers ∙ sym (length_reduced source)

  pub fits : get_or values 0 0 ≤ length left
  unfolding over
  fits =
      let file = reduced_bytes source in
      omega (arith, size, ap length written, length-append file (drop (length file) output))

  pub taken : take (get_or values 0 0) left ≡ reduced_bytes source
  taken = (λ i. take (size i) (written i)) ∙ take-over (reduced_bytes source) output

-- A file that is refused is so in the order of its tests, and the output stays.
pub refused_file :
    (input output : List ℕ) (r : Refusal) → r ≡ due (file_tests input true) → (r.number ≡ 0 → ⊥) → (s : Said)
    → s ≡ refused r.number r.place → (s, output) ≡ reduce_file input output
unfolding reduce_file
refused_file input output r e n s q =
    let t = table_in input in
    left_refused (due (reduce_tests input (length output))) r
    (ends (file_tests input true) (room_test (reduced_size t) (length output) ∷ []) refl r e n) output (over (reduced_bytes t) output)
    (file_numbers t) s n q

-- A table's file is never refused where the output has the room that document 01 names.
pub never_refused :
    (input output : List ℕ) → FileOf input [] → largest_output ≤ length output
    → reduce_file input output ≡ (done (file_numbers (table_in input)), over (reduced_bytes (table_in input)) output)
unfolding reduce_file file_refusal
never_refused input output file long =
    let t = table_in input in
    let passes : (due (file_tests input true)).number ≡ 0 = ap (λ (r : Refusal). r.number) (of_file input [] file) in
    let v = (accepted_of input [] _ refl passes).valid in
    let enough : reduced_size t ≤ length output = omega (arith, long, few_rows t v, v.few_states) in
    sym (left_done (due (reduce_tests input (length output))) none
    (room_left (reduced_size t) (length output) enough
    ∙ goes_on_lem (file_tests input true) (room_test (reduced_size t) (length output) ∷ []) refl _ refl passes)
    output (over (reduced_bytes t) output) (file_numbers t) (done (file_numbers t)) _ refl refl refl)
