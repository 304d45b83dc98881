-- What a call of `reduce_file` that is done has read, written and said, sentence by sentence: demand 3 for the bytes of the output file.
use Rattle.std.specs.Prelude.{◌≡◌, ℕ, ◌+◌, ◌*◌, ◌<◌, ◌≤◌, true, ◌↔◌, List, [], ◌∷◌, length, get_or, drop}
use mathlib.Core.Path.{refl, sym, ap, subst, ◌∙◌}
use native.Mathlib.Omega.{arith}
use lib.ListN.{length-append}
use Rattle.bisimulation.specs.Bisimulation.{Match, Bisimilar}
use Rattle.bisimulation.specs.Quotient.{Belongs}
use Rattle.columns.specs.Answers.{done, none}
use Rattle.columns.specs.Columns.{over}
use Rattle.columns.specs.Due.{due, room_test}
use Rattle.columns.specs.Answers.{Refusal}
use Rattle.columns.proofs.Chains.{Holds, parted, passed_both, goes_on_lem}
use Rattle.columns.proofs.Doing.{leaving_done}
use Rattle.columns.proofs.Saying.{left_done}
use Rattle.file.specs.Bytes.{little}
use Rattle.file.specs.Input.{table_in, contents_tests, file_tests, file_refusal}
use Rattle.file.specs.Layout.{block_size, largest_output}
use Rattle.file.specs.Output.{FileOf, output_blocks, output_bytes}
use Rattle.file.proofs.Inputs.{accepted_of}
use Rattle.file.proofs.Outputs.{length_output}
use Rattle.file.proofs.RoundTrip.{block_back}
use Rattle.file.proofs.Theorems.{of_file}
use Rattle.file_reduction.specs.Reducing.{reduced_bytes, reduced_size, file_numbers, reduce_tests, reduce_file}
use Rattle.file_reduction.proofs.Ties.{room_left}
use Rattle.reduction.proofs.Entries.{length-blocks, few_blocks, few_rows}
use Rattle.refinement_strong.specs.Reduction.{strong_blocks, strong_block, strong_rows, quotient_of, strong_reduced}
use Rattle.refinement_strong.proofs.Bisimulations.{valid_range}
use Rattle.refinement_strong.proofs.Reductions.{block_below}
use Rattle.refinement_strong.proofs.Theorems as D
use Rattle.table.specs.Checks.{table_tests}
use Rattle.table.specs.Lts.{Lts, rows, Step, Valid}
use Rattle.table.specs.Tables.{table_of}
use Rattle.table.proofs.Refusals.{checked_of}

-- the call is done, with these numbers, and has left this
module _ (input output left values : List ℕ) (e : reduce_file input output ≡ (done values, left)) where
  -- the table in the input file
  abbrev pub source : Lts
  source = table_in input

  said :
      ((due (reduce_tests input (length output))).number ≡ 0) × (values ≡ file_numbers source) × (left ≡ over (reduced_bytes source) output)
  unfolding reduce_file
  said = leaving_done _ output left (over (reduced_bytes source) output) values (file_numbers source) (sym e)

  tests : Holds (file_tests input true) × Holds (room_test (reduced_size source) (length output) ∷ [])
  tests = passed_both (file_tests input true) (room_test (reduced_size source) (length output) ∷ []) refl _ refl said.0

  -- The table passed the checks.
  pub valid : Valid source
  valid = (checked_of source true (parted (contents_tests input) (table_tests source true) tests.0).1).valid

  -- What is said is what is defined: how many bytes, what was reduced, to what, and in how many rounds.
  pub numbers : values ≡ file_numbers source
  numbers = said.1

  -- The first bytes are the file of the reduced table and the blocks; those behind stay.
  pub written : left ≡ over (output_bytes (strong_reduced source) (strong_blocks source)) output
  unfolding reduced_bytes
  written = said.2

  -- As many bytes as are said to be written are there.
  pub fits : get_or values 0 0 ≤ length left
  unfolding over strong_reduced quotient_of table_of
  fits =
      let file = output_bytes (strong_reduced source) (strong_blocks source) in
      omega (
        arith,
        ap (λ (l : List ℕ). get_or l 0 0) numbers,
        ap length written,
        length-append file (drop (length file) output),
        length_output (strong_reduced source) (strong_blocks source),
        length-blocks source,
      )

  -- the number that stands for a state behind the rows
  abbrev pub block_in : ℕ → ℕ
  block_in s = little 2 left (output_blocks (length (strong_rows source)) + block_size * s)

  -- It is the number of the state's block.
  pub block_written : (s : ℕ) → s < source.n → block_in s ≡ strong_block source s
  unfolding strong_reduced quotient_of table_of over
  block_written s h =
      let small = block_below source valid s h in
      ap (λ (l : List ℕ). little 2 l (output_blocks (length (strong_rows source)) + block_size * s)) written
      ∙ block_back (strong_reduced source) (strong_blocks source) _ s (omega (arith, h, length-blocks source))
      (omega (arith, small, few_blocks source valid))

  -- Two states have the same number exactly if some bisimulation relates them.
  pub share_exactly : (s u : ℕ) → s < source.n → u < source.n → (block_in s ≡ block_in u) ↔ Bisimilar (rows source) (rows source) s u
  share_exactly s u hs hu = (
    λ q. (D.share_exactly source valid s u hs hu).0 (sym (block_written s hs) ∙ q ∙ block_written u hu),
    λ b. block_written s hs ∙ (D.share_exactly source valid s u hs hu).1 b ∙ sym (block_written u hu),
  )

  -- the table that is written
  abbrev pub reduced : Lts
  reduced = strong_reduced source

  -- Each step of a state is a step of its block.
  pub step_of_block : (s a u : ℕ) → Step source s a u → Step reduced (block_in s) a (block_in u)
  step_of_block s a u k =
      let w = valid_range source valid in
      subst (λ (b : ℕ). Step reduced b a (block_in u)) (sym (block_written s (w.source s a u k)))
      (subst (λ (c : ℕ). Step reduced (strong_block source s) a c) (sym (block_written u (w.target s a u k)))
      (D.step_of_block source s a u k))

  -- Each step of a block is answered by every state in it, with a target in the right block.
  pub block_answered :
      (b a c : ℕ) → Step reduced b a c → (s : ℕ) → Belongs source.n block_in s b
      → Match (rows source) s a (λ u. Belongs source.n block_in u c)
  block_answered b a c k s h =
      let g =
      D.block_answered source valid b a c k s
      (record { state = h.state; home = sym (block_written s h.state) ∙ h.home }) in
      record {
        target = g.target;
        step = g.step;
        related = record {
          state = g.related.state;
          home = block_written g.target g.related.state ∙ g.related.home;
        };
      }

  -- The start maps to the start.
  pub start_to_start : reduced.initial ≡ block_in source.initial
  start_to_start = D.start_to_start source ∙ sym (block_written source.initial valid.initial)

-- The bytes written fit the room, as a caller goes by it that takes the file out of what is left.
pub bytes_fit :
    (input output left : List ℕ) (b : ℕ) (rest : List ℕ) → (done (b ∷ rest), left) ≡ reduce_file input output → b ≤ length left
bytes_fit input output left b rest e = fits input output left (b ∷ rest) (sym e)

-- ---- A table's file is never refused where the output has the room that document 01 names.
pub never_refused :
    (input output : List ℕ) → FileOf input [] → largest_output ≤ length output
    → reduce_file input output ≡ (done (file_numbers (table_in input)), over (reduced_bytes (table_in input)) output)
unfolding reduce_file file_refusal
never_refused input output file long =
    let t = table_in input in
    let passes : (due (file_tests input true)).number ≡ 0 = ap (λ (r : Refusal). r.number) (of_file input [] file) in
    let v = (accepted_of input [] _ refl passes).valid in
    let enough : reduced_size t ≤ length output = omega (arith, long, few_rows t v, v.few_states) in
    sym (left_done (due (reduce_tests input (length output))) none
    (room_left (reduced_size t) (length output) enough
    ∙ goes_on_lem (file_tests input true) (room_test (reduced_size t) (length output) ∷ []) refl _ refl passes)
    output (over (reduced_bytes t) output) (file_numbers t) (done (file_numbers t)) _ refl refl refl)
