-- What the contract of `reduce_file` allows, sentence by sentence: demand 3 for the bytes of the two files.
use Rattle.std.specs.Prelude.{◌≡◌, ℕ, ◌<◌, ◌≤◌, ◌↔◌, List, [], length}
use mathlib.Core.Path.{sym, ap, subst, ◌∙◌}
use native.Mathlib.Omega.{arith}
use contract.Lifetimes.{Lfts}
use denote.Triple.Clauses.{AtExit}
use denote.Triple.Entry.{Args}
use Rattle.bisimulation.specs.Bisimulation.{Match, Bisimilar}
use Rattle.bisimulation.specs.Quotient.{Belongs}
use Rattle.columns.specs.Answers.{Answer, Said, done}
use Rattle.columns.specs.Blocks.{block_of}
use Rattle.columns.specs.Columns.{over}
use Rattle.file.specs.Decoded.{table_out, blocks_out}
use Rattle.file.specs.Input.{table_in}
use Rattle.file.specs.Layout.{largest_output}
use Rattle.file.specs.Output.{FileOf}
use Rattle.file.proofs.RoundTrip.{exact_rows, output_back}
use Rattle.file_reduction.specs.Answers.{said_file}
use Rattle.file_reduction.specs.Reducing.{reduced_bytes, file_numbers, reduce_file}
use Rattle.file_reduction.specs.declared.answers.Written.{Written}
use Rattle.file_reduction.proofs.Done as D
use Rattle.file_reduction.specs.contracts.reduce_file.{signature, ended}
use Rattle.file_reduction.proofs.reduce_file.Reads.{Post}
use Rattle.reduction.proofs.Entries.{length-blocks, few_blocks}
use Rattle.refinement_strong.specs.Reduction.{strong_blocks, strong_block, strong_count, strong_rows, quotient_of, strong_reduced}
use Rattle.refinement_strong.proofs.Reductions.{block_below, reduced_valid}
use Rattle.refinement_strong.proofs.Theorems as T
use Rattle.table.specs.Lts.{Lts, rows, Step, Valid}

-- a call of `reduce_file`: its parameters on entry, its answer, and its parameters at return, as its contract allows them
module _ (κs : Lfts 2) (entry : Args signature κs) (answer : Answer Written) (exit : AtExit ended κs) (met : Post κs entry answer exit) where
  -- the bytes that are given, those that are lent for the output, and what these are at return
  abbrev pub input : List ℕ
  input = entry.0.now

  abbrev pub output : List ℕ
  output = entry.1.0.now

  abbrev pub left : List ℕ
  left = exit.1.0.now

  -- The file of a right table is done, where the output has the room that document 01 names: it is never refused.
  pub call_done : FileOf input [] → largest_output ≤ length output → said_file answer ≡ done (file_numbers (table_in input))
  call_done file long = ap (λ (p : Said × List ℕ). p.0) (met ∙ D.never_refused input output file long)

  -- the call is done, with these numbers
  module _ (values : List ℕ) (said : said_file answer ≡ done values) where
    e : reduce_file input output ≡ (done values, left)
    e = sym met ∙ ap (λ (s : Said). (s, left)) said

    -- the table decoded from the bytes that were given
    abbrev pub source : Lts
    source = table_in input

    -- the table decoded from the bytes that were written, and the block of each state
    abbrev pub result : Lts
    result = table_out left

    abbrev pub block : ℕ → ℕ
    block = block_of (blocks_out left)

    abbrev pub In : ℕ → ℕ → Type 0
    In = Belongs source.n block

    -- The table that was given passed the checks.
    pub valid : Valid source
    valid = D.valid input output left values e

    -- What is said is what is defined: how many bytes, what was reduced, to what, and in how many rounds.
    pub numbers : values ≡ file_numbers source
    numbers = D.numbers input output left values e

    -- The first bytes are the file of the reduced table and the blocks; those behind stay.
    pub written : left ≡ over (reduced_bytes source) output
    written = D.written input output left values e

    back : (result ≡ strong_reduced source) × (blocks_out left ≡ strong_blocks source)
    unfolding reduced_bytes strong_reduced quotient_of
    back =
        let f =
        output_back (strong_reduced source) (strong_blocks source) output (reduced_valid source valid)
        (exact_rows (strong_count source) source.labels (strong_block source source.initial) (strong_rows source))
        (omega (arith, length-blocks source, valid.few_states))
        (λ i h. omega (arith, block_below source valid i (omega (arith, h, length-blocks source)), few_blocks source valid)) in
        (ap table_out written ∙ f.0, ap blocks_out written ∙ f.1)

    -- The table decoded from the bytes that were written is the strong reduction of the table decoded from the bytes that were given.
    pub reduced : result ≡ strong_reduced source
    reduced = back.0

    -- The block of each state is that of the strong reduction.
    pub blocks : blocks_out left ≡ strong_blocks source
    blocks = back.1

    -- so what holds of the reduction and its blocks holds of what was written
    of-written {ℓ} : (P : Lts → (ℕ → ℕ) → Type ℓ) → P (strong_reduced source) (strong_block source) → P result block
    of-written P p =
        subst (λ (t : Lts). P t block) (sym reduced)
        (subst (λ (l : List ℕ). P (strong_reduced source) (block_of l)) (sym blocks) p)

    -- ---- demand 3
    -- Each step of a state is a step of its block.
    pub step_of_block : (s a u : ℕ) → Step source s a u → Step result (block s) a (block u)
    step_of_block s a u k = of-written (λ t b. Step t (b s) a (b u)) (T.step_of_block source s a u k)

    -- Each step of a block is answered by every state in it, with a target in the right block.
    pub block_answered : (b a c : ℕ) → Step result b a c → (s : ℕ) → In s b → Match (rows source) s a (λ u. In u c)
    block_answered =
        of-written (λ t f. (b a c : ℕ) → Step t b a c → (s : ℕ) → Belongs source.n f s b
        → Match (rows source) s a (λ u. Belongs source.n f u c))
        (T.block_answered source valid)

    -- The start maps to the start.
    pub start_to_start : result.initial ≡ block source.initial
    start_to_start = of-written (λ t b. t.initial ≡ b source.initial) (T.start_to_start source)

    -- Two states have the same block exactly if some bisimulation relates them.
    pub share_exactly : (s u : ℕ) → s < source.n → u < source.n → (block s ≡ block u) ↔ Bisimilar (rows source) (rows source) s u
    share_exactly = of-written (λ _ b. (s u : ℕ) → s < source.n → u < source.n → (b s ≡ b u) ↔ Bisimilar (rows source) (rows source) s u)
        (T.share_exactly source valid)

    -- ---- beyond it
    -- What was written holds a right table.
    pub result_valid : Valid result
    result_valid = of-written (λ t _. Valid t) (reduced_valid source valid)

    -- No table that keeps every state's behaviour has fewer states. States that are not reachable stay; of rows nothing is claimed.
    pub smallest :
        (u : Lts) (f : ℕ → ℕ) → ((s : ℕ) → s < source.n → (f s < u.n) × Bisimilar (rows source) (rows u) s (f s)) → result.n ≤ u.n
    smallest u f like = of-written (λ t _. t.n ≤ u.n) (T.smallest source valid u f like)
