-- What the parts of `reduce_file` do is what it is defined to do.
use Rattle.std.specs.Prelude.{◌≡◌, ℕ, ◌<◌, ◌≤◌, Bool, true, List, [], ◌∷◌, ◌++◌, length, get_or, take, drop}
use native.Mathlib.Omega.{arith}
use borrow.Author.Tests.{lt-leb, le-leb}
use mathlib.Core.Logic.{⊎_elim}
use mathlib.Core.Path.{refl, ap, ◌∙◌}
use lib.ListN.{length-append, length-map, get_or-append}
use lib.Seq.{take_at}
use Rattle.columns.specs.Answers.{refusal, none, leaving}
use Rattle.columns.specs.Columns.{over}
use Rattle.columns.specs.Due.{due, all_long, room_test}
use Rattle.columns.specs.Limits.{max_rows, max_states, no_room}
use Rattle.columns.specs.Rows.{first_of, second_of, third_of}
use Rattle.columns.specs.Sets.{Row}
use Rattle.columns.proofs.All.{lt-or-le}
use Rattle.columns.proofs.Laid.{laid_cong}
use Rattle.columns.proofs.Lists.{over_front}
use Rattle.columns.proofs.Rooms.{of_roomy}
use Rattle.file.specs.Bytes.{words}
use Rattle.file.specs.Input.{header_in, table_in, contents_tests, file_tests, file_refusal}
use Rattle.file.specs.Output.{header_bytes, row_bytes, rows_bytes, table_bytes, output_contents, output_bytes, output_size}
use Rattle.file.proofs.Held.{due-after}
use Rattle.file_reduction.specs.Reducing.{reduced_bytes, reduce_table, put_file}
use Rattle.reduction.proofs.Entries.{length-blocks}
use Rattle.refinement_strong.specs.Reduction.{strong_blocks, strong_block, strong_rounds, strong_count, strong_rows, quotient_of, strong_reduced}
use Rattle.table.specs.Checks.{table_tests}
use Rattle.table.specs.Lts.{Lts, lts}
use Rattle.table.specs.Tables.{Three, table_of}
use Rattle.table.specs.declared.Table.{Table}
use Rattle.table.proofs.Tables.{laid_table}

-- ---- columns of the largest size are long enough for every table that is not refused for its rows
room_free : (t : Lts) (room : Bool) → (t.m ≤ max_rows → room ≡ true) → due (table_tests t room) ≡ due (table_tests t true)
unfolding due
room_free t room h =
    ⊎_elim (λ (w : max_rows < t.m). rw (lt-leb t.m max_rows w)) (λ (w : t.m ≤ max_rows). rw (h w)) (lt-or-le max_rows t.m)

abbrev pub largest : List ℕ
largest = max_rows ∷ max_rows ∷ max_rows ∷ []

pub always_room : (s : List ℕ) → file_refusal s largest ≡ due (file_tests s true)
unfolding file_refusal table_in
always_room s =
    let m = (header_in s).m in
    due-after (contents_tests s) (table_tests (table_in s) (all_long m largest)) (table_tests (table_in s) true)
    (λ _. room_free (table_in s) (all_long m largest) (λ w. of_roomy m largest (w, (w, (w, tt)))))

-- ---- rows over the front of longer columns are written as they are
module _ (n labels initial : ℕ) (l : List Row) (x y z : List ℕ) where
  rows-laid : rows_bytes (laid_table n labels initial l x y z) ≡ rows_bytes (table_of n labels initial l)
  unfolding rows_bytes row_bytes table_of
  rows-laid =
      laid_cong (row_bytes (over (first_of l) x) (over (second_of l) y) (over (third_of l) z))
      (row_bytes (first_of l) (second_of l) (third_of l)) (length l)
      (λ i h k. words (
      over_front (first_of l) x i (omega (arith, h, length-map l (λ (r : Row). r.0))) k
      ∷ over_front (second_of l) y i (omega (arith, h, length-map l (λ (r : Row). r.1.0))) k
      ∷ over_front (third_of l) z i (omega (arith, h, length-map l (λ (r : Row). r.1.1))) k
      ∷ []
      ))

  same_header : header_bytes (laid_table n labels initial l x y z) ≡ header_bytes (table_of n labels initial l)
  unfolding header_bytes table_of
  same_header = refl

  pub laid-bytes : (blocks : List ℕ) → output_bytes (laid_table n labels initial l x y z) blocks ≡ output_bytes (table_of n labels initial l)
      blocks
  unfolding output_bytes table_bytes table_of
  laid-bytes blocks = λ i. output_contents (length l) (length blocks) ++ ((same_header i ++ rows-laid i) ++ words blocks)

-- ---- the reduced table in lent columns
module _ (t : Lts) (out : Three) where
  abbrev pub reduced_laid : Lts
  reduced_laid = laid_table (strong_count t) t.labels (strong_block t t.initial) (strong_rows t) out.0 out.1.0 out.1.1

  reduced_bytes_lem : output_bytes reduced_laid (strong_blocks t) ≡ reduced_bytes t
  unfolding reduced_bytes strong_reduced quotient_of
  reduced_bytes_lem =
      laid-bytes (strong_count t) t.labels (strong_block t t.initial) (strong_rows t) out.0 out.1.0 out.1.1 (strong_blocks t)

-- what is written once a table is reduced
pub put_reduced :
    (h : Table) (source label target : List ℕ) (out : Three) (rounds : ℕ) (u : Lts) (blocks output : List ℕ)
    → rounds ≡ strong_rounds (lts h source label target) → u ≡ reduced_laid (lts h source label target) out
    → blocks ≡ strong_blocks (lts h source label target) → put_file h rounds u blocks output ≡ reduce_table (lts h source label target) output
unfolding put_file reduce_table
put_reduced h source label target out rounds u blocks output p q r =
    let t = lts h source label target in
    let rows = length (strong_rows t) in
    (λ i. put_file h (p i) (q i) (r i) output)
    ∙ (λ i.
    leaving (due (room_test (output_size rows (length-blocks t i)) (length output) ∷ [])) output
    (output_size rows (length-blocks t i) ∷ t.n ∷ t.labels ∷ t.m ∷ strong_count t ∷ rows ∷ strong_rounds t ∷ [])
    (over (reduced_bytes_lem t out i) output))

-- ---- the block column: its first n cells lent and come back
module _ (t : Lts) (column p : List ℕ) (e : p ≡ strong_blocks t) where
  size : length p ≡ t.n
  size = ap length e ∙ length-blocks t

  pub front_blocks : take t.n (p ++ drop t.n column) ≡ strong_blocks t
  front_blocks = take_at p (drop t.n column) t.n size ∙ e

  pub front_long : t.n ≤ length (p ++ drop t.n column)
  front_long = omega (arith, length-append p (drop t.n column), size)

  pub front_few : t.n ≤ max_states → length (take t.n (p ++ drop t.n column)) < 65536
  front_few h = omega (arith, h, ap length front_blocks, length-blocks t)

  pub block_at_lem : (s : ℕ) → s < t.n → get_or (p ++ drop t.n column) s 0 ≡ strong_block t s
  block_at_lem s h = get_or-append p (drop t.n column) 0 s (omega (arith, h, size)) ∙ ap (λ (l : List ℕ). get_or l s 0) e

-- ---- 16, or room enough
module _ (needed room : ℕ) where
  pub no_room_lem : room < needed → refusal no_room needed ≡ due (room_test needed room ∷ [])
  unfolding due
  no_room_lem h = rw (lt-leb needed room h)

  pub room_left : needed ≤ room → none ≡ due (room_test needed room ∷ [])
  unfolding due
  room_left h = rw (le-leb needed room h)
