-- What is not refused are exactly the input files of tables, and files are no longer than document 01 says; which is refused is decided by
-- the front of a file and by its length.
use Rattle.std.specs.Prelude.{◌≡◌, ℕ, zero, suc, ◌+◌, ◌*◌, ◌/◌, ◌%◌, ◌<◌, ◌≤◌, true, ◌&&◌, eqb, leb, List, [], ◌∷◌, ◌++◌, length, get_or, take, drop}
use native.Mathlib.Numerals.{add-one}
use native.Mathlib.Omega.{arith}
use borrow.Author.Tests.{leb-true, eqb-true}
use mathlib.Core.Path.{refl, ap, ap₂, sym, ◌∙◌}
use lib.Seq.{drop-cons, take-add, take_all, drop-drop, take-length, get_or-take, length-take-le}
use Rattle.columns.specs.Answers.{Said, done, none}
use Rattle.columns.specs.Columns.{laid, over}
use Rattle.columns.proofs.Bools.{and_left, and_right}
use Rattle.columns.proofs.Laid.{laid_cong}
use Rattle.columns.proofs.Lists.{listed_at}
use Rattle.columns.proofs.Saying.{left_done}
use Rattle.table.specs.Lts.{Lts}
use Rattle.file.specs.Bytes.{little, bytes_of, words}
use Rattle.file.specs.Layout.{input_header, input_rows, row_size, first_source, first_label, first_target, largest_input, largest_output}
use Rattle.file.specs.Input.{header_in, column, table_in, file_refusal}
use Rattle.file.specs.Output.{
  header_bytes,
  row_bytes,
  rows_bytes,
  table_bytes,
  input_contents,
  input_bytes,
  FileOf,
  output_bytes,
  output_size,
  write_refusal,
  write_file,
}
use Rattle.file.specs.Decoded.{table_out, blocks_out}
-- Of any file, its first bytes and its length as far as it is counted decide what is refused; its first bytes alone, if there are enough.
pub use Rattle.file.proofs.Held.{held_decides, cut_decides}
use Rattle.file.proofs.Inputs.{Accepted, accepted_of, of_accepted}
use Rattle.file.proofs.Outputs.{writable}
use Rattle.file.proofs.RoundTrip.{accepted_input, cut_to, table_out_lem, blocks_out_lem}
-- An output file reads back: its table and its blocks.
pub use Rattle.file.proofs.RoundTrip.{output_back}

module _ (s : List ℕ) (small : (i : ℕ) → get_or s i 0 < 256) where
  -- n bytes from `at` on
  abbrev part : ℕ → ℕ → List ℕ
  part at n = take n (drop at s)

  joined : (at n k m : ℕ) {p q : List ℕ} → k ≡ at + n → p ≡ part at n → q ≡ part k m → p ++ q ≡ part at (n + m)
  joined at n k m h e f =
      ap₂ (λ (x y : List ℕ). x ++ y) e (f ∙ ap (λ (j : ℕ). take m (drop j s)) h ∙ ap (take m) (sym (drop-drop n at s)))
      ∙ sym (take-add n m (drop at s))

  digits : (w at : ℕ) → at + w ≤ length s → bytes_of w (little w s at) ≡ part at w
  unfolding bytes_of little
  digits zero at h = refl
  digits (suc w) at h =
      let x = little w s (at + 1) in
      let g = get_or s at 0 in
      let lowest : (g + 256 * x) % 256 ≡ g = omega (arith, small at) in
      let higher : (g + 256 * x) / 256 ≡ x = omega (arith, small at) in
      ap₂ (λ (y : ℕ) (l : List ℕ). y ∷ l) lowest
      (ap (bytes_of w) higher ∙ digits w (at + 1) (omega arith) ∙ ap (λ (k : ℕ). take w (drop k s)) (add-one at))
      ∙ sym (ap (take (suc w)) (drop-cons s at 0 (omega arith)))

  -- a field of the contents that is right
  right : (w at x : ℕ) → (leb (at + w) (length s) && eqb (little w s at) x) ≡ true → bytes_of w x ≡ part at w
  right w at x e =
      let a = leb (at + w) (length s) in
      let b = eqb (little w s at) x in
      ap (bytes_of w) (sym (eqb-true (little w s at) x (and_right a b e)))
      ∙ digits w at (leb-true (at + w) (length s) (and_left a b e))

  -- numbers of two bytes
  word : ℕ → ℕ
  word at = little 2 s at

  three_words : (at : ℕ) → at + 6 ≤ length s → words (word at ∷ word (at + 2) ∷ word (at + 4) ∷ []) ≡ part at 6
  unfolding words word
  three_words at h =
      joined at 2 (at + 2) 4 refl (digits 2 at (omega arith))
      (joined (at + 2) 2 (at + 4) 2 (omega arith) (digits 2 (at + 2) (omega arith)) (digits 2 (at + 4) (omega arith)))

  abbrev row : ℕ → List ℕ
  row i = words (little 2 s (first_source + row_size * i) ∷ little 2 s (first_label + row_size * i) ∷ little 2 s (first_target + row_size * i) ∷
      [])

  row_part : (i : ℕ) → input_rows + row_size * i + 6 ≤ length s → row i ≡ part (input_rows + row_size * i) 6
  unfolding word
  row_part i h =
      let b : first_label + row_size * i ≡ input_rows + row_size * i + 2 = omega arith in
      let c : first_target + row_size * i ≡ input_rows + row_size * i + 4 = omega arith in
      (λ k. words (little 2 s (first_source + row_size * i) ∷ little 2 s (b k) ∷ little 2 s (c k) ∷ []))
      ∙ three_words (input_rows + row_size * i) h

  rows_part : (m : ℕ) → input_rows + row_size * m ≤ length s → laid row m ≡ part input_rows (row_size * m)
  unfolding laid
  rows_part zero h = refl
  rows_part (suc m) h =
      let e : row_size * m + 6 ≡ row_size * suc m = omega arith in
      joined input_rows (row_size * m) (input_rows + row_size * m) 6 refl (rows_part m (omega arith)) (row_part m (omega arith))
      ∙ ap (part input_rows) e

  module _ (columns : List ℕ) (p : Accepted s columns) where
    abbrev m : ℕ
    m = (header_in s).m

    contents_part : input_contents m ≡ part 0 22
    unfolding input_contents
    contents_part =
        let f = p.contents.fields in
        joined 0 2 2 20 (omega arith) (right 2 0 2 f.0)
        (joined 2 10 12 10 (omega arith)
        (joined 2 2 4 8 (omega arith) (right 2 2 1 f.1.0)
        (joined 4 4 8 4 (omega arith) (right 4 4 22 f.1.1.0) (right 4 8 8 f.1.1.1.0)))
        (joined 12 2 14 8 (omega arith) (right 2 12 2 f.1.1.1.1.0)
        (joined 14 4 18 4 (omega arith) (right 4 14 30 f.1.1.1.1.1.0)
        (ap (bytes_of 4) (sym p.contents.named) ∙ digits 4 18 (omega (arith, p.contents.size))))))

    header_part : header_bytes (table_in s) ≡ part input_header 8
    unfolding header_bytes table_in
    header_part =
        let long = p.contents.size in
        joined 22 2 24 6 (omega arith) (digits 2 22 (omega (arith, long)))
        (joined 24 2 26 4 (omega arith) (digits 2 24 (omega (arith, long)))
        (joined 26 2 28 2 (omega arith) (digits 2 26 (omega (arith, long))) (digits 2 28 (omega (arith, long)))))

    cell_of : (from i : ℕ) → i < m → get_or (column s from m) i 0 ≡ little 2 s (from + row_size * i)
    unfolding column
    cell_of from i h = listed_at m (λ i. little 2 s (from + row_size * i)) i h

    rows-bytes : rows_bytes (table_in s) ≡ part input_rows (row_size * m)
    unfolding rows_bytes row_bytes table_in
    rows-bytes =
        laid_cong (row_bytes (column s first_source m) (column s first_label m) (column s first_target m)) row m
        (λ i h. λ k. words (cell_of first_source i h k ∷ cell_of first_label i h k ∷ cell_of first_target i h k ∷ []))
        ∙ rows_part m (omega (arith, p.contents.size))

    only_input : s ≡ input_bytes (table_in s)
    unfolding input_bytes table_bytes table_in
    only_input =
        let e : 22 + (8 + row_size * m) ≡ length s = omega (arith, p.contents.size) in
        sym (joined 0 22 22 (8 + row_size * m) (omega arith) contents_part
        (joined 22 8 30 (row_size * m) (omega arith) header_part rows-bytes)
        ∙ ap (part 0) e
        ∙ take-length s)

-- ---- not refused exactly if it is a table's file and there is room
module _ (s columns : List ℕ) where
  -- What is accepted is a table's file, byte for byte, and there is room for its rows.
  pub file_of : ((i : ℕ) → get_or s i 0 < 256) → (file_refusal s columns).number ≡ 0 → FileOf s columns
  unfolding table_in
  file_of small z =
      let p = accepted_of s columns _ refl z in
      record { table = table_in s; valid = p.valid; bytes = only_input s small columns p; room = p.room }

  -- A table's file is not refused where there is room for its rows.
  pub of_file : FileOf s columns → file_refusal s columns ≡ none
  of_file f =
      ap (λ (l : List ℕ). file_refusal l columns) f.bytes
      ∙ of_accepted (input_bytes f.table) columns (accepted_input f.table f.valid columns f.room)

  -- An input file has at most 49,182 bytes.
  pub input_size : (file_refusal s columns).number ≡ 0 → length s ≤ largest_input
  unfolding table_in
  input_size z = let p = accepted_of s columns _ refl z in omega (arith, p.contents.size, p.valid.few_rows)

-- ---- a file of which only the front is held
-- What is not refused is held whole.
pub held_whole : (s columns : List ℕ) (k : ℕ) → (file_refusal s columns).number ≡ 0 → largest_input ≤ k → take k s ≡ s
held_whole s columns k z h = take_all k s (omega (arith, h, input_size s columns z))

-- ---- writing
-- An output file has at most 57,384.
pub output_size_lem : (t : Lts) (k blocks room : ℕ) → (write_refusal t k blocks room).number ≡ 0 → output_size t.m k ≤ largest_output
output_size_lem t k blocks room z = let w = writable t k blocks room _ refl z in omega (arith, w.few, w.valid.few_rows)

module _ (t : Lts) (k : ℕ) (blocks bytes : List ℕ) (z : (write_refusal t k (length blocks) (length bytes)).number ≡ 0) where
  -- what a call leaves that is not refused
  abbrev pub written : List ℕ
  written = (write_file t k blocks bytes).1

  abbrev front : List ℕ
  front = take k blocks

  over_front : over (output_bytes t front) bytes ≡ written
  unfolding write_file
  over_front =
      let r = write_refusal t k (length blocks) (length bytes) in
      let file = over (output_bytes t front) bytes in
      let size = output_size t.m k ∷ [] in
      ap (λ (p : Said × List ℕ). p.1) (left_done r r refl bytes file size (done size) file z refl refl)

  -- What is written reads back: the table, with columns of m cells, and the blocks, which are numbers of two bytes.
  pub written_decoded :
      ((s : ℕ) → s < k → get_or blocks s 0 < 65536) → (table_out written ≡ cut_to t) × (blocks_out written ≡ take k blocks)
  unfolding over
  written_decoded small =
      let w = writable t k (length blocks) (length bytes) _ refl z in
      let cut = length-take-le k blocks w.blocks_long in
      let behind = drop (length (output_bytes t front)) bytes in
      let narrow : (s : ℕ) → s < length front → get_or front s 0 < 65536
      = λ s h. let l : s < k = omega (arith, h, cut) in omega (arith, get_or-take k blocks s 0 l, small s l) in (
        ap table_out (sym over_front) ∙ table_out_lem t front behind w.valid,
        ap blocks_out (sym over_front)
            ∙ blocks_out_lem t front behind (omega (arith, w.valid.few_rows)) (omega (arith, cut, w.few)) narrow,
      )

  -- So each block that is read is below n if the blocks were.
  pub decoded_below :
      ((s : ℕ) → s < k → get_or blocks s 0 < t.n) → (s : ℕ) → s < k → get_or (blocks_out written) s 0 < t.n
  decoded_below below s h =
      let w = writable t k (length blocks) (length bytes) _ refl z in
      let n = w.valid.few_states in
      let back = (written_decoded (λ i g. omega (arith, below i g, n))).1 in
      omega (arith, ap (λ (l : List ℕ). get_or l s 0) back, get_or-take k blocks s 0 h, below s h)
