-- A table's input file reads back to the table, and so do the rows and the header of its output file, with an input's contents before
-- them; an output file reads back to its table and its blocks. The columns of a table may be longer than m cells: a file has the first m.
use Rattle.std.specs.Prelude.{◌≡◌, ℕ, ◌+◌, ◌*◌, ◌/◌, ◌<◌, ◌≤◌, true, ◌&&◌, eqb, leb, List, [], ◌∷◌, ◌++◌, length, get_or, take, drop}
use native.Mathlib.Omega.{arith}
use borrow.Author.Tests.{le-leb, eq-eqb}
use mathlib.Core.Path.{refl, ap, sym, ◌∙◌, subst, subst⁻¹}
use mathlib.Core.List.{append_assoc, append-nil}
use lib.ListN.{length-map}
use lib.Seq.{get_or-take, length-take-le, take_all, take_at, drop_at}
use Rattle.columns.specs.Answers.{done, none}
use Rattle.columns.specs.Columns.{listed, laid, over}
use Rattle.columns.specs.Due.{Roomy}
use Rattle.columns.specs.Rows.{row_in}
use Rattle.columns.specs.Sets.{Row}
use Rattle.columns.proofs.Bools.{and_both}
use Rattle.columns.proofs.Chains.{Holds}
use Rattle.columns.proofs.Laid.{laid_at, length_even}
use Rattle.columns.proofs.Lists.{listed_cong, listed_cells}
use Rattle.columns.proofs.Saying.{left_done}
use Rattle.table.specs.Lts.{Lts, Valid, row_at}
use Rattle.table.specs.Tables.{Three, lengths_of, header_values, columns_in, columns_over, table_of}
use Rattle.file.specs.Bytes.{little, bytes_of, words}
use Rattle.file.specs.Layout.{
  rows_length_at,
  input_header,
  input_rows,
  row_size,
  block_size,
  header_size,
  blocks_offset_at,
  blocks_length_at,
  output_header,
  output_rows,
  first_source,
  first_label,
  first_target,
}
use Rattle.file.specs.Input.{header_in, column, table_in, field_tests, file_refusal, read_file}
use Rattle.file.specs.Output.{table_bytes, input_contents, input_bytes, output_blocks, output_contents, output_bytes}
use Rattle.file.specs.Decoded.{table_out, blocks_out}
use Rattle.file.proofs.Behind.{little_at, ReadBack, reads_back}
use Rattle.file.proofs.Inputs.{Accepted, of_accepted}
use Rattle.file.proofs.Outputs.{length_table, length_before}
use Rattle.file.proofs.Stores.{length-bytes}

-- the table with columns of m cells
abbrev pub cut_to : Lts → Lts
cut_to t = record {
  n = t.n;
  labels = t.labels;
  m = t.m;
  initial = t.initial;
  source = take t.m t.source;
  label = take t.m t.label;
  target = take t.m t.target;
}

module _ (t : Lts) (v : Valid t) where
  abbrev s : List ℕ
  s = input_bytes t

  length_input : length s ≡ input_rows + row_size * t.m
  unfolding input_bytes input_contents
  length_input = omega (arith, length_table t)

  read : ReadBack t s input_header
  unfolding input_bytes input_contents
  read =
      subst (λ (l : List ℕ). ReadBack t (input_contents t.m ++ l) input_header) (append-nil (table_bytes t))
      (reads_back t v (input_contents t.m) [] input_header refl)

  read_size : little 4 s rows_length_at ≡ row_size * t.m
  unfolding little input_bytes
  read_size = omega (arith, v.few_rows)

  read_m : (header_in s).m ≡ t.m
  unfolding header_in
  read_m = read.m

  -- The table in a table's file is the table.
  pub table_back : table_in (input_bytes t) ≡ cut_to t
  unfolding table_in
  table_back = λ i. record {
    n = read.n i;
    labels = read.labels i;
    m = read.m i;
    initial = read.initial i;
    source = (ap (column s first_source) read.m ∙ read.source) i;
    label = (ap (column s first_label) read.m ∙ read.label) i;
    target = (ap (column s first_target) read.m ∙ read.target) i;
  }

  -- ---- the file is not refused
  field_right : (w at x : ℕ) → at + w ≤ input_rows → little w s at ≡ x → (leb (at + w) (length s) && eqb (little w s at) x) ≡ true
  field_right w at x h e = and_both (le-leb (at + w) (length s) (omega (arith, length_input))) (eq-eqb (little w s at) x e)

  fields_right : Holds (field_tests s)
  unfolding little input_bytes
  fields_right = (
    field_right 2 0 2 (omega arith) refl,
    (
      field_right 2 2 1 (omega arith) refl,
      (
        field_right 4 4 22 (omega arith) refl,
        (
          field_right 4 8 8 (omega arith) refl,
          (field_right 2 12 2 (omega arith) refl, (field_right 4 14 30 (omega arith) refl, tt)),
        ),
      ),
    ),
  )

  same_row : (i : ℕ) → i < t.m → row_at (cut_to t) i ≡ row_at t i
  unfolding row_in
  same_row i w =
      λ k. (get_or-take t.m t.source i 0 w k, (get_or-take t.m t.label i 0 w k, get_or-take t.m t.target i 0 w k))

  cut_valid : Valid (cut_to t)
  cut_valid = record {
    some_states = v.some_states;
    few_states = v.few_states;
    some_labels = v.some_labels;
    few_labels = v.few_labels;
    few_rows = v.few_rows;
    initial = v.initial;
    long = record {
      source = omega (arith, length-take-le t.m t.source v.long.source);
      label = omega (arith, length-take-le t.m t.label v.long.label);
      target = omega (arith, length-take-le t.m t.target v.long.target);
    };
    fields = λ i w. record {
      source = omega (arith, get_or-take t.m t.source i 0 w, (v.fields i w).source);
      label = omega (arith, get_or-take t.m t.label i 0 w, (v.fields i w).label);
      target = omega (arith, get_or-take t.m t.target i 0 w, (v.fields i w).target);
    };
    ascending = λ i j h w. rw (same_row i (omega arith), same_row j w) (v.ascending i j h w);
  }

  pub accepted_input : (columns : List ℕ) → Roomy t.m columns → Accepted s columns
  accepted_input columns room = record {
    contents = record {
      fields = fields_right;
      named = read_size ∙ ap (λ (m : ℕ). row_size * m) (sym read_m);
      size = omega (arith, length_input, read_m);
    };
    valid = subst⁻¹ Valid table_back cut_valid;
    room = rw read_m room;
  }

  -- Reading it says the header, and leaves the rows over the first cells.
  pub read_back :
      (out : Three) → Roomy t.m (lengths_of out)
      → read_file (input_bytes t) out ≡ (done (t.n ∷ t.labels ∷ t.m ∷ t.initial ∷ []), columns_over (columns_in (cut_to t)) out)
  unfolding read_file
  read_back out room =
      sym (left_done (file_refusal s (lengths_of out)) none (sym (of_accepted s (lengths_of out) (accepted_input (lengths_of out) room))) out
      (columns_over (columns_in (table_in s)) out) (header_values (header_in s)) (done (header_values (header_in s))) _ refl refl refl)
      ∙ ap (λ (u : Lts). (done (u.n ∷ u.labels ∷ u.m ∷ u.initial ∷ []), columns_over (columns_in u) out)) table_back

-- ---- an output file: the number in the place of a block is the block
module _ (l r : List ℕ) where
  word_at : (i : ℕ) → i < length l → get_or l i 0 < 65536 → little 2 (words l ++ r) (2 * i) ≡ get_or l i 0
  unfolding words little bytes_of
  word_at i h small =
      let f : ℕ → List ℕ = λ k. bytes_of 2 (get_or l k 0) in
      let q = laid_at f i (length l) h in
      ap (λ (x : List ℕ). little 2 (x ++ r) (2 * i)) q.1
      ∙ ap (λ (x : List ℕ). little 2 x (2 * i)) (append_assoc (laid f i) (f i ++ q.0) r)
      ∙ little_at 2 (laid f i) ((f i ++ q.0) ++ r) (2 * i) 0 (omega (arith, length_even f 2 i (λ k. length-bytes 2 (get_or l k 0))))
      ∙ omega (arith, small)

pub block_back :
    (t : Lts) (blocks r : List ℕ) (s : ℕ) → s < length blocks → get_or blocks s 0 < 65536
    → little 2 (output_bytes t blocks ++ r) (output_blocks t.m + block_size * s) ≡ get_or blocks s 0
unfolding output_bytes
block_back t blocks r s h small =
    let before = output_contents t.m (length blocks) ++ table_bytes t in
    ap (λ (x : List ℕ). little 2 (x ++ r) (output_blocks t.m + block_size * s))
    (sym (append_assoc (output_contents t.m (length blocks)) (table_bytes t) (words blocks)))
    ∙ ap (λ (x : List ℕ). little 2 x (output_blocks t.m + block_size * s)) (append_assoc before (words blocks) r)
    ∙ little_at 2 before (words blocks ++ r) (output_blocks t.m + block_size * s) (2 * s) (omega (arith, length_before t (length blocks)))
    ∙ word_at blocks r s h small

-- ---- an output file: its header and rows are those of the input file
module _ (t : Lts) (blocks r : List ℕ) where
  abbrev front_contents : List ℕ
  front_contents = output_contents t.m (length blocks)

  -- how many bytes kinds 1 and 2 have
  abbrev pub table_size : ℕ
  table_size = header_size + row_size * t.m

  length_contents : length front_contents ≡ output_header
  unfolding output_contents
  length_contents = refl

  -- What the writer writes has the table's bytes behind the contents, whatever follows.
  pub bodies_back : take table_size (drop output_header (output_bytes t blocks ++ r)) ≡ table_bytes t
  unfolding output_bytes
  bodies_back =
      ap (λ (x : List ℕ). take table_size (drop output_header x)) (append_assoc front_contents (table_bytes t ++ words blocks) r)
      ∙ ap (λ (x : List ℕ). take table_size x) (drop_at front_contents ((table_bytes t ++ words blocks) ++ r) output_header length_contents)
      ∙ ap (λ (x : List ℕ). take table_size x) (append_assoc (table_bytes t) (words blocks) r)
      ∙ take_at (table_bytes t) (words blocks ++ r) table_size (length_table t)

  -- So header and rows of what the writer writes, with an input's contents before them, read back to the same table.
  pub written_back :
      Valid t → table_in (input_contents t.m ++ take table_size (drop output_header (output_bytes t blocks ++ r))) ≡ cut_to t
  unfolding input_bytes
  written_back v = ap (λ (x : List ℕ). table_in (input_contents t.m ++ x)) bodies_back ∙ table_back t v

-- ---- an output file: its table and its blocks
module _ (t : Lts) (blocks r : List ℕ) where
  abbrev file : List ℕ
  file = output_bytes t blocks ++ r

  in_file : output_contents t.m (length blocks) ++ (table_bytes t ++ (words blocks ++ r)) ≡ file
  unfolding output_bytes
  in_file =
      let front = output_contents t.m (length blocks) in
      ap (λ (l : List ℕ). front ++ l) (sym (append_assoc (table_bytes t) (words blocks) r))
      ∙ sym (append_assoc front (table_bytes t ++ words blocks) r)

  -- The table in it is the table, with columns of m cells.
  pub table_out_lem : Valid t → table_out file ≡ cut_to t
  unfolding table_out output_contents
  table_out_lem v =
      let read : ReadBack t file output_header
      = subst (λ (l : List ℕ). ReadBack t l output_header) in_file
      (reads_back t v (output_contents t.m (length blocks)) (words blocks ++ r) output_header refl) in
      λ i. record {
        n = read.n i;
        labels = read.labels i;
        m = read.m i;
        initial = read.initial i;
        source = (ap (column file output_rows) read.m ∙ read.source) i;
        label = (ap (column file (output_rows + 2)) read.m ∙ read.label) i;
        target = (ap (column file (output_rows + 4)) read.m ∙ read.target) i;
      }

  named_offset : t.m < 65536 → little 4 file blocks_offset_at ≡ output_blocks t.m
  unfolding little output_bytes
  named_offset h = omega (arith, h)

  named_length : length blocks < 65536 → little 4 file blocks_length_at ≡ block_size * length blocks
  unfolding little output_bytes
  named_length h = omega (arith, h)

  -- The blocks in it are the blocks.
  pub blocks_out_lem :
      t.m < 65536 → length blocks < 65536 → ((i : ℕ) → i < length blocks → get_or blocks i 0 < 65536) → blocks_out file ≡ blocks
  unfolding blocks_out
  blocks_out_lem few short small =
      let half : little 4 file blocks_length_at / block_size ≡ length blocks = omega (arith, named_length short) in
      (λ k. listed (half k) (λ i. little 2 file (named_offset few k + block_size * i)))
      ∙ listed_cong (length blocks) (λ i. little 2 file (output_blocks t.m + block_size * i)) (λ i. get_or blocks i 0)
      (λ i h. block_back t blocks r i h (small i h))
      ∙ listed_cells blocks

-- columns of m cells, and no more
pub record Exact (t : Lts) : Type 0 where
  pub source : length t.source ≡ t.m
  pub label : length t.label ≡ t.m
  pub target : length t.target ≡ t.m

-- those of a list of rows
pub exact_rows : (n labels initial : ℕ) (l : List Row) → Exact (table_of n labels initial l)
unfolding table_of
exact_rows n labels initial l = record {
  source = length-map l (λ (r : Row). r.0);
  label = length-map l (λ (r : Row). r.1.0);
  target = length-map l (λ (r : Row). r.1.1);
}

cut_exact : (t : Lts) → Exact t → cut_to t ≡ t
cut_exact t e = λ i. record {
  n = t.n;
  labels = t.labels;
  m = t.m;
  initial = t.initial;
  source = take_all t.m t.source (omega (arith, e.source)) i;
  label = take_all t.m t.label (omega (arith, e.label)) i;
  target = take_all t.m t.target (omega (arith, e.target)) i;
}

-- An output file, over whatever bytes there were, reads back: its table and its blocks.
pub output_back :
    (t : Lts) (blocks bytes : List ℕ) → Valid t → Exact t → length blocks < 65536
    → ((i : ℕ) → i < length blocks → get_or blocks i 0 < 65536)
    → (table_out (over (output_bytes t blocks) bytes) ≡ t) × (blocks_out (over (output_bytes t blocks) bytes) ≡ blocks)
unfolding over
output_back t blocks bytes v e short small =
    let r = drop (length (output_bytes t blocks)) bytes in
    (table_out_lem t blocks r v ∙ cut_exact t e, blocks_out_lem t blocks r (omega (arith, v.few_rows)) short small)
