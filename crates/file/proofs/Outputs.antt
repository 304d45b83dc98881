-- Laws of writing: what holds where it is not refused, and the bytes put one run behind the other.
use Rattle.std.specs.Prelude.{◌≡◌, ℕ, ◌+◌, ◌*◌, ◌≤◌, leb, List, [], ◌∷◌, ◌++◌, length}
use native.Mathlib.Omega.{arith}
use borrow.Author.Tests.{leb-true}
use mathlib.Core.Path.{refl, ap, sym, ◌∙◌}
use mathlib.Core.List.{append_assoc}
use lib.ListN.{length-append}
use lib.Seq.{sets}
use Rattle.columns.specs.Answers.{Refusal}
use Rattle.columns.specs.Columns.{over}
use Rattle.columns.specs.Due.{states_test, room_test}
use Rattle.columns.specs.Limits.{max_states}
use Rattle.columns.proofs.Chains.{passed, parted}
use Rattle.columns.proofs.Rooms.{range_of}
use Rattle.table.specs.Lts.{Lts, Valid}
use Rattle.table.specs.Checks.{table_tests}
use Rattle.table.proofs.Refusals.{checked_of}
use Rattle.file.specs.Bytes.{words}
use Rattle.file.specs.Layout.{header_size, row_size, output_header, output_rows}
use Rattle.file.specs.Output.{
  entry,
  header_bytes,
  row_bytes,
  rows_bytes,
  table_bytes,
  output_blocks,
  output_contents,
  output_bytes,
  output_size,
  write_refusal,
}
use Rattle.file.proofs.Stores.{sets_then, sets_over, length-words}
use Rattle.columns.proofs.Laid.{length_even}

-- ---- what the writer goes by
module _ (t : Lts) (k blocks room : ℕ) where
  pub record Writable : Type 0 where
    pub some : 1 ≤ k
    pub few : k ≤ max_states
    pub valid : Valid t
    pub blocks_long : k ≤ blocks
    pub enough : output_size t.m k ≤ room

  pub writable : (r : Refusal) → r ≡ write_refusal t k blocks room → r.number ≡ 0 → Writable
  unfolding write_refusal
  writable r e z =
      let last = room_test (output_size t.m k) room in
      let h = passed (states_test k ∷ (table_tests t (leb k blocks) ++ (last ∷ []))) refl r e z in
      let w = range_of 1 k max_states h.0 in
      let p = parted (table_tests t (leb k blocks)) (last ∷ []) h.1 in
      let c = checked_of t (leb k blocks) p.0 in
      record {
        some = w.0;
        few = w.1;
        valid = c.valid;
        blocks_long = leb-true k blocks c.enough;
        enough = leb-true (output_size t.m k) room p.1.0;
      }

-- ---- how many bytes
pub length-entry : (kind offset size : ℕ) → length (entry kind offset size) ≡ 10
unfolding entry
length-entry kind offset size = refl

length_contents : (m k : ℕ) → length (output_contents m k) ≡ output_header
unfolding output_contents
length_contents m k = refl

pub length_row : (source label target : List ℕ) (i : ℕ) → length (row_bytes source label target i) ≡ row_size
unfolding row_bytes
length_row source label target i = refl

module _ (t : Lts) where
  length_header : length (header_bytes t) ≡ header_size
  unfolding header_bytes
  length_header = refl

  length-rows : length (rows_bytes t) ≡ row_size * t.m
  unfolding rows_bytes
  length-rows = length_even (row_bytes t.source t.label t.target) row_size t.m (length_row t.source t.label t.target)

  pub length_table : length (table_bytes t) ≡ header_size + row_size * t.m
  unfolding table_bytes
  length_table = length-append (header_bytes t) (rows_bytes t) ∙ omega (arith, length_header, length-rows)

  -- what comes before the blocks
  pub length_before : (k : ℕ) → length (output_contents t.m k ++ table_bytes t) ≡ output_blocks t.m
  length_before k =
      length-append (output_contents t.m k) (table_bytes t) ∙ omega (arith, length_contents t.m k, length_table)

-- ---- kinds 1, 2 and 3 after the contents
module _ (t : Lts) (blocks : List ℕ) where
  abbrev contents : List ℕ
  contents = output_contents t.m (length blocks)

  in_order : contents ++ (header_bytes t ++ (rows_bytes t ++ words blocks)) ≡ output_bytes t blocks
  unfolding output_bytes table_bytes
  in_order = ap (λ (l : List ℕ). contents ++ l) (sym (append_assoc (header_bytes t) (rows_bytes t) (words blocks)))

  pub length_output : length (output_bytes t blocks) ≡ output_size t.m (length blocks)
  length_output =
      ap length (sym in_order)
      ∙ omega (
        arith,
        length-append contents (header_bytes t ++ (rows_bytes t ++ words blocks)),
        length-append (header_bytes t) (rows_bytes t ++ words blocks),
        length-append (rows_bytes t) (words blocks),
        length_contents t.m (length blocks),
        length_header t,
        length-rows t,
        length-words blocks,
      )

  pub output_over :
      (b x y z w : List ℕ) → output_size t.m (length blocks) ≤ length b → x ≡ sets b 0 contents → y ≡ sets x output_header (header_bytes t)
      → z ≡ sets y output_rows (rows_bytes t) → w ≡ sets z (output_blocks t.m) (words blocks) → w ≡ over (output_bytes t blocks) b
  output_over b x y z w h e f g i =
      let rest = rows_bytes t ++ words blocks in
      sets_then b x w 0 output_header contents (header_bytes t ++ rest) e
      (sets_then x y w output_header output_rows (header_bytes t) rest f
      (sets_then y z w output_rows (output_blocks t.m) (rows_bytes t) (words blocks) g i (omega (arith, length-rows t)))
      (omega (arith, length_header t)))
      (omega (arith, length_contents t.m (length blocks)))
      ∙ ap (sets b 0) in_order
      ∙ sets_over b (output_bytes t blocks) (omega (arith, length_output, h))
