-- Laws of reading: a field, the lengths, the header, the rows, and what holds of a file that is not refused.
use Rattle.std.specs.Prelude.{◌≡◌, ℕ, ◌+◌, ◌*◌, ◌<◌, ◌≤◌, Bool, eqb, leb, List, [], ◌∷◌, length, take}
use native.Mathlib.Omega.{arith}
use borrow.Author.Tests.{eqb-true, leb-true, lt-leb, le-leb, eq-eqb}
use mathlib.Core.Path.{refl, ap, sym, ◌∙◌}
use Rattle.columns.specs.Answers.{Refusal, refusal}
use Rattle.columns.specs.Answers.{none}
use Rattle.columns.specs.Columns.{over}
use Rattle.columns.specs.Due.{Test, test, due, all_long, Roomy}
use Rattle.columns.specs.Limits.{max_rows, wrong_contents}
use Rattle.columns.proofs.Chains.{Holds, parted, holds_both, passed_both, none-due}
use Rattle.columns.proofs.Lists.{length-listed, take-over}
use Rattle.columns.proofs.Rooms.{roomy_of, of_roomy}
use Rattle.table.specs.declared.Table.{Table}
use Rattle.table.specs.Lts.{lts, Valid}
use Rattle.table.specs.Checks.{table_tests}
use Rattle.table.specs.Tables.{Three, columns_in, columns_over}
use Rattle.table.proofs.Refusals.{checked_of, of_checked}
use Rattle.file.specs.Bytes.{little}
use Rattle.file.specs.Layout.{row_size, rows_length_at, row_count_at, input_rows, first_source, first_label, first_target}
use Rattle.file.specs.Input.{
  header_in,
  column,
  with_rows,
  table_in,
  field_tests,
  rows_length,
  named_end,
  length_tests,
  sized_length_tests,
  sized_tests,
  contents_tests,
  file_tests,
  file_refusal,
  count_tests,
}

-- ---- the lengths, of a file of `size` bytes of which s are all or the first
module _ (s : List ℕ) (size : ℕ) where
  pub sized_no_header : size < input_rows → refusal wrong_contents size ≡ due (sized_length_tests s size)
  unfolding due
  sized_no_header h = rw (lt-leb input_rows size h)

  -- the tests with the numbers that were read
  abbrev pub sized_read_tests : ℕ → ℕ → List Test
  sized_read_tests m named =
      test (eqb named (row_size * m)) wrong_contents rows_length_at
      ∷ test (leb (input_rows + row_size * m) size) wrong_contents size
      ∷ test (leb size (input_rows + row_size * m)) wrong_contents (input_rows + row_size * m)
      ∷ []

  pub sized_lengths_read :
      input_rows ≤ size → (m named : ℕ) → m ≡ little 2 s row_count_at → named ≡ little 4 s rows_length_at
      → due (sized_read_tests m named) ≡ due (sized_length_tests s size)
  unfolding due header_in
  sized_lengths_read h m named e f = rw (← e, ← f, le-leb input_rows size h)

-- ---- rows
module _ (s : List ℕ) (from m : ℕ) where
  pub length-column : length (column s from m) ≡ m
  unfolding column
  length-column = length-listed m (λ i. little 2 s (from + row_size * i))

  pub front_column : (x l : List ℕ) → x ≡ over (column s from m) l → take m x ≡ column s from m
  front_column x l e =
      ap (take m) e ∙ ap (λ (k : ℕ). take k (over (column s from m) l)) (sym length-column) ∙ take-over (column s from m) l

-- the first m cells of columns that the rows were read into
pub rows_front :
    (t : Table) (s : List ℕ) (out : Three) (x y z : List ℕ) → ◌≡◌ {A = Three} (x, (y, z)) (columns_over (columns_in (with_rows t s)) out)
    → lts t (take t.m x) (take t.m y) (take t.m z) ≡ with_rows t s
unfolding columns_over with_rows
rows_front t s out x y z e =
    let a = front_column s first_source t.m x out.0 (ap (λ (w : Three). w.0) e) in
    let b = front_column s first_label t.m y out.1.0 (ap (λ (w : Three). w.1.0) e) in
    let c = front_column s first_target t.m z out.1.1 (ap (λ (w : Three). w.1.1) e) in
    λ i. lts t (a i) (b i) (c i)

-- a table with too many rows is refused before they are looked at
pub many-counted : (t : Table) (a b c : List ℕ) (room : Bool) → max_rows < t.m → due (table_tests (lts t a b c) room) ≡ due (count_tests t)
unfolding due
many-counted t a b c room h = rw (lt-leb t.m max_rows h)

-- ---- a file that is not refused
pub record RightContents (s : List ℕ) : Type 0 where
  pub fields : Holds (field_tests s)
  pub named : little 4 s rows_length_at ≡ rows_length s
  pub size : length s ≡ named_end s

pub sized_end : (s : List ℕ) (size : ℕ) → Holds (sized_tests s size) → size ≡ named_end s
sized_end s size h =
    let p = parted (field_tests s) (sized_length_tests s size) h in
    omega (arith, leb-true (named_end s) size p.1.1.1.0, leb-true size (named_end s) p.1.1.1.1.0)

module _ (s : List ℕ) where
  pub contents_of : Holds (contents_tests s) → RightContents s
  contents_of h =
      let p = parted (field_tests s) (length_tests s) h in
      record {
        fields = p.0;
        named = eqb-true (little 4 s rows_length_at) (rows_length s) p.1.1.0;
        size = sized_end s (length s) h;
      }

  pub of_contents : RightContents s → Holds (contents_tests s)
  of_contents c =
      holds_both (field_tests s) (length_tests s) c.fields (
        le-leb input_rows (length s) (omega (arith, c.size)),
        (
          eq-eqb (little 4 s rows_length_at) (rows_length s) c.named,
          (
            le-leb (named_end s) (length s) (omega (arith, c.size)),
            (le-leb (length s) (named_end s) (omega (arith, c.size)), tt),
          ),
        ),
      )

pub record Accepted (s columns : List ℕ) : Type 0 where
  pub contents : RightContents s
  pub valid : Valid (table_in s)
  pub room : Roomy (header_in s).m columns

module _ (s columns : List ℕ) where
  abbrev enough : Bool
  enough = all_long (header_in s).m columns

  pub accepted_of : (r : Refusal) → r ≡ file_refusal s columns → r.number ≡ 0 → Accepted s columns
  unfolding file_refusal
  accepted_of r e z =
      let p = passed_both (contents_tests s) (table_tests (table_in s) enough) refl r e z in
      let t = checked_of (table_in s) enough p.1 in
      record { contents = contents_of s p.0; valid = t.valid; room = roomy_of (header_in s).m columns t.enough }

  pub of_accepted : Accepted s columns → file_refusal s columns ≡ none
  unfolding file_refusal
  of_accepted a =
      none-due (file_tests s enough)
      (holds_both (contents_tests s) (table_tests (table_in s) enough) (of_contents s a.contents)
      (of_checked (table_in s) enough a.valid (of_roomy (header_in s).m columns a.room)))

  -- what the reader goes by, with the header that it has read
  pub record Readable (t : Table) : Type 0 where
    pub size : length s ≡ input_rows + row_size * t.m
    pub few : t.m ≤ max_rows
    pub room : Roomy t.m columns

  pub readable : (t : Table) → t ≡ header_in s → Accepted s columns → Readable t
  unfolding table_in
  readable t e a =
      let q : t.m ≡ (header_in s).m = ap (λ (u : Table). u.m) e in
      record {
        size = omega (arith, q, a.contents.size);
        few = omega (arith, q, a.valid.few_rows);
        room = rw q a.room;
      }
