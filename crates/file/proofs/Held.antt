-- Of any file, its front and its length as far as it is counted decide what is refused.
use Rattle.std.specs.Prelude.{◌≡◌, ℕ, zero, suc, ◌+◌, ◌*◌, ◌<◌, ◌≤◌, min, Bool, true, false, cond, ◌&&◌, eqb, leb, List, [], ◌∷◌, ◌++◌, length, get_or, take}
use native.Mathlib.Nat.{min-eq_left, min-eq_right, min_comm}
use native.Mathlib.Omega.{arith}
use borrow.Author.Tests.{lt-leb, le-leb}
use mathlib.Core.Logic.{⊎_elim}
use mathlib.Core.Path.{refl, ap, ap₂, sym, ◌∙◌}
use lib.ListN.{length-take}
use lib.Seq.{get_or-take, take_all}
use Rattle.columns.specs.Answers.{refusal}
use Rattle.columns.specs.Due.{Test, test, due, all_long}
use Rattle.columns.specs.Limits.{wrong_contents}
use Rattle.columns.proofs.All.{lt-or-le}
use Rattle.columns.proofs.Chains.{Holds}
use Rattle.table.specs.Checks.{table_tests}
use Rattle.table.specs.declared.Table.{Table}
use Rattle.file.specs.Bytes.{little}
use Rattle.file.specs.Layout.{
  header_kind,
  rows_kind,
  header_size,
  row_size,
  input_entries,
  entries_at,
  header_kind_at,
  header_offset_at,
  header_length_at,
  rows_kind_at,
  rows_offset_at,
  rows_length_at,
  input_header,
  states_at,
  labels_at,
  row_count_at,
  initial_at,
  input_rows,
  largest_input,
  counted,
}
use Rattle.file.specs.Input.{
  header_in,
  with_rows,
  table_in,
  field_test,
  field_tests,
  named_end,
  rows_length,
  sized_length_tests,
  contents_tests,
  count_tests,
  file_refusal,
  long_refusal,
  held_refusal,
}
use Rattle.file.proofs.Inputs.{sized_end, many-counted}

-- ---- chains with the same start: what comes behind counts where the start refuses nothing
pub due-after : (l j k : List Test) → (Holds l → due j ≡ due k) → due (l ++ j) ≡ due (l ++ k)
unfolding due
due-after [] j k h = h tt
due-after (t ∷ l) j k h = by t.0 (λ e. due-after l j k (λ g. h (e, g)))
  where
    by : (b : Bool) → (b ≡ true → due (l ++ j) ≡ due (l ++ k)) → cond b (due (l ++ j)) t.1 ≡ cond b (due (l ++ k)) t.1
    by true f = f refl
    by false f = refl

-- ---- a whole file that is longer than the longest input
pub long_whole : (s columns : List ℕ) → largest_input < length s → long_refusal s (length s) ≡ file_refusal s columns
unfolding long_refusal file_refusal table_in with_rows
long_whole s columns h =
    let t = header_in s in
    let u = table_in s in
    let room = all_long t.m columns in
    due-after (contents_tests s) (count_tests t) (table_tests u room)
    (λ p. sym (many-counted t u.source u.label u.target room (omega (arith, h, sized_end s (length s) p))))

pub held_all : (s columns : List ℕ) → held_refusal s (length s) columns ≡ file_refusal s columns
unfolding held_refusal
held_all s columns =
    ⊎_elim (λ (h : largest_input < length s). rw (lt-leb (length s) largest_input h) (long_whole s columns h))
    (λ (h : length s ≤ largest_input). rw (le-leb (length s) largest_input h)) (lt-or-le largest_input (length s))

-- ---- the front of a file has its contents and its header
little_front : (w k : ℕ) (s : List ℕ) (at : ℕ) → at + w ≤ k → little w (take k s) at ≡ little w s at
unfolding little
little_front zero k s at h = refl
little_front (suc w) k s at h =
    ap₂ (λ (x y : ℕ). x + 256 * y) (get_or-take k s at 0 (omega arith)) (little_front w k s (at + 1) (omega arith))

module _ (s : List ℕ) (k : ℕ) (held : input_rows ≤ k) (long : input_rows ≤ length s) where
  abbrev front : List ℕ
  front = take k s

  front_long : input_rows ≤ length front
  front_long = omega (arith, length-take k s)

  same_field : (w at value : ℕ) → at + w ≤ input_rows → field_test w front at value ≡ field_test w s at value
  same_field w at value h =
      let there = le-leb (at + w) (length front) (omega (arith, h, front_long)) ∙ sym (le-leb (at + w) (length s) (omega arith)) in
      λ i. test (there i && eqb (little_front w k s at (omega (arith, h)) i) value) wrong_contents at

  same_fields : field_tests front ≡ field_tests s
  same_fields = λ i.
      same_field 2 entries_at input_entries (omega arith) i
      ∷ same_field 2 header_kind_at header_kind (omega arith) i
      ∷ same_field 4 header_offset_at input_header (omega arith) i
      ∷ same_field 4 header_length_at header_size (omega arith) i
      ∷ same_field 2 rows_kind_at rows_kind (omega arith) i
      ∷ same_field 4 rows_offset_at input_rows (omega arith) i
      ∷ []

  same_header : header_in front ≡ header_in s
  unfolding header_in
  same_header = λ i. record {
    n = little_front 2 k s states_at (omega arith) i;
    labels = little_front 2 k s labels_at (omega arith) i;
    m = little_front 2 k s row_count_at (omega arith) i;
    initial = little_front 2 k s initial_at (omega arith) i;
  }

  long_front : (size : ℕ) → long_refusal front size ≡ long_refusal s size
  unfolding long_refusal
  long_front size =
      let named = little_front 4 k s rows_length_at (omega arith) in
      λ i. due ((same_fields i ++ sizes (named i) (same_header i) size) ++ count_tests (same_header i))
    where
      -- the tests of the lengths with what was read
      sizes : ℕ → Table → ℕ → List Test
      sizes named t size =
          test (leb input_rows size) wrong_contents size
          ∷ test (eqb named (row_size * t.m)) wrong_contents rows_length_at
          ∷ test (leb (input_rows + row_size * t.m) size) wrong_contents size
          ∷ test (leb size (input_rows + row_size * t.m)) wrong_contents (input_rows + row_size * t.m)
          ∷ []

-- ---- of a file that ends behind the end that it names it does not matter where
module _ (s : List ℕ) where
  past_end :
      (k : List Test) (size : ℕ) → named_end s < size
      → due (sized_length_tests s size ++ k)
      ≡ cond (eqb (little 4 s rows_length_at) (rows_length s)) (refusal wrong_contents (named_end s)) (refusal wrong_contents rows_length_at)
  unfolding due
  past_end k size h =
      rw (le-leb input_rows size (omega (arith, h)), le-leb (named_end s) size (omega (arith, h)), lt-leb size (named_end s) h)

  long_past : (a b : ℕ) → named_end s < a → named_end s < b → long_refusal s a ≡ long_refusal s b
  unfolding long_refusal
  long_past a b h g =
      let k = count_tests (header_in s) in
      due-after (field_tests s) (sized_length_tests s a ++ k) (sized_length_tests s b ++ k) (λ p. past_end k a h ∙ sym (past_end k b g))

  named_small : ((i : ℕ) → get_or s i 0 < 256) → named_end s < counted
  unfolding header_in little
  named_small small = omega (arith, small row_count_at, small (row_count_at + 1))

  long_counted : (c : ℕ) → ((i : ℕ) → get_or s i 0 < 256) → counted ≤ c → long_refusal s (min (length s) c) ≡ long_refusal s (length s)
  long_counted c small h =
      ⊎_elim
      (λ (l : c < length s).
      long_past (min (length s) c) (length s) (omega (arith, named_small small, min-eq_right {n = c} {m = length s} (omega arith)))
      (omega (arith, named_small small)))
      (λ (l : length s ≤ c). ap (long_refusal s) (min-eq_left l)) (lt-or-le c (length s))

-- ---- the laws
module _ (s columns : List ℕ) (k : ℕ) where
  -- Of any file, the first k bytes and the length as far as it is counted decide what is refused, as the whole does.
  pub held_decides :
      (c : ℕ) → ((i : ℕ) → get_or s i 0 < 256) → largest_input ≤ k → counted ≤ c
      → held_refusal (take k s) (min (length s) c) columns ≡ file_refusal s columns
  unfolding held_refusal
  held_decides c small hk hc =
      ⊎_elim
      (λ (h : largest_input < length s).
      rw (lt-leb (min (length s) c) largest_input (omega arith))
      (long_front s k (omega arith) (omega arith) (min (length s) c) ∙ long_counted s c small hc ∙ long_whole s columns h))
      (λ (h : length s ≤ largest_input).
      ap₂ (λ (l : List ℕ) (n : ℕ). held_refusal l n columns) (take_all k s (omega arith)) (min-eq_left {n = length s} {m = c} (omega arith))
      ∙ held_all s columns)
      (lt-or-le largest_input (length s))

  -- The first bytes alone do, if there are as many as are counted.
  pub cut_decides : ((i : ℕ) → get_or s i 0 < 256) → counted ≤ k → file_refusal (take k s) columns ≡ file_refusal s columns
  cut_decides small hk =
      sym (held_all (take k s) columns)
      ∙ ap (λ (n : ℕ). held_refusal (take k s) n columns) (length-take k s ∙ min_comm k (length s))
      ∙ held_decides k small (omega arith) hk
