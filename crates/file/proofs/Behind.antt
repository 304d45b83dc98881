-- A table's header and rows read back wherever their bytes stand. The columns of a table may be longer than m cells: the bytes have the
-- first m.
use Rattle.std.specs.Prelude.{◌≡◌, ℕ, zero, suc, ◌+◌, ◌*◌, ◌<◌, ◌≤◌, List, [], ◌∷◌, ◌++◌, length, get_or, take}
use native.Mathlib.Omega.{arith}
use mathlib.Core.Path.{refl, ap, ap₂, ◌∙◌}
use mathlib.Core.List.{append_assoc}
use lib.Seq.{get_or-append-add}
use Rattle.columns.specs.Columns.{laid}
use Rattle.columns.proofs.Laid.{laid_at, length_even}
use Rattle.columns.proofs.Lists.{listed-take, listed_cong}
use Rattle.table.specs.Lts.{Lts, Valid}
use Rattle.file.specs.Bytes.{little, words}
use Rattle.file.specs.Layout.{row_size, header_size}
use Rattle.file.specs.Input.{column}
use Rattle.file.specs.Output.{header_bytes, row_bytes, rows_bytes, table_bytes}
use Rattle.file.proofs.Outputs.{length_row}

-- ---- numbers behind a front of a list
pub little_at : (w : ℕ) (p q : List ℕ) (k j : ℕ) → k ≡ length p + j → little w (p ++ q) k ≡ little w q j
unfolding little
little_at zero p q k j e = refl
little_at (suc w) p q k j e =
    ap₂ (λ (x y : ℕ). x + 256 * y) (ap (λ (n : ℕ). get_or (p ++ q) n 0) e ∙ get_or-append-add p q j 0)
    (little_at w p q (k + 1) (j + 1) (omega arith))

-- ---- the fields of a row
module _ (a b c : ℕ) (r : List ℕ) where
  row_source : a < 65536 → little 2 (words (a ∷ b ∷ c ∷ []) ++ r) 0 ≡ a
  unfolding little words
  row_source h = omega arith

  row_label : b < 65536 → little 2 (words (a ∷ b ∷ c ∷ []) ++ r) 2 ≡ b
  unfolding little words
  row_label h = omega arith

  row_target : c < 65536 → little 2 (words (a ∷ b ∷ c ∷ []) ++ r) 4 ≡ c
  unfolding little words
  row_target h = omega arith

-- ---- what is read of a table whose header stands at `at`
pub record ReadBack (t : Lts) (s : List ℕ) (at : ℕ) : Type 0 where
  pub n : little 2 s at ≡ t.n
  pub labels : little 2 s (at + 2) ≡ t.labels
  pub m : little 2 s (at + 4) ≡ t.m
  pub initial : little 2 s (at + 6) ≡ t.initial
  pub source : column s (at + 8) t.m ≡ take t.m t.source
  pub label : column s (at + 10) t.m ≡ take t.m t.label
  pub target : column s (at + 12) t.m ≡ take t.m t.target

module _ (t : Lts) (v : Valid t) (lead rest : List ℕ) (at : ℕ) (e : length lead ≡ at) where
  abbrev s : List ℕ
  s = lead ++ (table_bytes t ++ rest)

  abbrev row : ℕ → List ℕ
  row = row_bytes t.source t.label t.target

  -- a number of the header
  in_header : (k j : ℕ) → k ≡ at + j → little 2 s k ≡ little 2 (table_bytes t ++ rest) j
  in_header k j h = little_at 2 lead (table_bytes t ++ rest) k j (omega arith)

  read_n : little 2 (table_bytes t ++ rest) 0 ≡ t.n
  unfolding little table_bytes
  read_n = omega (arith, v.few_states)

  read_labels : little 2 (table_bytes t ++ rest) 2 ≡ t.labels
  unfolding little table_bytes
  read_labels = omega (arith, v.few_labels)

  read_m : little 2 (table_bytes t ++ rest) 4 ≡ t.m
  unfolding little table_bytes
  read_m = omega (arith, v.few_rows)

  read_initial : little 2 (table_bytes t ++ rest) 6 ≡ t.initial
  unfolding little table_bytes
  read_initial = omega (arith, v.few_states, v.initial)

  -- a field of row i
  length-laid : (i : ℕ) → length (laid row i) ≡ row_size * i
  length-laid i = length_even row row_size i (length_row t.source t.label t.target)

  -- what comes behind the header
  behind : (k : ℕ) → little 2 (table_bytes t ++ rest) (header_size + k) ≡ little 2 (rows_bytes t ++ rest) k
  unfolding table_bytes header_bytes
  behind k = little_at 2 (header_bytes t) (rows_bytes t ++ rest) (header_size + k) k refl

  in_row : (i j : ℕ) → i < t.m → (r : List ℕ) × (little 2 s (at + (header_size + j) + row_size * i) ≡ little 2 (row i ++ r) j)
  unfolding rows_bytes
  in_row i j w =
      let q = laid_at row i t.m w in
      let k = row_size * i + j in (
        q.0 ++ rest,
        little_at 2 lead (table_bytes t ++ rest) (at + (header_size + j) + row_size * i) (header_size + k) (omega arith)
            ∙ behind k
            ∙ ap (λ (l : List ℕ). little 2 (l ++ rest) k) q.1
            ∙ ap (λ (l : List ℕ). little 2 l k) (append_assoc (laid row i) (row i ++ q.0) rest)
            ∙ little_at 2 (laid row i) ((row i ++ q.0) ++ rest) k j (omega (arith, length-laid i))
            ∙ ap (λ (l : List ℕ). little 2 l j) (append_assoc (row i) q.0 rest),
      )

  -- a field of every row, which stands j bytes from where the row begins, is a column of m cells
  read_field :
      (j : ℕ) (cells : List ℕ) → t.m ≤ length cells
      → ((i : ℕ) (r : List ℕ) → i < t.m → little 2 (row i ++ r) j ≡ get_or cells i 0)
      → column s (at + (header_size + j)) t.m ≡ take t.m cells
  unfolding column
  read_field j cells long right =
      listed_cong t.m (λ i. little 2 s (at + (header_size + j) + row_size * i)) (λ i. get_or cells i 0)
      (λ i w. let q = in_row i j w in q.1 ∙ right i q.0 w)
      ∙ listed-take t.m cells long

  read_source : column s (at + 8) t.m ≡ take t.m t.source
  unfolding row_bytes
  read_source =
      read_field 0 t.source v.long.source
      (λ i r w.
      row_source (get_or t.source i 0) (get_or t.label i 0) (get_or t.target i 0) r
      (omega (arith, v.few_states, (v.fields i w).source)))

  read_label : column s (at + 10) t.m ≡ take t.m t.label
  unfolding row_bytes
  read_label =
      read_field 2 t.label v.long.label
      (λ i r w.
      row_label (get_or t.source i 0) (get_or t.label i 0) (get_or t.target i 0) r
      (omega (arith, v.few_labels, (v.fields i w).label)))

  read_target : column s (at + 12) t.m ≡ take t.m t.target
  unfolding row_bytes
  read_target =
      read_field 4 t.target v.long.target
      (λ i r w.
      row_target (get_or t.source i 0) (get_or t.label i 0) (get_or t.target i 0) r
      (omega (arith, v.few_states, (v.fields i w).target)))

  -- The table's bytes, whatever comes before and behind them, read back.
  pub reads_back : ReadBack t s at
  reads_back = record {
    n = in_header at 0 (omega arith) ∙ read_n;
    labels = in_header (at + 2) 2 refl ∙ read_labels;
    m = in_header (at + 4) 4 refl ∙ read_m;
    initial = in_header (at + 6) 6 refl ∙ read_initial;
    source = read_source;
    label = read_label;
    target = read_target;
  }
