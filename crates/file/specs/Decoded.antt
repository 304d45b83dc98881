-- What stands in an output file: a table, and the block of each source state.
use Rattle.std.specs.Prelude.{ℕ, ◌+◌, ◌*◌, ◌/◌, List}
use Rattle.columns.specs.Columns.{listed}
use Rattle.table.specs.declared.Table.{Table}
use Rattle.table.specs.Lts.{Lts, lts}
use Rattle.file.specs.Bytes.{little}
use Rattle.file.specs.Input.{column}
use Rattle.file.specs.Layout.{block_size, output_header, output_rows, blocks_offset_at, blocks_length_at}

unfoldable pub header_out : List ℕ → Table
unfolding little
header_out s = record {
  n = little 2 s output_header;
  labels = little 2 s (output_header + 2);
  m = little 2 s (output_header + 4);
  initial = little 2 s (output_header + 6);
}

unfoldable pub table_out : List ℕ → Lts
unfolding header_out column
table_out s =
    let t = header_out s in
    lts t (column s output_rows t.m) (column s (output_rows + 2) t.m) (column s (output_rows + 4) t.m)

-- where the blocks begin and how many bytes they have is named by the third entry of the contents
unfoldable pub blocks_out : List ℕ → List ℕ
unfolding listed little
blocks_out s = listed (little 4 s blocks_length_at / block_size) (λ i. little 2 s (little 4 s blocks_offset_at + block_size * i))
