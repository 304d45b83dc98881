-- `put_contents` meets its contract.
use Rattle.std.proofs.Common.{◌*◌, ◌++◌, arith}
use Rattle.file.specs.Bytes.{bytes_of}
use Rattle.file.specs.Layout.{
  header_kind,
  rows_kind,
  blocks_kind,
  header_size,
  row_size,
  block_size,
  output_entries,
  output_header,
  output_rows,
}
use Rattle.file.specs.Output.{entry, output_blocks, output_contents}
use Rattle.file.proofs.Outputs.{length-entry}
use Rattle.file.proofs.Stores.{sets_then, length-bytes}
use Rattle.file.proofs.cores.put_contents.Goals as goal

pub returns : goal.returns
unfolding output_contents
returns c =
    let a = c.args in
    let header = entry header_kind output_header header_size in
    let rows = entry rows_kind output_rows (row_size * a.m) in
    let blocks = entry blocks_kind (output_blocks a.m) (block_size * a.k) in
    sets_then a.bytes.now _ _ 0 2 (bytes_of 2 output_entries) (header ++ (rows ++ blocks)) c.put_number.ensures
    (sets_then c.put_number.new.bytes _ _ 2 12 header (rows ++ blocks) c.put_entry.ensures
    (sets_then c.put_entry.new.bytes _ _ 12 22 rows blocks c.put_entry-2.ensures c.put_entry-3.ensures
    (omega (arith, length-entry rows_kind output_rows (row_size * a.m))))
    (omega (arith, length-entry header_kind output_header header_size)))
    (omega (arith, length-bytes 2 output_entries))
