-- `put_entry` meets its contract.
use Rattle.std.proofs.Common.{◌+◌, ◌++◌, arith}
use Rattle.file.specs.Bytes.{bytes_of}
use Rattle.file.specs.Output.{entry}
use Rattle.file.proofs.Stores.{sets_then, length-bytes}
use Rattle.file.proofs.cores.put_entry.Goals as goal

pub returns : goal.returns
unfolding entry
returns c =
    let a = c.args in
    let kind = bytes_of 2 a.kind in
    let offset = bytes_of 4 a.offset in
    let size = bytes_of 4 a.size in
    sets_then a.bytes.now _ _ a.at (a.at + 2) kind (offset ++ size) c.put_number.ensures
    (sets_then c.put_number.new.bytes _ _ (a.at + 2) (a.at + 6) offset size c.put_number-2.ensures c.put_number-3.ensures
    (omega (arith, length-bytes 4 a.offset)))
    (omega (arith, length-bytes 2 a.kind))
