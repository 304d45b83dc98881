-- `write` meets its contract.
use Rattle.std.proofs.Common.{arith}
use Rattle.table.specs.Lts.{lts_of}
use Rattle.file.specs.Output.{header_bytes}
use Rattle.file.proofs.Outputs.{output_over}
use Rattle.file.proofs.cores.write.Goals as goal

pub returns : goal.returns
unfolding header_bytes
returns c =
    output_over (lts_of c.args.system.now) c.args.blocks.now c.args.bytes.now _ _ _ _ (omega arith) c.put_contents.ensures c.put_words.ensures
    c.put_rows.ensures c.put_words-2.ensures
