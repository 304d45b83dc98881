-- `put_number` meets its contract.
use Rattle.std.proofs.Common.{[], arith}
use Rattle.file.proofs.Digits.{put_none, put_more, put_done}
use Rattle.file.proofs.numbers.put_number.Goals as goal

pub loop-byte-init : goal.loop-byte-init
loop-byte-init c = put_none c.args.width c.args.x []

pub loop-byte-preserved : goal.loop-byte-preserved
loop-byte-preserved c = put_more _ _ _ _ _ (omega arith) (omega arith) c.loop-byte.invariant

pub returns : goal.returns
returns c = put_done _ _ _ _ _ _ _ _ (omega arith) (omega arith) (omega arith) (omega arith) c.loop-byte.invariant
