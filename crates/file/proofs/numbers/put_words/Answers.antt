-- `put_words` meets its contract.
use Rattle.std.proofs.Common.{◌≡◌, length, refl, arith}
use Rattle.columns.specs.Columns.{laid}
use Rattle.file.specs.Bytes.{words}
use Rattle.file.proofs.Stores.{stored_more, length-bytes}
use Rattle.file.proofs.numbers.put_words.Goals as goal

pub loop-i-init : goal.loop-i-init
unfolding laid
loop-i-init c = refl

pub loop-i-preserved : goal.loop-i-preserved
loop-i-preserved c = stored_more _ _ _ 2 c.loop-i.i _ _ _ (λ k. length-bytes 2 _) refl c.put_number.ensures c.loop-i.invariant

pub returns : goal.returns
unfolding words
returns c =
    let e : c.loop-i.i ≡ length c.args.cells.now = omega arith in
    rw e at c.loop-i.invariant
