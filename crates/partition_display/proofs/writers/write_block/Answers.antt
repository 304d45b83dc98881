-- `write_block` meets its contract.
use Rattle.std.proofs.Common.{◌≡◌, ◌-◌, arith}
use Rattle.partition_display.specs.Display.{block_text}
use Rattle.partition_display.proofs.Writes.{separated-none, separated_more, separated_done}
use Rattle.partition_display.proofs.writers.write_block.Goals as goal

pub loop-i-init : goal.loop-i-init
loop-i-init c = record { short = omega arith; so_far = separated-none _ _ _ }

pub loop-i-preserved : goal.loop-i-preserved
loop-i-preserved c =
    record {
      short = omega arith;
      so_far = separated_more _ _ c.loop-i.invariant.so_far c.write_separator-next.ensures.wrote c.write_element-next.ensures.wrote;
    }

pub returns-clause-wrote : goal.returns-clause-wrote
unfolding block_text
returns-clause-wrote c =
    let e : c.loop-i.i ≡ c.args.to - c.args.from = omega arith in
    separated_done _ _ _ c.write_byte-next.ensures.wrote c.loop-i.invariant.so_far c.write_byte.ensures.wrote e
