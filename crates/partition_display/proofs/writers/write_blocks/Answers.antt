-- `write_blocks` meets its contract.
use Rattle.std.proofs.Common.{◌≡◌, arith}
use Rattle.partition_display.specs.Display.{blocks_text}
use Rattle.partition_display.proofs.Writes.{separated-none, separated_more, separated_done}
use Rattle.partition_display.proofs.writers.write_blocks.Goals as goal

pub loop-b-init : goal.loop-b-init
loop-b-init c = record { short = omega arith; so_far = separated-none _ _ _ }

pub loop-b-preserved : goal.loop-b-preserved
loop-b-preserved c =
    let r = c.requires.blocks c.loop-b.b (omega arith) in
    let w = rw (c.at-from.ensures.0, c.at-split.ensures.0, c.at-to.ensures.0) at c.write_block-next.ensures.wrote in
    record {
      short = omega arith;
      so_far = separated_more _ _ c.loop-b.invariant.so_far c.write_separator-next.ensures.wrote w;
    }

pub returns : goal.returns
unfolding blocks_text
returns c =
    let e : c.loop-b.b ≡ c.args.count = omega arith in
    separated_done _ _ _ c.write_byte-next.ensures.wrote c.loop-b.invariant.so_far c.write_byte.ensures.wrote e
