-- `list_starts` meets its contract.
use Rattle.std.proofs.Common.{◌+◌, arith}
use Rattle.columns.proofs.Lists.{painted_none, painted_more}
use Rattle.table.proofs.RowsOf.{first_row_is, first_row_most, first_row_up}
use Rattle.table.proofs.cores.list_starts.Goals as goal

pub loop-s-init : goal.loop-s-init
loop-s-init c = record {
  begin = first_row_is c.args.source.now c.args.m 0 0 (omega arith) (λ i h. absurd (omega (arith, h))) (λ i h l. omega arith);
  written = painted_none _ _ _;
}

pub overflow_cast-start : goal.overflow_cast-start
overflow_cast-start c = omega (arith, first_row_most c.args.source.now c.args.m c.loop-s.s)

pub run_end-i-requires : goal.run_end-i-requires
run_end-i-requires c =
    let s = c.loop-s.s in
    (c.requires.0, c.requires.1, omega (arith, first_row_up c.args.source.now c.args.m s (s + 1) (omega arith)))

pub loop-s-preserved : goal.loop-s-preserved
loop-s-preserved c =
    let i = c.loop-s.invariant in
    record {
      begin = c.run_end-i.ensures;
      written = painted_more _ _ _ _ _ _ (omega arith) (omega arith) i.begin i.written;
    }
