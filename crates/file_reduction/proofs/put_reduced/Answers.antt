-- `put_reduced` meets its contract.
use Rattle.std.proofs.Common.{length, get_or, ap, ◌∙◌, arith}
use Rattle.file_reduction.proofs.Ties.{put_reduced}
use Rattle.reduction.proofs.Entries.{length-blocks, few_blocks, few_rows}
use Rattle.table.specs.Lts.{lts_of}
use Rattle.table.specs.Tables.{rows_over}
use Rattle.file_reduction.proofs.put_reduced.Goals as goal

pub overflow_cast-table : goal.overflow_cast-table
overflow_cast-table c = omega (arith, c.requires.3, few_blocks (lts_of c.args.system.now) c.requires.0)

pub overflow_cast-table-2 : goal.overflow_cast-table-2
overflow_cast-table-2 c = omega (arith, c.rows_between-rows.ensures.0, few_rows (lts_of c.args.system.now) c.requires.0)

pub bounds-block-system : goal.bounds-block-system
bounds-block-system c =
    omega (arith, ap length c.requires.1, length-blocks (lts_of c.args.system.now), c.requires.0.initial)

pub put_file-requires : goal.put_file-requires
put_file-requires c =
    let t = lts_of c.args.system.now in
    let few = few_rows t c.requires.0 in
    let rows = c.rows_between-rows.ensures.0 in (
      record { source = omega (arith, rows, few); label = omega (arith, rows, few); target = omega (arith, rows, few) },
      omega (arith, ap length c.requires.1, length-blocks t, c.requires.0.few_states),
    )

pub returns : goal.returns
unfolding rows_over
returns c =
    let g = c.args in
    let t = g.system.now in
    let q = c.requires in
    let r = c.rows_between-rows.ensures in
    c.put_file.ensures
    ∙ put_reduced t.table t.source.now t.label.now t.target.now _ _ _ _ g.output.now
    q.2
    (λ i. record {
      n = q.3 i;
      labels = t.table.labels;
      m = r.0 i;
      initial = get_or (q.1 i) t.table.initial 0;
      source = (r.1 i).0;
      label = (r.1 i).1.0;
      target = (r.1 i).1.1;
    })
    q.1
