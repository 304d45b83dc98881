-- `turn_rows` meets its contract.
use Rattle.std.proofs.Common.{arith}
use Rattle.table.specs.Lts.{lts_of}
use Rattle.table.proofs.Starts.{turned_with_starts}
use Rattle.table.proofs.Stretches.{rising}
use Rattle.table.proofs.Turning.{few_turned, turned_of}
use Rattle.table.proofs.Lts.turn_rows.Goals as goal

pub list_starts-requires : goal.list_starts-requires
list_starts-requires c =
    let t = lts_of c.args.self.now in
    let e = c.row_set-r.ensures in
    let v = (turned_of t c.requires.valid _ c.args.back_source.now c.args.back_label.now c.args.back_target.now _ _ _ e.value e.x_value e.y_value e.z_value).turned in
    (v.long.source, rising _ v, omega (arith, e.value, few_turned t c.requires.valid, c.requires.valid.few_rows))

pub list_starts-requires-2 : goal.list_starts-requires-2
list_starts-requires-2 c =
    let v = c.requires.valid in
    (v.long.source, rising _ v, omega (arith, v.few_rows))

pub overflow_cast-result : goal.overflow_cast-result
overflow_cast-result c = omega (arith, c.row_set-r.ensures.value, few_turned (lts_of c.args.self.now) c.requires.valid, c.requires.valid.few_rows)

pub returns-clause-fact : goal.returns-clause-fact
returns-clause-fact c =
    let t = lts_of c.args.self.now in
    let e = c.row_set-r.ensures in
    let x = c.list_starts in
    let z = c.list_starts-2 in
    turned_with_starts t c.requires.valid c.row_set-r.result c.args.back_source.now c.args.back_label.now c.args.back_target.now
    c.row_set-r.new.x c.row_set-r.new.y c.row_set-r.new.z x.new.starts z.new.starts _ _ e.value e.x_value e.y_value e.z_value
    (omega (arith, c.requires.m_in_bounds.1, c.row_set-r.auto.y)) (omega (arith, c.requires.m_in_bounds_2.0, c.row_set-r.auto.z)) x.ensures z.ensures
