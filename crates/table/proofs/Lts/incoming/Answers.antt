-- `incoming` meets its contract.
use Rattle.std.proofs.Common.{length, sym, ap, ◌∙◌, refl, arith}
use lib.Seq.{length-take-le}
use Rattle.columns.specs.Answers.{none, said_number}
use Rattle.columns.specs.Columns.{wiped}
use Rattle.columns.proofs.Lists.{wiped-zeros}
use Rattle.columns.proofs.Saying.{left_refused, left_done, numbered}
use Rattle.table.specs.Incoming.{incoming_refusal, incoming_rows}
use Rattle.table.specs.Lts.{lts_of}
use Rattle.table.proofs.Incomings.{incoming_ready, incoming_over}
use Rattle.table.proofs.Lts.incoming.Goals as goal

pub returns-in-Err : goal.returns-in-Err
unfolding incoming_rows
returns-in-Err c =
    left_refused (incoming_refusal (lts_of c.args.self.now) (length c.args.incoming.now) (length c.args.spare.now)) _ c.in-Err.ensures _ _ _ _
    (numbered _) (ap said_number c.refused.ensures)

pub slice_bounds-sort_incoming-end : goal.slice_bounds-sort_incoming-end
slice_bounds-sort_incoming-end c = (incoming_ready (lts_of c.args.self.now) _ _ none c.in_default.ensures refl).long

pub slice_bounds-sort_incoming-end-2 : goal.slice_bounds-sort_incoming-end-2
slice_bounds-sort_incoming-end-2 c =
    sym (length-take-le _ c.args.incoming.now (incoming_ready (lts_of c.args.self.now) _ _ none c.in_default.ensures refl).long)

pub sort_incoming-requires : goal.sort_incoming-requires
sort_incoming-requires c =
    let q = incoming_ready (lts_of c.args.self.now) _ _ none c.in_default.ensures refl in
    let lt = length-take-le _ c.args.incoming.now q.long in
    (omega (arith, lt, q.valid.few_rows), omega (arith, lt, q.wide, c.clear.auto.a))

pub returns : goal.returns
unfolding incoming_rows
returns c =
    let t = lts_of c.args.self.now in
    let q = incoming_ready t _ _ none c.in_default.ensures refl in
    let lt = length-take-le t.m c.args.incoming.now q.long in
    let z = c.sort_incoming.ensures.spare_value ∙
    (ap (wiped _) c.clear.ensures ∙ wiped-zeros _ (length c.args.spare.now) (omega (arith, lt, q.wide))) in
    left_done (incoming_refusal t (length c.args.incoming.now) (length c.args.spare.now)) none c.in_default.ensures _ _ _ _ _ refl
    (ap said_number c.done.ensures) (λ i. (incoming_over t c.args.incoming.now _ q.long c.sort_incoming.ensures.order_value i, z i))
