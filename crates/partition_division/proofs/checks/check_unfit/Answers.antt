-- `check_unfit` meets its contract.
use Rattle.std.proofs.Common.{refl, Ok}
use Rattle.partition.specs.Partition.{parts_of}
use Rattle.partition_division.proofs.Unfit.{unfit_nine, unfit_alone, unfit_ten}
use Rattle.partition_division.proofs.checks.check_unfit.Goals as goal

pub returns-in_err-refuse_unless : goal.returns-in_err-refuse_unless
returns-in_err-refuse_unless c k =
    unfit_nine (parts_of c.args.columns.now c.args.n k) c.args.b c.args.numbers.now _ _ c.at-m.ensures.0 c.at-z.ensures.0 _ _
    c.in_err-refuse_unless.ensures c.from_residual.ensures.1

pub returns-then-z-x-eq1 : goal.returns-then-z-x-eq1
returns-then-z-x-eq1 c k =
    unfit_alone (parts_of c.args.columns.now c.args.n k) c.args.b c.args.numbers.now _ _ c.at-m.ensures.0 c.at-z.ensures.0 (Ok tt)
    c.in_ok-refuse_unless.ensures _ c.at-x.ensures.0 c.if-z-x-eq1.true refl

pub returns : goal.returns
returns c k =
    unfit_ten (parts_of c.args.columns.now c.args.n k) c.args.b c.args.numbers.now _ _ c.at-m.ensures.0 c.at-z.ensures.0 _
    c.in_ok-refuse_unless.ensures _ c.at-x.ensures.0 c.if-z-x-eq1.false _ _ c.least_missing-j.ensures c.all_below-dense.ensures
    c.refuse_unless-2.ensures
