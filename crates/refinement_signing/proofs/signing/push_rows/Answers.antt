-- `push_rows` meets its contract.
use Rattle.std.proofs.Common.{◌≡◌, ℕ, ◌+◌, ◌-◌, get_or, sym, ap, arith}
use Rattle.columns.specs.Columns.{listed}
use Rattle.columns.proofs.TwoColumns.{pairs-none}
use Rattle.refinement_signing.specs.Stored.{row_pairs}
use Rattle.refinement_signing.proofs.OwnRows.{copy_more}
use Rattle.refinement_signing.proofs.signing.push_rows.Goals as goal

pub loop-d-init : goal.loop-d-init
unfolding listed
loop-d-init c = pairs-none _ _

pub loop-d-preserved : goal.loop-d-preserved
loop-d-preserved c =
    let a = c.args in
    let i : ℕ = a.first + c.loop-d.d in
    copy_more _ c.loop-d.d _ _ c.loop-d.invariant (omega arith) (omega arith) _ _
    (ap (λ (u : ℕ). (get_or a.label.now i 0, get_or a.home.now u 0)) (sym c.at.ensures.0))

pub returns : goal.returns
unfolding row_pairs
returns c =
    let e : c.loop-d.d ≡ c.args.end - c.args.first = omega arith in
    rw e at c.loop-d.invariant
