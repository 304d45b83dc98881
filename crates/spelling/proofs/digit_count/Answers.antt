use Rattle.std.proofs.Common.{ℕ, ◌/◌, ap, ◌∙◌, arith}
use Rattle.spelling.proofs.Spelled.{twice_div, left_one, left_more, more_left, none_left}
use Rattle.spelling.proofs.digit_count.Goals as goal

pub loop-rest-init : goal.loop-rest-init
loop-rest-init c = (omega arith, omega (arith, twice_div c.args.number), left_one c.args.number, omega arith)

pub loop-rest-smaller : goal.loop-rest-smaller
loop-rest-smaller c = omega (arith, twice_div c.loop-rest.rest)

pub loop-rest-preserved : goal.loop-rest-preserved
loop-rest-preserved c =
    let l = c.loop-rest in
    let n = c.args.number in (
      omega arith,
      omega (arith, twice_div l.rest),
      ap (λ (m : ℕ). m / 10) l.invariant.2 ∙ left_more n l.count,
      λ _. more_left n l.count (omega arith),
    )

pub returns : goal.returns
returns c =
    let l = c.loop-rest in
    (omega arith, none_left c.args.number l.count (omega arith), λ more. l.invariant.3 (omega arith))
