use Rattle.std.proofs.Common.{◌≤◌, length, refl, sym, ◌∙◌, arith}
use lib.ListN.{length-set}
use lib.Seq.{length-take-le}
use Rattle.spelling.proofs.Spelled.{fewest_digits, few_digits, digit_more}
use Rattle.spelling.proofs.Writing.{digits_none, digits_all}
use Rattle.spelling.proofs.decimal.Goals as goal
use Rattle.spelling.proofs.decimal.Goals.{After-digit_count-count}

-- there are at most 20 digits
few : (c : After-digit_count-count) → c.digit_count-count.result ≤ 20
few c = few_digits _ _ c.ranges.number.fits c.digit_count-count.ensures

pub loop-i-init : goal.loop-i-init
loop-i-init c = record { room = omega arith; same = digits_none c.digit_count-count.result c.args.number c.args.text.now }

pub bounds-text-i : goal.bounds-text-i
bounds-text-i c = omega (arith, few (goal.at.bounds-text-i c).After-digit_count-count)

pub loop-i-preserved : goal.loop-i-preserved
loop-i-preserved c =
    let l = c.loop-i in
    let n = c.digit_count-count.result in
    let most : n ≤ 20 = few (goal.at.loop-i-preserved c).After-digit_count-count in
    record {
      room = simp length-set l.invariant.room;
      same = digit_more l.i n l.rest _ l.text (omega arith) (omega arith) (omega arith) refl ∙ l.invariant.same;
    }

pub returns-clause-prefix_len : goal.returns-clause-prefix_len
returns-clause-prefix_len c =
    let most : c.digit_count-count.result ≤ 20 = few (goal.at.returns-clause-prefix_len c).After-digit_count-count in
    let room : c.digit_count-count.result ≤ length c.loop-i.text = omega arith in (room, sym (length-take-le _ _ room))

pub returns-clause-upper_bound : goal.returns-clause-upper_bound
returns-clause-upper_bound c = few (goal.at.returns-clause-upper_bound c).After-digit_count-count

pub returns-clause-text_value : goal.returns-clause-text_value
returns-clause-text_value c =
    let l = c.loop-i in
    digits_all l.i c.digit_count-count.result l.rest c.args.number l.text (omega arith) l.invariant.same ∙ fewest_digits _ _ c.digit_count-count.ensures
