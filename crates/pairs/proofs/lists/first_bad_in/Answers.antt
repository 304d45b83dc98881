-- `first_bad_in` meets its contract.
use Rattle.std.proofs.Common.{ℕ, ap, ◌∙◌, ◌+◌, length, arith}
use Rattle.columns.specs.Counting.{first}
use Rattle.pairs.specs.Pairs.{bad_pair}
use Rattle.pairs.proofs.Listing.{clean_more, clean_hit, clean_end}
use Rattle.pairs.proofs.Refusals.{shorter-left, shorter_right}
use Rattle.pairs.proofs.lists.first_bad_in.Goals as goal

pub first_bad-bad-requires : goal.first_bad-bad-requires
first_bad-bad-requires c =
    let a = c.args in
    let s = c.requires.starts in
    let u : ℕ = c.loop-u.u in
    let r = s.rising u (u + 1) (omega arith) (omega arith) in
    let h = s.inside (u + 1) (omega arith) in
    let l = shorter-left (length a.labels.now) (length a.blocks.now) in
    let b = shorter_right (length a.labels.now) (length a.blocks.now) in
    (omega arith, omega arith, omega arith)

pub returns-then-bad-to : goal.returns-then-bad-to
returns-then-bad-to c =
    let a = c.args in
    clean_hit a.starts.now a.labels.now a.blocks.now a.n a.end c.requires.starts c.loop-u.u _ _ (omega arith) c.start-to.ensures
    (c.first_bad-bad.ensures ∙ ap (λ (x : ℕ). first c.start-to.result (bad_pair a.labels.now a.blocks.now x)) c.start.ensures)
    c.if-bad-to.true c.loop-u.invariant

pub loop-u-preserved : goal.loop-u-preserved
loop-u-preserved c =
    let a = c.args in
    clean_more a.starts.now a.labels.now a.blocks.now c.loop-u.u _ _ c.start-to.ensures
    (c.first_bad-bad.ensures ∙ ap (λ (x : ℕ). first c.start-to.result (bad_pair a.labels.now a.blocks.now x)) c.start.ensures)
    c.if-bad-to.false c.loop-u.invariant

pub returns : goal.returns
returns c =
    let a = c.args in
    clean_end a.starts.now a.labels.now a.blocks.now a.n a.end (λ v h. c.loop-u.invariant v (omega arith))
