-- `reachable` meets its contract.
use Rattle.std.proofs.Common.{ℕ, [], ◌∷◌, length, sym, ap, ◌≡◌, ◌∙◌, refl, arith}
use lib.Seq.{length-take-le}
use Rattle.columns.specs.Answers.{Refusal, none, done, said_number}
use Rattle.columns.specs.Columns.{listed, zeros}
use Rattle.columns.specs.Counting.{bit}
use Rattle.columns.proofs.Lists.{front_written}
use Rattle.columns.proofs.Saying.{left_refused, left_done, numbered}
use Rattle.table.specs.Lts.{Lts, lts_of}
use Rattle.table.specs.Reach.{reaches, reach_refusal, reachable}
use Rattle.table.proofs.Searching.{ReachReady, reach_ready}
use Rattle.table.proofs.Starts.{no_starts}
use Rattle.table.proofs.Lts.reachable.Goals as goal

ready : (t : Lts) (state room work : ℕ) → none ≡ reach_refusal t state room work → ReachReady t state room work
ready t state room work e = reach_ready t state room work (sym (ap (λ (r : Refusal). r.number) e))

pub returns-in-Err : goal.returns-in-Err
unfolding reachable
returns-in-Err c =
    left_refused (reach_refusal (lts_of c.args.self.now) c.args.state (length c.args.reached.now) (length c.args.queue.now)) _ c.in-Err.ensures _ _ _ _
    (numbered _) (ap said_number c.refused.ensures)

pub slice_bounds-reach-end-2 : goal.slice_bounds-reach-end-2
slice_bounds-reach-end-2 c = (ready (lts_of c.args.self.now) _ _ _ c.in_default.ensures).long

pub slice_bounds-reach-end-3 : goal.slice_bounds-reach-end-3
slice_bounds-reach-end-3 c = sym (length-take-le _ c.args.reached.now (ready (lts_of c.args.self.now) _ _ _ c.in_default.ensures).long)

pub reach-count-requires-clause-valid : goal.reach-count-requires-clause-valid
reach-count-requires-clause-valid c =
    let q = ready (lts_of c.args.self.now) _ _ _ c.in_default.ensures in
    (q.valid, q.known, no_starts c.args.self.now.source.now c.args.self.now.table.m)

pub reach-count-requires-clause-marks_len : goal.reach-count-requires-clause-marks_len
reach-count-requires-clause-marks_len c =
    let q = ready (lts_of c.args.self.now) _ _ _ c.in_default.ensures in
    (length-take-le _ c.args.reached.now q.long, omega (arith, q.wide))

pub returns : goal.returns
unfolding reachable
returns c =
    let t = lts_of c.args.self.now in
    let q = ready t _ _ _ c.in_default.ensures in
    let f : ℕ → ℕ = λ u. bit (reaches t c.args.hidden c.args.state u) in
    let lt = length-take-le t.n c.args.reached.now q.long in
    let w = front_written t.n f c.args.reached.now _ q.long (c.reach-count.ensures.marks_value ∙ ap (λ (k : ℕ). listed k f) (sym lt)) in
    let z = c.clear.ensures ∙ ap zeros c.reach-count.auto.queue in
    left_done (reach_refusal t c.args.state (length c.args.reached.now) (length c.args.queue.now)) none c.in_default.ensures _ _ _ _ _ refl
    (ap said_number c.done.ensures ∙ ap (λ (k : ℕ). done (k ∷ [])) c.reach-count.ensures.value) (λ i. (w i, z i))
