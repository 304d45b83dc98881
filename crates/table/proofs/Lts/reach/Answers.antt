-- `reach` meets its contract.
use Rattle.std.proofs.Common.{List, ℕ, slice_set, sym, ap, subst, ◌∙◌, arith}
use Rattle.columns.specs.Columns.{zeros}
use Rattle.table.specs.Lts.{lts_of}
use Rattle.table.specs.Reach.{edge}
use Rattle.table.specs.Search.{Search}
use Rattle.table.proofs.Searching.{search_start, search_few, search_count, search_marks}
use Rattle.table.proofs.Lts.reach.Goals as goal

pub loop-head-init : goal.loop-head-init
loop-head-init c =
    let t = lts_of c.args.self.now in
    subst (λ (l : List ℕ). Search (edge t c.args.hidden) t.n c.args.state (slice_set l c.args.state 1) (slice_set c.args.queue.now 0 c.args.state) 0 1)
    (sym (c.clear.ensures ∙ ap zeros c.requires.marks_len.0))
    (search_start (edge t c.args.hidden) t.n c.args.state c.args.queue.now c.requires.valid.1 c.requires.marks_len.1)

pub loop-head-smaller : goal.loop-head-smaller
loop-head-smaller c = omega (arith, search_few _ _ _ _ _ _ _ c.loop-head.invariant)

pub returns-clause-value : goal.returns-clause-value
returns-clause-value c =
    search_count (lts_of c.args.self.now) c.args.hidden c.requires.valid.0 c.args.state _ _ _ _ c.loop-head.invariant (omega arith)

pub returns-clause-marks_value : goal.returns-clause-marks_value
returns-clause-marks_value c =
    search_marks (lts_of c.args.self.now) c.args.hidden c.requires.valid.0 c.args.state _ _ _ _ c.loop-head.invariant (omega arith)
