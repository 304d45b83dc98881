-- `list_states` meets its contract.
use Rattle.std.proofs.Common.{◌≡◌, ◌+◌, ◌-◌, ◌<◌, List, ℕ, get_or, take, drop, ◌∙◌, arith}
use Rattle.std.proofs.lemmas.List.{get_or-take, get_or-drop}
use Rattle.table_closure.proofs.Listing.{gather_start, gather_few, gather_room, gather_more, gather_done}
use Rattle.table_closure.proofs.inner.list_states.Goals as goal

-- a cell of a part
part_at : (l : List ℕ) (x n i : ℕ) → i < n → get_or (take n (drop x l)) i 0 ≡ get_or l (x + i) 0
part_at l x n i h = get_or-take n (drop x l) i 0 h ∙ get_or-drop x l i 0

pub loop-s-init : goal.loop-s-init
loop-s-init c =
    let e : c.args.x + 0 ≡ c.args.x = omega arith in
    rw e (gather_start _ _ _ _ _ _ c.requires.fact.2 _)

pub list_state-h-requires-clause-fact : goal.list_state-h-requires-clause-fact
list_state-h-requires-clause-fact c =
    let s = c.requires.fact.2 in
    let p = c.loop-s.invariant in
    let e = part_at c.args.elements.now c.args.x (c.args.z - c.args.x) c.loop-s.s-index (omega arith) in
    rw e (omega (arith, gather_room _ _ _ _ _ _ s _ _ _ _ p (omega arith)), omega (arith, gather_few _ _ _ _ _ _ s _ _ _ _ p))

pub loop-s-preserved : goal.loop-s-preserved
loop-s-preserved c =
    let s = c.requires.fact.2 in
    let i = c.loop-s.s-index in
    let q = c.list_state-h in
    let e = part_at c.args.elements.now c.args.x (c.args.z - c.args.x) i (omega arith) in
    let f = rw e at q.ensures.fact_2 in
    let n : c.args.x + (i + 1) ≡ c.args.x + i + 1 = omega arith in
    rw n
    (gather_more _ _ _ _ _ _ s _ _ _ _ c.loop-s.invariant (omega arith) _ _ f.0 f.1 (omega arith) q.ensures.by_index)

pub returns-clause-fact_2 : goal.returns-clause-fact_2
returns-clause-fact_2 c =
    let s = c.requires.fact.2 in
    let p = c.loop-s.invariant in
    (gather_done _ _ _ _ _ _ s _ _ _ _ p (omega arith), gather_few _ _ _ _ _ _ s _ _ _ _ p)
