-- `subset` meets its contract.
use Rattle.std.proofs.Common.{◌≡◌, ℕ, ◌<◌, ◌&&◌, ltb, List, length, get_or, refl, sym, ap, ◌∙◌, arith}
use Rattle.std.proofs.lemmas.List.{length_push}
use Rattle.std.proofs.lemmas.Slice.Zip.{zip_turn, zip_end}
use Rattle.columns.specs.Counting.{first}
use Rattle.columns.specs.Rows.{pair_at}
use Rattle.columns.specs.Sets.{Pair, pair_eq}
use Rattle.pairs.specs.Pairs.{end_of}
use Rattle.pairs.specs.Subset.{not_below}
use Rattle.pairs.proofs.Refusals.{shorter-left, shorter_right, below_shorter}
use Rattle.pairs.proofs.Subsets.{rises, at_ends}
use Rattle.pairs.proofs.Walking.{stays, walk_start, walk_skip, walk_found, walk_missing, walk_end}
use Rattle.pairs.proofs.cores.subset.Goals as goal

-- this iteration's pair is pair j of other
pair_of : (labels blocks : List ℕ) (j x y : ℕ)
    → (j < length labels) × (j < length blocks) × ((d : ℕ) → x ≡ get_or labels j d) × ((d : ℕ) → y ≡ get_or blocks j d)
    → (j < end_of labels blocks) × ◌≡◌ {A = Pair} (pair_at labels blocks j) (x, y)
unfolding pair_at
pair_of labels blocks j x y t = (below_shorter (length labels) (length blocks) j t.0 t.1, λ i. (sym (t.2 0) i, sym (t.3 0) i))

pub loop-l-init : goal.loop-l-init
loop-l-init c = walk_start _ _ _ _ _

pub pass_below-k-requires : goal.pass_below-k-requires
pass_below-k-requires c =
    let l = shorter-left (length c.args.self_labels.now) (length c.args.self_blocks.now) in
    let b = shorter_right (length c.args.self_labels.now) (length c.args.self_blocks.now) in
    (omega arith, omega arith, omega arith)

pub stands-requires : goal.stands-requires
stands-requires c =
    let l = shorter-left (length c.args.self_labels.now) (length c.args.self_blocks.now) in
    let b = shorter_right (length c.args.self_labels.now) (length c.args.self_blocks.now) in
    (omega arith, omega arith)

pub loop-l-preserved : goal.loop-l-preserved
loop-l-preserved c =
    let a = c.args in
    let x : Pair = (a.label, a.block) in
    let p = pair_of a.other_labels.now a.other_blocks.now _ _ _ (zip_turn a.other_labels.now a.other_blocks.now c.loop-l.yielded c.into_iter-l-iterator.result c.loop-l.l-iterator c.next.new.self c.next.result (cc) (cc) c.loop-l.yielded_by (c.in-Some.field-0-0, c.in-Some.field-0-1) c.in-Some.is c.next.ensures.steps) in
    rw (length_push c.loop-l.yielded (c.in-Some.field-0-0, c.in-Some.field-0-1)) (walk_skip _ _ _ _ _ _ _ c.loop-l.invariant p.0 (ap (λ (y : Pair). pair_eq y x) p.1 ∙ sym c.equal.ensures ∙ c.if-not-equal.false))

pub loop-l-preserved-then-not-equal : goal.loop-l-preserved-then-not-equal
unfolding not_below
loop-l-preserved-then-not-equal c =
    let a = c.args in
    let f = pair_at a.self_labels.now a.self_blocks.now in
    let n : ℕ = c.shorter-n.result in
    let p = pair_of a.other_labels.now a.other_blocks.now _ _ _ (zip_turn a.other_labels.now a.other_blocks.now c.loop-l.yielded c.into_iter-l-iterator.result c.loop-l.l-iterator c.next.new.self c.next.result (cc) (cc) c.loop-l.yielded_by (c.in-Some.field-0-0, c.in-Some.field-0-1) c.in-Some.is c.next.ensures.steps) in
    rw (length_push c.loop-l.yielded (c.in-Some.field-0-0, c.in-Some.field-0-1))
    (walk_found _ _ _ _ _ _ _ c.loop-l.invariant p.0 c.pass_below-k.result
    (c.pass_below-k.ensures ∙ ap (λ (y : Pair). first n (stays f c.loop-l.i y)) (sym p.1))
    (rises a.other_labels.now a.other_blocks.now _ refl c.requires.1)
    (ap (λ (y : Pair). ltb c.pass_below-k.result n && pair_eq (f c.pass_below-k.result) y) p.1 ∙ sym c.stands.ensures ∙ c.if-not-stands.false))

pub returns-then-not-stands : goal.returns-then-not-stands
unfolding not_below
returns-then-not-stands c =
    let a = c.args in
    let x : Pair = (a.label, a.block) in
    let f = pair_at a.self_labels.now a.self_blocks.now in
    let n : ℕ = c.shorter-n.result in
    let p = pair_of a.other_labels.now a.other_blocks.now _ _ _ (zip_turn a.other_labels.now a.other_blocks.now c.loop-l.yielded c.into_iter-l-iterator.result c.loop-l.l-iterator c.next.new.self c.next.result (cc) (cc) c.loop-l.yielded_by (c.in-Some.field-0-0, c.in-Some.field-0-1) c.in-Some.is c.next.ensures.steps) in
    walk_missing _ _ _ _ _ _ _ c.loop-l.invariant p.0 c.pass_below-k.result
    (c.pass_below-k.ensures ∙ ap (λ (y : Pair). first n (stays f c.loop-l.i y)) (sym p.1))
    (rises a.self_labels.now a.self_blocks.now n c.shorter-n.ensures c.requires.0)
    (ap (λ (y : Pair). pair_eq y x) p.1 ∙ sym c.equal.ensures ∙ c.if-not-equal.true)
    (ap (λ (y : Pair). ltb c.pass_below-k.result n && pair_eq (f c.pass_below-k.result) y) p.1 ∙ sym c.stands.ensures ∙ c.if-not-stands.true)
    ∙ at_ends a.self_labels.now a.self_blocks.now a.other_labels.now a.other_blocks.now x _ _ c.shorter-n.ensures refl

pub returns : goal.returns
returns c =
    let a = c.args in
    let all = zip_end a.other_labels.now a.other_blocks.now c.loop-l.yielded c.into_iter-l-iterator.result c.loop-l.l-iterator c.next.new.self c.next.result (cc) (cc) c.loop-l.yielded_by c.in-None.is c.next.ensures.steps in
    let l = shorter-left (length a.other_labels.now) (length a.other_blocks.now) in
    let b = shorter_right (length a.other_labels.now) (length a.other_blocks.now) in
    walk_end _ _ _ _ _ _ _ c.loop-l.invariant (omega arith)
    ∙ at_ends a.self_labels.now a.self_blocks.now a.other_labels.now a.other_blocks.now (a.label, a.block) _ _ c.shorter-n.ensures refl
