-- `choose_all` meets its contract.
use Rattle.std.proofs.Common.{◌≡◌, ◌<◌, ℕ, get_or, sym, ap, subst, ◌∙◌, arith}
use Rattle.quotient_block.specs.Chosen.{first_state, lacking}
use Rattle.quotient_block.proofs.Choosing.{
  choose_start,
  choose_more,
  choose_stop,
  choose_done,
  choose_cells,
  choice_as,
  lacks_one,
  lacks_none,
}
use Rattle.table.specs.Lts.{lts_of}
use Rattle.quotient_block.proofs.cores.choose_all.Goals as goal

pub loop-b-init : goal.loop-b-init
loop-b-init c = choose_start _ _ _

pub choose-requires : goal.choose-requires
unfolding first_state
choose-requires c =
    let g = c.requires.choosable.0 in
    let e = c.at-s.ensures.0 ∙ ap (λ (x : ℕ). get_or c.args.elements.now x 0) c.at.ensures.0 in
    (c.requires.valid, g.homes, subst (λ (x : ℕ). x < c.args.system.now.table.n) (sym e) (g.state c.loop-b.b (omega arith)))

pub returns-in_default : goal.returns-in_default
unfolding lacking
returns-in_default c =
    let t = lts_of c.args.system.now in
    let e = choice_as c.args.branching t c.args.home.now c.args.elements.now c.args.begin.now _ _ _ _ c.at.ensures.0 c.at-s.ensures.0
    c.in_default.ensures.value in
    let w : c.loop-b.b < c.args.count = omega arith in
    let b = choose_stop _ _ _ _ _ c.loop-b.invariant _ w e in
    record { value = lacks_one _ _ _ b w; chosen_value = rw (← b) (choose_cells _ _ _ _ _ c.loop-b.invariant) }

pub loop-b-preserved : goal.loop-b-preserved
loop-b-preserved c =
    let t = lts_of c.args.system.now in
    let e = choice_as c.args.branching t c.args.home.now c.args.elements.now c.args.begin.now _ _ _ _ c.at.ensures.0 c.at-s.ensures.0
    c.in-Some.ensures.value in
    choose_more _ _ _ _ _ c.loop-b.invariant _ e c.in-Some.ensures.state (omega (arith, c.requires.choosable.1))

pub returns : goal.returns
unfolding lacking
returns c =
    let e : c.args.count ≡ c.loop-b.b = omega arith in
    let b = e ∙ choose_done _ _ _ _ _ c.loop-b.invariant _ (sym e) in
    record { value = lacks_none _ _ b; chosen_value = rw (← b, e) (choose_cells _ _ _ _ _ c.loop-b.invariant) }
