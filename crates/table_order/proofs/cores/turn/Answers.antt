-- `turn` meets its contract.
use Rattle.std.proofs.Common.{arith}
use lib.ListN.{length-set}
use Rattle.table_order.proofs.Steps.{top_fits, state_fits, finish_fits, enter_fits, turned_finish, turned_drop, turned_cycle, turned_enter}
use Rattle.table_order.proofs.cores.turn.Goals as goal

pub at-s-requires : goal.at-s-requires
at-s-requires c = omega (arith, c.requires.n_in_bounds, top_fits _ _ _ _ _ _ _ c.requires.fact)

pub at-k-requires : goal.at-k-requires
at-k-requires c =
    omega (arith, state_fits _ _ _ _ _ _ _ c.requires.fact _ c.requires.n_in_bounds.2 c.at-s.ensures.0, c.requires.n_in_bounds)

pub overflow_add-marks : goal.overflow_add-marks
overflow_add-marks c =
    omega (
      arith,
      finish_fits _ _ _ _ _ _ _ c.requires.fact _ _ c.requires.n_in_bounds.2 c.at-s.ensures.0 c.at-k.ensures.0 c.if-k-eq1.true,
      c.requires.valid.few_states,
    )

pub overflow_cast-marks : goal.overflow_cast-marks
overflow_cast-marks c =
    omega (
      arith,
      finish_fits _ _ _ _ _ _ _ c.requires.fact _ _ c.requires.n_in_bounds.2 c.at-s.ensures.0 c.at-k.ensures.0 c.if-k-eq1.true,
      c.requires.valid.few_states,
    )

pub overflow_add-result : goal.overflow_add-result
overflow_add-result c =
    omega (
      arith,
      finish_fits _ _ _ _ _ _ _ c.requires.fact _ _ c.requires.n_in_bounds.2 c.at-s.ensures.0 c.at-k.ensures.0 c.if-k-eq1.true,
      c.requires.valid.few_states,
    )

pub returns-then-k-eq1 : goal.returns-then-k-eq1
returns-then-k-eq1 c bound goal m =
    let n = c.requires.n_in_bounds in
    turned_finish _ c.requires.valid _ _ _ _ _ _ _ n.2 c.at-s.ensures.0 c.at-k.ensures.0 n.0 bound goal m c.if-k-eq1.true

pub returns-then-k-ne0 : goal.returns-then-k-ne0
returns-then-k-ne0 c bound goal m =
    let n = c.requires.n_in_bounds in
    turned_drop _ c.requires.valid _ _ _ _ _ _ _ n.2 c.at-s.ensures.0 c.at-k.ensures.0 n.0 bound goal m c.if-k-ne0.true c.if-k-eq1.false

pub bounds-marks-s-2 : goal.bounds-marks-s-2
bounds-marks-s-2 c =
    omega (arith, state_fits _ _ _ _ _ _ _ c.requires.fact _ c.requires.n_in_bounds.2 c.at-s.ensures.0, c.requires.n_in_bounds)

pub push_successors-requires-clause-fact : goal.push_successors-requires-clause-fact
push_successors-requires-clause-fact c =
    let n = c.requires.n_in_bounds in (
      state_fits _ _ _ _ _ _ _ c.requires.fact _ n.2 c.at-s.ensures.0,
      simp length-set n.0,
      omega (
        arith,
        n,
        enter_fits _ c.requires.valid _ _ _ _ _ _ _ n.2 c.at-s.ensures.0 c.at-k.ensures.0 n.0 c.requires.fact c.if-k-ne0.false,
      ),
    )

pub returns-in_err-top : goal.returns-in_err-top
returns-in_err-top c bound goal m =
    let n = c.requires.n_in_bounds in
    rw c.from_residual.ensures
    (turned_cycle _ c.requires.valid _ _ _ _ _ _ _ n.2 c.at-s.ensures.0 c.at-k.ensures.0 n.0 bound goal m c.if-k-ne0.false c.in_err-top.ensures)

pub returns : goal.returns
returns c bound goal m =
    let n = c.requires.n_in_bounds in
    turned_enter _ c.requires.valid _ _ _ _ _ _ _ n.2 c.at-s.ensures.0 c.at-k.ensures.0 n.0 bound goal m c.if-k-ne0.false _ _ c.in_ok-top.ensures
