-- `order_components` meets its contract.
use Rattle.std.proofs.Common.{refl, ◌∙◌, arith}
use Rattle.quotient_components.proofs.Components.{component-below, components_few}
use Rattle.table.specs.Lts.{lts_of}
use Rattle.table.specs.Tables.{Three}
use Rattle.quotient_cycles.proofs.Sorting.{few_middle, middle_valid, new_numbers}
use Rattle.quotient_cycles.proofs.cores.order_components.Goals as goal

pub overflow_cast-middle : goal.overflow_cast-middle
overflow_cast-middle c =
    let v = c.requires.valid.0 in
    omega (arith, c.requires.valid.1, components_few (lts_of c.args.system.now) v, v.few_states)

pub overflow_cast-middle-2 : goal.overflow_cast-middle-2
overflow_cast-middle-2 c =
    let v = c.requires.valid.0 in
    let few = few_middle (lts_of c.args.system.now) v c.args.eliminate_tau_selfloops c.args.numbers.now c.requires.by_index in
    omega (arith, c.quotient_rows-m.ensures.fact.0, few, v.few_rows)

pub sort_topological-requires : goal.sort_topological-requires
sort_topological-requires c =
    let a = c.args in
    let t = lts_of a.system.now in
    let v = c.requires.valid.0 in
    let q = c.quotient_rows-m in
    let out : Three = (a.mid_source.now, (a.mid_label.now, a.mid_target.now)) in
    let few = few_middle t v a.eliminate_tau_selfloops a.numbers.now c.requires.by_index in
    record {
      valid =
          middle_valid t v a.eliminate_tau_selfloops a.numbers.now c.requires.by_index _ _ _ out _ c.requires.valid.1 q.ensures.fact.0 refl
          q.ensures.fact.1;
      n_in_bounds = (
        omega (arith, c.requires.valid.1, components_few t v, c.requires.m_in_bounds.1, q.auto.a),
        omega (arith, c.requires.valid.1, components_few t v, c.requires.m_in_bounds_2.0, q.auto.b),
        omega (arith, q.ensures.fact.0, few, c.requires.m_in_bounds_2.1, q.auto.c),
      );
    }

pub renumber-requires-clause-by_index : goal.renumber-requires-clause-by_index
renumber-requires-clause-by_index c s h =
    let t = lts_of c.args.system.now in
    let v = c.requires.valid.0 in
    omega (
      arith,
      c.requires.by_index s h,
      component-below t v s h,
      components_few t v,
      c.requires.m_in_bounds.1,
      c.quotient_rows-m.auto.a,
      c.sort_topological.auto.places,
    )

pub returns : goal.returns
returns c =
    let a = c.args in
    let q = c.quotient_rows-m in
    let out : Three = (a.mid_source.now, (a.mid_label.now, a.mid_target.now)) in
    c.renumber.ensures
    ∙ new_numbers (lts_of a.system.now) c.requires.valid.0 a.eliminate_tau_selfloops a.numbers.now c.requires.by_index _ _ _ out _
    c.requires.valid.1 q.ensures.fact.0 refl q.ensures.fact.1 _ _ c.sort_topological.ensures.places_value
