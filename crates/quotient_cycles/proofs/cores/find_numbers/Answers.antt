-- `find_numbers` meets its contract.
use Rattle.std.proofs.Common.{◌≡◌, ℕ, List, get_or, ap, ◌∙◌, arith}
use Rattle.columns.specs.Columns.{listed, written}
use Rattle.columns.proofs.Lists.{length-listed, over_again, written_at}
use Rattle.quotient_components.specs.Components.{component}
use Rattle.table.specs.Lts.{lts_of}
use Rattle.quotient_cycles.specs.Reordered.{new_number}
use Rattle.quotient_cycles.proofs.cores.find_numbers.Goals as goal

-- what is written over the same cells twice
again : (n : ℕ) (f g : ℕ → ℕ) (l m : List ℕ) → l ≡ written n g m → written n f l ≡ written n f m
unfolding written
again n f g l m e =
    ap (λ (x : List ℕ). written n f x) e
    ∙ over_again (listed n f) (listed n g) m (omega (arith, length-listed n f, length-listed n g))

pub order_components-requires-clause-by_index : goal.order_components-requires-clause-by_index
order_components-requires-clause-by_index c s h =
    let t = lts_of c.args.system.now in
    ap (λ (l : List ℕ). get_or l s 0) c.tau_scc_decomposition-count.ensures.numbers_value
    ∙ written_at t.n (component t) c.args.numbers.now s h

pub returns-clause-numbers_value : goal.returns-clause-numbers_value
returns-clause-numbers_value c =
    let t = lts_of c.args.system.now in
    let e = c.tau_scc_decomposition-count.ensures.numbers_value in
    c.order_components.ensures ∙ again t.n (new_number t c.args.eliminate_tau_selfloops) (component t) _ c.args.numbers.now e
