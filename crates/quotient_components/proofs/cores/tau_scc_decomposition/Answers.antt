-- `tau_scc_decomposition` meets its contract.
use Rattle.std.proofs.Common.{ℕ, sym, ap, ◌∙◌}
use lib.Seq.{length-take-le}
use Rattle.columns.specs.Columns.{listed}
use Rattle.columns.proofs.Lists.{front_written}
use Rattle.table.specs.Lts.{lts_of}
use Rattle.quotient_components.specs.Components.{component}
use Rattle.quotient_components.proofs.cores.tau_scc_decomposition.Goals as goal

pub returns-clause-numbers_value : goal.returns-clause-numbers_value
returns-clause-numbers_value c =
    let t = lts_of c.args.system.now in
    let long = c.requires.valid.1 in
    front_written t.n (component t) c.args.numbers.now _ long
    (c.number_all-count.ensures.numbers_value
    ∙ ap (λ (k : ℕ). listed k (component t)) (sym (length-take-le t.n c.args.numbers.now long)))
