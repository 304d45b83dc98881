-- `way_on` meets its contract.
use Rattle.std.proofs.Common.{refl, arith, rules}
use Rattle.std.proofs.lemmas.Iterator.{serves_from_Range}
use Rattle.quotient_block.proofs.Walks.{way_found, found_row}
use Rattle.table.proofs.Finds.{found_from}
use Rattle.table.proofs.RowsOf.{rows_from, own_row_in}
use Rattle.table.proofs.Stretches.{rising}
use Rattle.quotient_block.proofs.cores.way_on.Goals as goal

pub rows_of-own-requires : goal.rows_of-own-requires
rows_of-own-requires c =
    let v = c.requires.0 in
    (v.long.source, rising _ v, omega (arith, c.requires.2, v.few_states))

pub find-requires-clause-callable : goal.find-requires-clause-callable
find-requires-clause-callable c =
    let v = c.requires.0 in
    let run = rows_from _ v _ _ _ c.rows_of-own.ensures.0 c.rows_of-own.ensures.1 in
    serves_from_Range (λ x q k. search rules)
    (λ i low high.
    let o = own_row_in run i low high in
    let t = (v.fields i o.below).target in
    search rules)

pub returns : goal.returns
returns c =
    let v = c.requires.0 in
    let run = rows_from _ v _ _ _ c.rows_of-own.ensures.0 c.rows_of-own.ensures.1 in record {
      value = way_found _ _ _ _ _ run _ (found_from _ _ _ run.most _ _ _ refl c.find.ensures.ran (λ x b q k. search rules));
      row = found_row _ _ _ _ _ run.most c.find.ensures.ran (λ x q k. search rules);
    }
