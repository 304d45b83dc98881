-- `reduce_checked` meets its contract.
use Rattle.std.proofs.Common.{◌≡◌, ◌≤◌, ℕ, List, take, ap, sym, subst, ◌∙◌, arith}
use lib.Seq.{length-take-le}
use Rattle.columns.specs.Limits.{max_rows}
use Rattle.file.specs.Input.{header_in, with_rows, table_in}
use Rattle.file.proofs.Inputs.{rows_front}
use Rattle.file_reduction.specs.Reducing.{reduce_table}
use Rattle.table.specs.Lts.{Lts, lts, Valid}
use Rattle.table.specs.Tables.{Three, columns_in, columns_over}
use Rattle.table.specs.declared.Table.{Table}
use Rattle.file_reduction.proofs.reduce_checked.Goals as goal

-- no more rows than the columns have cells
few : (h : Table) (s : List ℕ) → h ≡ header_in s → Valid (table_in s) → h.m ≤ max_rows
unfolding table_in
few h s e v = omega (arith, ap (λ (t : Table). t.m) e, v.few_rows)

-- the rows that are read are those of the file
same :
    (h : Table) (s : List ℕ) → h ≡ header_in s → (out : Three) (x y z : List ℕ)
    → ◌≡◌ {A = Three} (x, (y, z)) (columns_over (columns_in (with_rows h s)) out)
    → lts h (take h.m x) (take h.m y) (take h.m z) ≡ table_in s
unfolding table_in
same h s e out x y z k = rows_front h s out x y z k ∙ ap (λ (t : Table). with_rows t s) e

pub read_rows-requires : goal.read_rows-requires
read_rows-requires c =
    let h = few _ _ c.header-table.ensures c.requires.0 in
    (omega (arith, ap (λ (t : Table). t.m) c.header-table.ensures, c.requires.1), omega (arith, h), omega (arith, h), omega (arith, h))

pub slice_bounds-source-end : goal.slice_bounds-source-end
slice_bounds-source-end c = omega (arith, few _ _ c.header-table.ensures c.requires.0)

pub slice_bounds-system-end : goal.slice_bounds-system-end
slice_bounds-system-end c = sym (length-take-le _ c.read_rows.new.source (omega (arith, few _ _ c.header-table.ensures c.requires.0)))

pub slice_bounds-label-end : goal.slice_bounds-label-end
slice_bounds-label-end c = omega (arith, few _ _ c.header-table.ensures c.requires.0)

pub slice_bounds-system-end-2 : goal.slice_bounds-system-end-2
slice_bounds-system-end-2 c = sym (length-take-le _ c.read_rows.new.label (omega (arith, few _ _ c.header-table.ensures c.requires.0)))

pub slice_bounds-target-end : goal.slice_bounds-target-end
slice_bounds-target-end c = omega (arith, few _ _ c.header-table.ensures c.requires.0)

pub slice_bounds-system-end-3 : goal.slice_bounds-system-end-3
slice_bounds-system-end-3 c = sym (length-take-le _ c.read_rows.new.target (omega (arith, few _ _ c.header-table.ensures c.requires.0)))

pub reduce_table-requires : goal.reduce_table-requires
reduce_table-requires c = subst Valid (sym (same _ _ c.header-table.ensures _ _ _ _ c.read_rows.ensures)) c.requires.0

pub returns : goal.returns
returns c = c.reduce_table.ensures ∙ ap (λ (t : Lts). reduce_table t c.args.output.now) (same _ _ c.header-table.ensures _ _ _ _ c.read_rows.ensures)
