-- Where a call of `quotient_lts_naive` is done, the header that it says and the rows that it leaves are the quotient.
use Rattle.std.specs.Prelude.{◌≡◌, ℕ, Bool, List, [], ◌∷◌, length}
use native.Mathlib.Omega.{arith}
use mathlib.Core.Path.{refl, ap, subst}
use Rattle.columns.specs.Blocks.{block_of}
use Rattle.columns.specs.Answers.{done}
use Rattle.columns.specs.Columns.{zeroed}
use Rattle.columns.specs.Sets.{Row}
use Rattle.partition.specs.Partition.{Partition}
use Rattle.quotient.specs.Call.{quotient_refusal, rows_between, quotient_lts_naive}
use Rattle.quotient.specs.Naive.{stays, naive_rows, header_by}
use Rattle.quotient.proofs.Answering.{quotient_ready}
use Rattle.bisimulation.proofs.Tables.{kept_laid, IsQuotient}
use Rattle.table.specs.Lts.{Lts}
use Rattle.table.specs.Tables.{Three, rows_over, table_by}
use Rattle.table.proofs.Sayings.{left-said}
use Rattle.table.proofs.Tables.{laid_table}

-- the table that a call says and leaves is that of the rows written, where the header has their number
pub left_laid :
    (kept : List Row) (count l start : ℕ) (out : Three) (n labels m initial : ℕ) (left : Three)
    → (count ∷ l ∷ length kept ∷ start ∷ []) ≡ (n ∷ labels ∷ m ∷ initial ∷ []) → rows_over kept out ≡ left
    → laid_table count l start kept out.0 out.1.0 out.1.1 ≡ table_by n labels m initial left
unfolding rows_over
left_laid kept count l start out n labels m initial left e w =
    let en : count ≡ n = cc (e) in
    let el : l ≡ labels = cc (e) in
    let em : length kept ≡ m = cc (e) in
    let ei : start ≡ initial = cc (e) in
    λ i. table_by (en i) (el i) (em i) (ei i) (w i)

pub naive_done :
    (inerts loops : Bool) (t : Lts) (p : Partition) → p.n ≡ t.n → (out : Three) (work : List (List ℕ))
    → (n labels m initial : ℕ) (left : Three) (work₁ : List (List ℕ))
    → quotient_lts_naive inerts loops t p out work ≡ (done (n ∷ labels ∷ m ∷ initial ∷ []), (left, work₁))
    → IsQuotient t p.count (block_of p.element_to_block) (rows_between inerts loops t p) (table_by n labels m initial left)
unfolding quotient_lts_naive rows_between naive_rows
naive_done inerts loops t p same out work n labels m initial left work₁ e =
    let block = block_of p.element_to_block in
    let kept = rows_between inerts loops t p in
    let d = left-said (quotient_refusal t p out work) (out, work) (rows_over kept out, zeroed work) (left, work₁)
    (header_by t p.element_to_block p.count kept) (n ∷ labels ∷ m ∷ initial ∷ []) e in
    let q = quotient_ready t p out work _ refl same d.0 in
    subst (IsQuotient t p.count block kept)
    (left_laid kept p.count t.labels (block t.initial) out n labels m initial left d.1.0
    (ap (λ (x : Three × List (List ℕ)). x.0) d.1.1))
    (kept_laid t q.valid p.count (omega (arith, same, q.sound.consistent.most)) block
    (λ s h. (q.sound.consistent.lies s (omega (arith, same))).known) (stays inerts loops block) out.0 out.1.0 out.1.1)
