-- `row_end` meets its contract.
use Rattle.std.proofs.Common.{◌≡◌, ℕ, ◌+◌, ◌<◌, ◌≤◌, List, Option, Some, None, length, get_or, rules, ◌∙◌}
use Rattle.std.specs.Option.{MatchOption, unwrap_or}
use Rattle.std.proofs.lemmas.Iterator.{first_from_Range}
use Rattle.columns.specs.Columns.{NeverFalls}
use Rattle.table.specs.Stretch.{first_row}
use Rattle.refinement_signing.proofs.OwnRows.{ends_at_m, ends_before}
use Rattle.refinement_signing.proofs.signing.row_end.Goals as goal

-- the first row from `first` on that is not one of s
found : (source : List ℕ) (m s first : ℕ) → (m ≤ length source) × NeverFalls source m × (first ≡ first_row source m s) → (r : Option ℕ)
    → MatchOption r ((k : ℕ) → first ≤ k → k < m → get_or source k 0 ≡ s)
    (λ i. (first ≤ i) × (i < m) × (get_or source i 0 ≡ s → ⊥) × ((k : ℕ) → first ≤ k → k < i → get_or source k 0 ≡ s))
    → unwrap_or r m ≡ first_row source m (s + 1)
found source m s first a None h = ends_at_m source m a.1 s first a.2 h
found source m s first a (Some i) h = ends_before source m a.1 s first a.2 i h.0 h.1 h.2 h.3

pub returns : goal.returns
returns c =
    let a = c.args in
    c.unwrap_or.ensures
    ∙ found a.source.now a.m a.s a.first c.requires _
    (first_from_Range _ _ _ _ (λ i. get_or a.source.now i 0 ≡ a.s → ⊥) (λ i. get_or a.source.now i 0 ≡ a.s) c.find.ensures.ran
    (λ x q k. search rules) (λ x q k. search rules))
