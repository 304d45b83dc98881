-- A loop that pushes the pairs of a state's rows that are visible or lead to another block.
use Rattle.std.specs.Prelude.{◌≡◌, ℕ, ◌+◌, ◌<◌, ◌≤◌, Bool, true, false, not, ◌&&◌, eqb, List, ◌++◌, length, get_or, set}
use native.Mathlib.Omega.{arith}
use mathlib.Core.Path.{refl, ap, sym, ◌∙◌}
use Rattle.columns.specs.Rows.{pairs_of}
use Rattle.columns.proofs.Bools.{and_both, and_no_left, and_no_right}
use Rattle.columns.proofs.Counting.{many_strict}
use Rattle.columns.proofs.TwoColumns.{length_pairs}
use Rattle.signatures.proofs.Pushing.{Pushing, push_start, push_more, push_pass, push_done}
use Rattle.signatures.specs.Strong.{row_pair}
use Rattle.table.proofs.RowsOf.{RowsFrom}
use Rattle.table.specs.Hidden.{hidden_in}
use Rattle.table.specs.Lts.{Lts}
use Rattle.signatures_branching.specs.Branching.{outerb, outer_pairs}
use Rattle.signatures_branching.proofs.Visited.{length_outer}

-- row j is one of state x, and visible, or leads to another block than b
abbrev outer_row : Lts → List ℕ → ℕ → ℕ → ℕ → Bool
outer_row t home b x j = eqb (get_or t.source j 0) x && not (hidden_in t.label t.target home b j)

-- of the rows of x, from `first` to before `end`, those before i are seen; their pairs are pushed behind the d pairs of a₀ and b₀, and are k
-- pairs then, of a and b
pub record Outward (t : Lts) (home : List ℕ) (b x first end : ℕ) (a₀ b₀ : List ℕ) (d i k : ℕ) (a₁ b₁ : List ℕ) : Type 0 where
  pub rows : RowsFrom t x first end
  pub pushed : Pushing (pairs_of d a₀ b₀) (λ j. (get_or t.label j 0, get_or home (get_or t.target j 0) 0)) (outer_row t home b x) first end
      a₀ b₀ i k a₁ b₁

pub outer_start : (t : Lts) (home : List ℕ) (b x first end : ℕ) (a₀ b₀ : List ℕ) (d : ℕ) → RowsFrom t x first end
    → Outward t home b x first end a₀ b₀ d first d a₀ b₀
outer_start t home b x first end a₀ b₀ d rows = record {
  rows = rows;
  pushed = push_start _ _ _ first end a₀ b₀ d refl rows.up (λ k l. and_no_left _ _ (rows.before k l));
}

module _ {t : Lts} {home : List ℕ} {b x first end : ℕ} {a₀ b₀ : List ℕ} {d i k : ℕ} {a₁ b₁ : List ℕ}
    (p : Outward t home b x first end a₀ b₀ d i k a₁ b₁) where
  pub outer_done : end ≤ i → pairs_of k a₁ b₁ ≡ pairs_of d a₀ b₀ ++ outer_pairs t home b x
  unfolding outer_pairs outerb row_pair
  outer_done l = push_done _ _ _ _ _ _ _ _ _ _ _ p.pushed t.m l p.rows.most (λ k u v. and_no_left _ _ (p.rows.after k u v))

  module _ (l : i < end) {h : Bool} (e : h ≡ hidden_in t.label t.target home b i) where
    -- a row that stays
    pub outer_pass :
        h ≡ true → {a₂ b₂ : List ℕ} {k' : ℕ} → a₂ ≡ a₁ → b₂ ≡ b₁ → k' ≡ k → Outward t home b x first end a₀ b₀ d (i + 1) k' a₂ b₂
    outer_pass f ea eb ek = record {
      rows = p.rows;
      pushed =
          rw (ea, eb, ek)
          (push_pass _ _ _ _ _ _ _ i k a₁ b₁ p.pushed l (and_no_right (eqb (get_or t.source i 0) x) _ (ap not (sym e ∙ f))));
    }

    -- a row whose pair is pushed: there is room for it; u is its target
    module _ (f : h ≡ false) where
      passes : outer_row t home b x i ≡ true
      passes = and_both (p.rows.own i p.pushed.low l) (ap not (sym e ∙ f))

      pub outer_room : k < d + length (outer_pairs t home b x)
      unfolding outerb
      outer_room =
          omega (
            arith,
            length_pairs d a₀ b₀,
            many_strict i t.m (outer_row t home b x) (omega arith) passes,
            length_outer t home b x,
          )

      pub outer_push :
          {u : ℕ} → u ≡ get_or t.target i 0 → k < length a₁ → k < length b₁ → {a₂ b₂ : List ℕ} {k' : ℕ}
          → a₂ ≡ set a₁ k (get_or t.label i 0) → b₂ ≡ set b₁ k (get_or home u 0) → k' ≡ k + 1
          → Outward t home b x first end a₀ b₀ d (i + 1) k' a₂ b₂
      outer_push {u} eu wa wb ea eb ek = record {
        rows = p.rows;
        pushed =
            rw (ea, eb, ek)
            (push_more _ _ _ _ _ _ _ i k a₁ b₁ p.pushed l (get_or t.label i 0) (get_or home u 0) passes
            (ap (λ (v : ℕ). (get_or t.label i 0, get_or home v 0)) (sym eu)) wa wb);
      }
