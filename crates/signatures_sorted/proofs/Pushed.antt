-- The own pairs of a state as they are pushed and made a set.
use Rattle.std.specs.Prelude.{◌≡◌, ℕ, ◌+◌, ◌≤◌, Bool, ◌&&◌, eqb, List, ◌++◌, length, get_or}
use native.Mathlib.Omega.{arith}
use mathlib.Core.Path.{ap, ap₂, sym, subst, ◌∙◌}
use Rattle.columns.specs.Columns.{listed}
use Rattle.columns.specs.Counting.{many}
use Rattle.columns.specs.Rows.{pairs_of}
use Rattle.columns.specs.Sets.{Pair, pair_lt, Ascending}
use Rattle.columns.proofs.Bools.{and_left}
use Rattle.columns.proofs.Counting.{many-le, many_mono}
use Rattle.columns.proofs.Members.{length-members}
use Rattle.columns.proofs.TwoColumns.{pairs-over, length_pairs}
use Rattle.signatures_branching.specs.Branching.{outerb, outer_pairs}
use Rattle.signatures_branching.proofs.Visited.{length_outer}
use Rattle.signatures.specs.Strong.{own_rows}
use Rattle.signatures.specs.Pairs.{Columns, signature, pairs_over}
use Rattle.signatures.proofs.Sigs.{sig_few, sig_ascending}
use Rattle.table.specs.Lts.{Lts}
use Rattle.table.specs.Stretch.{first_row}
use Rattle.table.proofs.RowsOf.{rows_count}

-- how many rows a state has, and how many of them pass a test
module _ (t : Lts) (s : ℕ) where
  own_count : length (own_rows t s) ≡ many t.m (λ i. eqb (get_or t.source i 0) s)
  unfolding own_rows
  own_count = length-members (λ i. eqb (get_or t.source i 0) s) t.m

  pub few_rows : length (own_rows t s) ≤ t.m
  few_rows = omega (arith, own_count, many-le t.m (λ i. eqb (get_or t.source i 0) s))

  pub own_few : (f : ℕ → Bool) → many t.m (λ i. eqb (get_or t.source i 0) s && f i) ≤ length (own_rows t s)
  own_few f =
      omega (
        arith,
        own_count,
        many_mono t.m (λ i. eqb (get_or t.source i 0) s && f i) (λ i. eqb (get_or t.source i 0) s)
            (λ i w. and_left (eqb (get_or t.source i 0) s) (f i)),
      )

-- those of s stand between the first row of s and the first of s + 1
pub rows_counted : (t : Lts) (s : ℕ) → first_row t.source t.m (s + 1) ≡ first_row t.source t.m s + length (own_rows t s)
rows_counted t s = omega (arith, own_count t s, rows_count t.source t.m s)

pub few_outer : (t : Lts) (home : List ℕ) (b x : ℕ) → length (outer_pairs t home b x) ≤ length (own_rows t x)
few_outer t home b x = omega (arith, length_outer t home b x, own_few t x (outerb t home b))

-- what is pushed behind no pairs
module _ (d : ℕ) (a b a₀ b₀ : List ℕ) (l : List Pair) (e : pairs_of d a b ≡ pairs_of 0 a₀ b₀ ++ l) where
  pub pushed_pairs : pairs_of d a b ≡ l
  unfolding pairs_of listed
  pushed_pairs = e

  pub pushed_count : d ≡ length l
  pushed_count = sym (length_pairs d a b) ∙ ap length pushed_pairs

-- a signature over two columns, as pairs again
pub set-pairs :
    (k : ℕ) (l : List Pair) (a b a₀ b₀ : List ℕ) → k ≡ length l → ◌≡◌ {A = Columns} (a, b) (pairs_over l (a₀, b₀))
    → pairs_of k a b ≡ l
unfolding pairs_over
set-pairs k l a b a₀ b₀ ek e =
    ap (λ (i : ℕ). pairs_of i a b) ek ∙ ap₂ (λ (x y : List ℕ). pairs_of (length l) x y) (λ i. (e i).0) (λ i. (e i).1) ∙ pairs-over l a₀ b₀

pub set_few : (k : ℕ) (l : List Pair) (a b : List ℕ) → pairs_of k a b ≡ signature l → k ≤ length l
set_few k l a b e = omega (arith, length_pairs k a b, ap length e, sig_few l)

pub set_ascending : (k : ℕ) (l : List Pair) (a b : List ℕ) → pairs_of k a b ≡ signature l → Ascending pair_lt (pairs_of k a b)
set_ascending k l a b e = subst (λ (x : List Pair). Ascending pair_lt x) (sym e) (sig_ascending l)
