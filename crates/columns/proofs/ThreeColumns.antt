-- Rows in three columns: none, one more, and those of a list of rows.
use Prim.Native.Nat.{ℕ, ◌+◌, ◌<◌}
use native.Mathlib.Numerals.{add-one}
use native.Mathlib.Omega.{arith}
use mathlib.Core.Path.{◌≡◌, refl, ap, ap₂, ◌∙◌}
use mathlib.Core.List.{List, [], ◌∷◌, ◌++◌}
use lib.ListN.{length, get_or, set}
use lib.Seq.{get_or-set_same, get_or-set_other}
use Rattle.columns.specs.Columns.{listed}
use Rattle.columns.specs.Rows.{row_in, rows_of, first_of, second_of, third_of}
use Rattle.columns.specs.Sets.{Row}
use Rattle.columns.proofs.Lists.{listed_cong, listed_cons}

pub rows_none : (a b c : List ℕ) → rows_of 0 a b c ≡ []
unfolding rows_of listed
rows_none a b c = refl

pub rows_next : (d : ℕ) (a b c : List ℕ) → rows_of (d + 1) a b c ≡ rows_of d a b c ++ (row_in a b c d ∷ [])
unfolding rows_of listed row_in
rows_next d a b c = rw add-one refl

pub rows_more :
    (d : ℕ) (a b c : List ℕ) (x y z : ℕ) → d < length a → d < length b → d < length c
    → rows_of (d + 1) (set a d x) (set b d y) (set c d z) ≡ rows_of d a b c ++ ((x, (y, z)) ∷ [])
unfolding rows_of listed
rows_more d a b c x y z ha hb hc =
    rw add-one
    (ap₂ (λ (l : List Row) (r : Row). l ++ (r ∷ []))
    (listed_cong {A = Row} d _ _
    (λ i w.
    rw (
      get_or-set_other a d i x 0 (λ e. omega arith),
      get_or-set_other b d i y 0 (λ e. omega arith),
      get_or-set_other c d i z 0 (λ e. omega arith),
    )))
    (rw (get_or-set_same a d x 0 ha, get_or-set_same b d y 0 hb, get_or-set_same c d z 0 hc)))

pub rows_columns : (l : List Row) → rows_of (length l) (first_of l) (second_of l) (third_of l) ≡ l
unfolding rows_of listed
rows_columns [] = refl
rows_columns (r ∷ l) =
    listed_cons (length l) (λ i. (get_or (first_of (r ∷ l)) i 0, (get_or (second_of (r ∷ l)) i 0, get_or (third_of (r ∷ l)) i 0)))
    ∙ ap (λ (m : List Row). r ∷ m) (rows_columns l)
