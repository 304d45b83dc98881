-- Rows in two or three columns, as a set: ascending, none twice.
use Rattle.std.specs.Prelude.{List, map, ℕ, ◌+◌, ◌-◌, get_or}
use Rattle.columns.specs.Sets.{Pair, Row, pair_lt, row_lt, collect, set_of}
use Rattle.columns.specs.Sort.{firsts}
use Rattle.columns.specs.Columns.{listed, over, key_of, sort_by}

-- of sorted numbers: one for each row
unfoldable pub firsts_by : List ℕ → List ℕ → List ℕ → List ℕ → List ℕ
unfolding firsts row_lt key_of
firsts_by a b c l = firsts row_lt (key_of a b c) l

-- numbers of the first m rows, one for each row, in the order of the rows
unfoldable pub pick_rows : ℕ → List ℕ → List ℕ → List ℕ → List ℕ
unfolding firsts_by sort_by listed
pick_rows m a b c = firsts_by a b c (sort_by a b c (listed m (λ k. k)))

-- what a column of m cells holds once they are picked
unfoldable pub picked : ℕ → List ℕ → List ℕ → List ℕ → List ℕ
unfolding over pick_rows sort_by listed
picked m a b c = over (pick_rows m a b c) (sort_by a b c (listed m (λ k. k)))

-- row i of three columns
unfoldable pub row_in : List ℕ → List ℕ → List ℕ → ℕ → Row
row_in a b c i = (get_or a i 0, (get_or b i 0, get_or c i 0))

-- the first m rows, and the set of them
unfoldable pub rows_of : ℕ → List ℕ → List ℕ → List ℕ → List Row
unfolding listed row_in
rows_of m a b c = listed m (row_in a b c)

unfoldable pub row_set : ℕ → List ℕ → List ℕ → List ℕ → List Row
unfolding collect row_lt rows_of
row_set m a b c = set_of row_lt (rows_of m a b c)

-- pair i of two columns
unfoldable pub pair_at : List ℕ → List ℕ → ℕ → Pair
pair_at a b i = (get_or a i 0, get_or b i 0)

-- the pairs from p to before q
unfoldable pub pairs_between : List ℕ → List ℕ → ℕ → ℕ → List Pair
unfolding listed pair_at
pairs_between a b p q = listed (q - p) (λ k. pair_at a b (p + k))

-- the first m pairs, and the set of them
unfoldable pub pairs_of : ℕ → List ℕ → List ℕ → List Pair
unfolding listed pair_at
pairs_of m a b = listed m (pair_at a b)

unfoldable pub pair_set : ℕ → List ℕ → List ℕ → List Pair
unfolding collect pair_lt pairs_of
pair_set m a b = set_of pair_lt (pairs_of m a b)

-- the columns of rows and of pairs
abbrev pub first_of : {A : Type 0} → List (ℕ × A) → List ℕ
first_of l = map (λ r. r.0) l

abbrev pub second_of : List Row → List ℕ
second_of l = map (λ r. r.1.0) l

abbrev pub third_of : List Row → List ℕ
third_of l = map (λ r. r.1.1) l

abbrev pub last_of : List Pair → List ℕ
last_of l = map (λ r. r.1) l
