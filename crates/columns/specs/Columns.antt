-- Columns of numbers as lists.
use Rattle.std.specs.Prelude.{Bool, List, [], ◌∷◌, ◌++◌, map, ◌≡◌, ℕ, zero, suc, ◌-◌, ◌≤◌, ◌<◌, length, get_or, set, drop, replicate}
use Rattle.columns.specs.Sets.{Row, row_lt}
use Rattle.columns.specs.Sort.{sort}

-- f 0, f 1, .., f (n - 1)
unfoldable pub listed : {A : Type 0} → ℕ → (ℕ → A) → List A
listed zero f = []
listed (suc n) f = listed n f ++ (f n ∷ [])

-- h 0, h 1, .., h (k - 1), one after the other
unfoldable pub laid : {A : Type 0} → (ℕ → List A) → ℕ → List A
laid h zero = []
laid h (suc k) = laid h k ++ h k

-- a list written over the front of another
unfoldable pub over : {A : Type 0} → List A → List A → List A
over l m = l ++ drop (length l) m

-- the first n cells are f's values, the others as they were
unfoldable pub written : ℕ → (ℕ → ℕ) → List ℕ → List ℕ
unfolding over listed
written n f l = over (listed n f) l

abbrev pub zeros : ℕ → List ℕ
zeros n = replicate n 0

-- a slice with every cell zero
abbrev pub cleared : List ℕ → List ℕ
cleared l = zeros (length l)

-- slices with every cell zero
abbrev pub zeroed : List (List ℕ) → List (List ℕ)
zeroed slices = map cleared slices

-- every one of these slices has this many cells
abbrev pub EachLong : ℕ → List (List ℕ) → Type 0
EachLong cells [] = Unit {0}
EachLong cells (l ∷ slices) = (cells ≤ length l) × EachLong cells slices

-- every cell of every one is zero
abbrev pub EachZero : List (List ℕ) → Type 0
EachZero [] = Unit {0}
EachZero (l ∷ slices) = (l ≡ cleared l) × EachZero slices

-- the first n cells made zero
unfoldable pub wiped : ℕ → List ℕ → List ℕ
unfolding over
wiped n l = over (zeros n) l

-- the first n cells never fall
abbrev pub NeverFalls : List ℕ → ℕ → Type 0
NeverFalls l n = (i j : ℕ) → i ≤ j → j < n → get_or l i 0 ≤ get_or l j 0

-- the length of stretch b, from begin to before end
unfoldable pub length_in : List ℕ → List ℕ → ℕ → ℕ
length_in begin end b = get_or end b 0 - get_or begin b 0

-- the members i and j of a list exchanged; `none` is what a list that is too short for one of them is read as
unfoldable pub exchanged : {A : Type 0} → A → ℕ → ℕ → List A → List A
exchanged none i j l = set (set l i (get_or l j none)) j (get_or l i none)

-- the cells i and j exchanged
unfoldable pub swapped : ℕ → ℕ → List ℕ → List ℕ
unfolding exchanged
swapped i j l = exchanged 0 i j l

-- the cell of a column that a number names; a column that is too short for it gives the number itself
unfoldable pub cell : List ℕ → ℕ → ℕ
cell a i = get_or a i i

-- what a number is sorted by
unfoldable pub key_of : List ℕ → List ℕ → List ℕ → ℕ → Row
unfolding cell
key_of a b c i = (cell a i, (cell b i, cell c i))

-- whether number i comes before number j
unfoldable pub comes_before : List ℕ → List ℕ → List ℕ → ℕ → ℕ → Bool
unfolding row_lt key_of
comes_before a b c i j = row_lt (key_of a b c i) (key_of a b c j)

-- numbers in the order of their cells, and as they came where these are equal
unfoldable pub sort_by : List ℕ → List ℕ → List ℕ → List ℕ → List ℕ
unfolding sort row_lt key_of
sort_by a b c l = sort row_lt (key_of a b c) l
