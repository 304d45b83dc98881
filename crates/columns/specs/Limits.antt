-- The limits of document 01, and the numbers of its refusals.
use Rattle.std.specs.Prelude.{ℕ}

-- how many states, labels and rows a table may have
abbrev pub max_states : ℕ
max_states = 4096

abbrev pub max_labels : ℕ
max_labels = 1024

abbrev pub max_rows : ℕ
max_rows = 8192

-- states, labels, rows outside their range; the initial state no state
abbrev pub wrong_states : ℕ
wrong_states = 1

abbrev pub wrong_labels : ℕ
wrong_labels = 2

abbrev pub wrong_rows : ℕ
wrong_rows = 3

abbrev pub wrong_initial : ℕ
wrong_initial = 4

-- a field of a row out of range; a row not above the one before
abbrev pub wrong_field : ℕ
wrong_field = 5

abbrev pub not_above : ℕ
not_above = 6

-- a lent slice too short
abbrev pub too_short : ℕ
too_short = 7

-- a state, block or position argument out of range
abbrev pub out_of_range : ℕ
out_of_range = 8

-- nothing of the block marked; the numbers of the marked states not dense
abbrev pub nothing_marked : ℕ
nothing_marked = 9

abbrev pub not_dense : ℕ
not_dense = 10

-- a cycle longer than a self-loop
abbrev pub cyclic : ℕ
cyclic = 11

-- the search for a bottom state comes back to a state
abbrev pub no_bottom : ℕ
no_bottom = 12

-- a field of a file's contents or a body's length not as it must be
abbrev pub wrong_contents : ℕ
wrong_contents = 13

-- the lent partition or block not consistent
abbrev pub inconsistent : ℕ
inconsistent = 14

-- list starts that fall or run past the end, or a signature not strictly ascending
abbrev pub wrong_list : ℕ
wrong_list = 15

-- less room than is needed
abbrev pub no_room : ℕ
no_room = 16
