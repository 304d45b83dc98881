-- Where the parts of a file stand and how long they are, in bytes.
use Rattle.std.specs.Prelude.{ℕ}

-- the kinds of a body: the header of a table, its rows, the block of each source state
abbrev pub header_kind : ℕ
header_kind = 1

abbrev pub rows_kind : ℕ
rows_kind = 2

abbrev pub blocks_kind : ℕ
blocks_kind = 3

-- how many bytes a header, a row and a block have
abbrev pub header_size : ℕ
header_size = 8

abbrev pub row_size : ℕ
row_size = 6

abbrev pub block_size : ℕ
block_size = 2

-- the contents of an input file: how many entries it has, and where that stands; then kind, offset and length of each
abbrev pub input_entries : ℕ
input_entries = 2

abbrev pub entries_at : ℕ
entries_at = 0

abbrev pub header_kind_at : ℕ
header_kind_at = 2

abbrev pub header_offset_at : ℕ
header_offset_at = 4

abbrev pub header_length_at : ℕ
header_length_at = 8

abbrev pub rows_kind_at : ℕ
rows_kind_at = 12

abbrev pub rows_offset_at : ℕ
rows_offset_at = 14

abbrev pub rows_length_at : ℕ
rows_length_at = 18

-- the bodies of an input file: the header with its four numbers, then the rows
abbrev pub input_header : ℕ
input_header = 22

abbrev pub states_at : ℕ
states_at = 22

abbrev pub labels_at : ℕ
labels_at = 24

abbrev pub row_count_at : ℕ
row_count_at = 26

abbrev pub initial_at : ℕ
initial_at = 28

abbrev pub input_rows : ℕ
input_rows = 30

-- the first row's source, label and target
abbrev pub first_source : ℕ
first_source = 30

abbrev pub first_label : ℕ
first_label = 32

abbrev pub first_target : ℕ
first_target = 34

-- the longest input file
abbrev pub largest_input : ℕ
largest_input = 49182

-- one byte more than the longest file whose fields agree, one with 65,535 rows (30 + 6 · 65,535 = 393,240): of a longer file no more need
-- be counted
abbrev pub counted : ℕ
counted = 393241

-- an output file: how many entries its contents have; where the third says where the blocks begin and how many bytes they have; its first
-- two bodies
abbrev pub output_entries : ℕ
output_entries = 3

abbrev pub blocks_offset_at : ℕ
blocks_offset_at = 24

abbrev pub blocks_length_at : ℕ
blocks_length_at = 28

abbrev pub output_header : ℕ
output_header = 32

abbrev pub output_rows : ℕ
output_rows = 40

-- the longest output file
abbrev pub largest_output : ℕ
largest_output = 57384
