-- Document 01's files, the input cut at each field, and one byte too many; files longer than the longest.
use Rattle.std.specs.Prelude.{◌≡◌, ℕ, List, [], ◌∷◌, ◌++◌, map, take}
use mathlib.Core.Path.{refl}
use Rattle.columns.specs.Answers.{Refusal}
use Rattle.columns.specs.Answers.{done, refused, refusal, none}
use Rattle.columns.specs.Columns.{zeros}
use Rattle.columns.specs.Limits.{no_room, too_short, wrong_contents, wrong_rows}
use Rattle.table.specs.Lts.{Lts}
use Rattle.file.specs.Input.{read_file, file_refusal, long_refusal}
use Rattle.file.specs.Decoded.{table_out, blocks_out}
use Rattle.file.specs.Output.{input_bytes, output_bytes, write_file}

-- three states and the rows (0, 1, 1), (0, 1, 2)
abbrev pub input : List ℕ
input =
    2 ∷ 0
    ∷ 1 ∷ 0 ∷ 22 ∷ 0 ∷ 0 ∷ 0 ∷ 8 ∷ 0 ∷ 0 ∷ 0
    ∷ 2 ∷ 0 ∷ 30 ∷ 0 ∷ 0 ∷ 0 ∷ 12 ∷ 0 ∷ 0 ∷ 0
    ∷ 3 ∷ 0 ∷ 2 ∷ 0 ∷ 2 ∷ 0 ∷ 0 ∷ 0
    ∷ 0 ∷ 0 ∷ 1 ∷ 0 ∷ 1 ∷ 0
    ∷ 0 ∷ 0 ∷ 1 ∷ 0 ∷ 2 ∷ 0
    ∷ []

abbrev source : Lts
source = record { n = 3; labels = 2; m = 2; initial = 0; source = 0 ∷ 0 ∷ []; label = 1 ∷ 1 ∷ []; target = 1 ∷ 2 ∷ [] }

-- two states and the row (0, 1, 1); the blocks of three states are 0, 1, 1
abbrev pub output : List ℕ
output =
    3 ∷ 0
    ∷ 1 ∷ 0 ∷ 32 ∷ 0 ∷ 0 ∷ 0 ∷ 8 ∷ 0 ∷ 0 ∷ 0
    ∷ 2 ∷ 0 ∷ 40 ∷ 0 ∷ 0 ∷ 0 ∷ 6 ∷ 0 ∷ 0 ∷ 0
    ∷ 3 ∷ 0 ∷ 46 ∷ 0 ∷ 0 ∷ 0 ∷ 6 ∷ 0 ∷ 0 ∷ 0
    ∷ 2 ∷ 0 ∷ 2 ∷ 0 ∷ 1 ∷ 0 ∷ 0 ∷ 0
    ∷ 0 ∷ 0 ∷ 1 ∷ 0 ∷ 1 ∷ 0
    ∷ 0 ∷ 0 ∷ 1 ∷ 0 ∷ 1 ∷ 0
    ∷ []

abbrev reduced : Lts
reduced = record { n = 2; labels = 2; m = 1; initial = 0; source = 0 ∷ []; label = 1 ∷ []; target = 1 ∷ [] }

abbrev blocks : List ℕ
blocks = 0 ∷ 1 ∷ 1 ∷ []

-- the rows go over the first cells, and a third cell stays
pub input_read :
    read_file input (7 ∷ 8 ∷ 9 ∷ [], (7 ∷ 8 ∷ [], 7 ∷ 8 ∷ []))
    ≡ (done (3 ∷ 2 ∷ 2 ∷ 0 ∷ []), (0 ∷ 0 ∷ 9 ∷ [], (1 ∷ 1 ∷ [], 1 ∷ 2 ∷ [])))
unfolding read_file
input_read = refl

pub input_written : input_bytes source ≡ input
unfolding input_bytes
input_written = refl

pub output_written : output_bytes reduced blocks ≡ output
unfolding output_bytes
output_written = refl

pub output_decoded : (table_out output ≡ reduced) × (blocks_out output ≡ blocks)
unfolding table_out blocks_out
output_decoded = (refl, refl)

-- a byte too many stays as it was; where there is a byte too few, the number needed is said
pub output_room :
    (write_file reduced 3 blocks (zeros 53) ∷ write_file reduced 3 blocks (zeros 51) ∷ [])
    ≡ ((done (52 ∷ []), output ++ (0 ∷ [])) ∷ (refused no_room 52, zeros 51) ∷ [])
unfolding write_file
output_room = refl

-- the input's first bytes, by how many they are
abbrev room : List ℕ
room = 2 ∷ 2 ∷ 2 ∷ []

abbrev cut : ℕ → Refusal
cut k = file_refusal (take k input) room

abbrev wrong : ℕ → Refusal
wrong place = refusal wrong_contents place

pub input_cut :
    map cut (0 ∷ 1 ∷ 2 ∷ 4 ∷ 7 ∷ 8 ∷ 11 ∷ 12 ∷ 14 ∷ 17 ∷ 18 ∷ 20 ∷ 29 ∷ 30 ∷ 41 ∷ 42 ∷ [])
    ≡ map wrong (0 ∷ 0 ∷ 2 ∷ 4 ∷ 4 ∷ 8 ∷ 8 ∷ 12 ∷ 14 ∷ 14 ∷ 18 ∷ 20 ∷ 29 ∷ 30 ∷ 41 ∷ []) ++ (none ∷ [])
unfolding file_refusal
input_cut = refl

-- a byte too many; a column too short
pub input_other :
    (file_refusal (input ++ (0 ∷ [])) room ∷ file_refusal input (2 ∷ 1 ∷ 2 ∷ []) ∷ []) ≡ (wrong 42 ∷ refusal too_short 0 ∷ [])
unfolding file_refusal
input_other = refl

-- the first 30 bytes of a file with 8,193 rows, which has 49,188
abbrev front : List ℕ
front =
    2 ∷ 0
    ∷ 1 ∷ 0 ∷ 22 ∷ 0 ∷ 0 ∷ 0 ∷ 8 ∷ 0 ∷ 0 ∷ 0
    ∷ 2 ∷ 0 ∷ 30 ∷ 0 ∷ 0 ∷ 0 ∷ 6 ∷ 192 ∷ 0 ∷ 0
    ∷ 3 ∷ 0 ∷ 2 ∷ 0 ∷ 1 ∷ 32 ∷ 0 ∷ 0
    ∷ []

-- a byte too few, none, and a byte too many
pub long_files :
    map (long_refusal front) (49187 ∷ 49188 ∷ 49189 ∷ []) ≡ (wrong 49187 ∷ refusal wrong_rows 0 ∷ wrong 49188 ∷ [])
unfolding long_refusal
long_files = refl
