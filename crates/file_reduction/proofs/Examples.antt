-- Document 01's input file gives its output file, byte for byte, with a byte behind it left as it was; with a byte too few it is 16.
use Rattle.std.specs.Prelude.{◌≡◌, [], ◌∷◌, ◌++◌}
use mathlib.Core.Path.{refl}
use Rattle.columns.specs.Answers.{done, refused}
use Rattle.columns.specs.Columns.{zeros}
use Rattle.columns.specs.Limits.{no_room}
use Rattle.file.proofs.Examples.{input, output}
use Rattle.file_reduction.specs.Reducing.{reduce_file}

pub example : reduce_file input (zeros 53) ≡ (done (52 ∷ 3 ∷ 2 ∷ 2 ∷ 2 ∷ 1 ∷ 1 ∷ []), output ++ (0 ∷ []))
unfolding reduce_file
example = refl

pub example_short : reduce_file input (zeros 51) ≡ (refused no_room 52, zeros 51)
unfolding reduce_file
example_short = refl
