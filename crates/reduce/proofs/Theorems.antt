-- The line on standard error.
use Prim.Native.Nat.{ℕ}
use mathlib.Core.List.{List}
use mathlib.Core.Path.{◌≡◌, refl}
use lib.ListN.{take}
use Rattle.columns.specs.Answers.{done, refused}
use Rattle.spelling.specs.Texts.{text}
use Rattle.reduce.specs.Line.{line_text}

-- Its first word tells whether the reduction is done: these are the words by which `hegrastol` decides.
pub says_reduced : (values : List ℕ) → take 9 (line_text (done values)) ≡ text "reduced: "
unfolding line_text
says_reduced values = refl

pub says_refused : (number place : ℕ) → take 8 (line_text (refused number place)) ≡ text "refused "
unfolding line_text
says_refused number place = refl
