-- Texts worked out by computation.
use mathlib.Core.Bool.{true, false}
use mathlib.Core.List.{[], ◌∷◌, ◌++◌}
use mathlib.Core.Path.{◌≡◌, refl}
use Rattle.columns.specs.Answers.{done, refused}
use Rattle.replay_lines.specs.Spelling.{digits, said_text}
use Rattle.replay_lines.specs.Slices.{column_text, part_text}

zero_text : digits 0 ≡ 48 ∷ []
unfolding digits
zero_text = refl

largest : digits 65535 ≡ 54 ∷ 53 ∷ 53 ∷ 51 ∷ 53 ∷ []
unfolding digits
largest = refl

-- `18446744073709551615`
widest : digits 18446744073709551615 ≡ 49 ∷ 56 ∷ 52 ∷ 52 ∷ 54 ∷ 55 ∷ 52 ∷ 52 ∷ 48 ∷ 55 ∷ 51 ∷ 55 ∷ 48 ∷ 57 ∷ 53 ∷ 53 ∷ 49 ∷ 54 ∷ 49 ∷ 53
    ∷ []
unfolding digits
widest = refl

-- `done 3 1 | 1 0`
answered : said_text (done (3 ∷ 1 ∷ [])) ++ column_text false (1 ∷ 0 ∷ [])
    ≡ 100 ∷ 111 ∷ 110 ∷ 101 ∷ 32 ∷ 51 ∷ 32 ∷ 49 ∷ 32 ∷ 124 ∷ 32 ∷ 49 ∷ 32 ∷ 48 ∷ []
unfolding said_text column_text
answered = refl

-- `refused 16 4`
not_done : said_text (refused 16 4) ≡ 114 ∷ 101 ∷ 102 ∷ 117 ∷ 115 ∷ 101 ∷ 100 ∷ 32 ∷ 49 ∷ 54 ∷ 32 ∷ 52 ∷ []
unfolding said_text
not_done = refl

-- an empty slice, ` |`, and an empty part, `part 0`
empty : column_text false [] ≡ 32 ∷ 124 ∷ []
unfolding column_text
empty = refl

no_part : part_text false [] ≡ 112 ∷ 97 ∷ 114 ∷ 116 ∷ 32 ∷ 48 ∷ []
unfolding part_text
no_part = refl

-- the cells 0 0 1 2 3, ` | 0*2 1+3`, and 0 1 1 1, ` | 0+2 1*2`
twice : column_text true (0 ∷ 0 ∷ 1 ∷ 2 ∷ 3 ∷ []) ≡ 32 ∷ 124 ∷ 32 ∷ 48 ∷ 42 ∷ 50 ∷ 32 ∷ 49 ∷ 43 ∷ 51 ∷ []
unfolding column_text
twice = refl

upward : column_text true (0 ∷ 1 ∷ 1 ∷ 1 ∷ []) ≡ 32 ∷ 124 ∷ 32 ∷ 48 ∷ 43 ∷ 50 ∷ 32 ∷ 49 ∷ 42 ∷ 50 ∷ []
unfolding column_text
upward = refl

-- cells of which no two go together, ` | 2 0 5`
apart : column_text true (2 ∷ 0 ∷ 5 ∷ []) ≡ column_text false (2 ∷ 0 ∷ 5 ∷ [])
unfolding column_text
apart = refl
