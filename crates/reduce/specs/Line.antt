-- The line on standard error, as bytes.
use Rattle.std.specs.Prelude.{ℕ, cond, List, [], ◌++◌, eqb, get_or}
use Prim.Native.String.{String}
use Rattle.columns.specs.Answers.{Said, done, refused}
use Rattle.columns.specs.Limits.{wrong_contents, wrong_states, wrong_labels, wrong_rows, wrong_initial, wrong_field, not_above}
use Rattle.spelling.specs.Texts.{text}
use Rattle.spelling.specs.Digits.{digits}

-- a number and the words behind it
unfoldable pub counted : ℕ → String → List ℕ
unfolding digits text
counted number words = digits number ++ text words

-- what a refusal means
unfoldable pub meaning : ℕ → List ℕ
unfolding text
meaning number =
    cond (eqb number wrong_contents) (text "the contents of the file, or the length of a body, are not as they must be")
    (cond (eqb number wrong_states) (text "the number of states is not from 1 to 4096")
    (cond (eqb number wrong_labels) (text "the number of labels is not from 1 to 1024")
    (cond (eqb number wrong_rows) (text "the number of rows is above 8192")
    (cond (eqb number wrong_initial) (text "the initial state is not below the number of states")
    (cond (eqb number wrong_field) (text "a field of this row is out of range")
    (cond (eqb number not_above) (text "this row is not above the one before") []))))))

-- what was reduced: states, rows and labels
unfoldable pub source_text : (states labels rows : ℕ) → List ℕ
unfolding text counted
source_text states labels rows = text "reduced: " ++ counted states " states, " ++ counted rows " rows, " ++ counted labels " labels to "

-- to what: blocks and rows, and the rounds that split something
unfoldable pub result_text : (blocks rows rounds : ℕ) → List ℕ
unfolding counted
result_text blocks rows rounds = counted blocks " blocks, " ++ counted rows " rows in " ++ counted rounds " rounds\n"

-- what is refused, and where
unfoldable pub place_text : (number place : ℕ) → List ℕ
unfolding text counted
place_text number place = text "refused " ++ counted number " at " ++ counted place ": "

-- and what that means
unfoldable pub refused_text : (number place : ℕ) → List ℕ
unfolding text meaning place_text
refused_text number place = place_text number place ++ meaning number ++ text "\n"

-- the line; of what is done, the first number, how many bytes are written, is not told
unfoldable pub line_text : Said → List ℕ
unfolding source_text result_text refused_text
line_text (done values) =
    let value : ℕ → ℕ = λ i. get_or values i 0 in source_text (value 1) (value 2) (value 3) ++ result_text (value 4) (value 5) (value 6)
line_text (refused number place) = refused_text number place
