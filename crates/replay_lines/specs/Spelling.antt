-- The text of numbers and answers, as bytes: 32 is a blank, 48 the digit 0.
use Rattle.std.specs.Prelude.{ℕ, List, [], ◌∷◌, ◌++◌}
use Rattle.columns.specs.Answers.{Said, done, refused}
unfoldable pub use Rattle.spelling.specs.Digits.{digits, digits_within}

-- a blank and a number
unfoldable pub spelled : ℕ → List ℕ
unfolding digits
spelled n = 32 ∷ digits n

-- numbers, with a blank before each
unfoldable pub spelled_all : List ℕ → List ℕ
unfolding spelled
spelled_all [] = []
spelled_all (n ∷ l) = spelled n ++ spelled_all l

-- what an answer says: `done` and its numbers, or `refused`, the number and the place
unfoldable pub said_text : Said → List ℕ
unfolding spelled_all
said_text (done numbers) = 100 ∷ 111 ∷ 110 ∷ 101 ∷ spelled_all numbers
said_text (refused number place) = 114 ∷ 101 ∷ 102 ∷ 117 ∷ 115 ∷ 101 ∷ 100 ∷ spelled_all (number ∷ place ∷ [])

-- the answer to a line that is no case: `bad`, the place of a word, and the line's end
unfoldable pub bad_text : ℕ → List ℕ
unfolding spelled
bad_text place = 98 ∷ 97 ∷ 100 ∷ (spelled place ++ (10 ∷ []))
