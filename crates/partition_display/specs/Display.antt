-- The text of a partition, as document 01 writes it: `{{2, 3, 0*}, {1}}`. A text is a list of bytes; 32 is a space, 42 a star,
-- 44 a comma, 48 the digit 0, 123 and 125 the braces.
use Rattle.std.specs.Prelude.{ℕ, zero, suc, ◌+◌, ◌-◌, ◌/◌, ◌%◌, cond, true, List, [], ◌∷◌, ◌++◌, length, get_or, ltb, leb, eqb}
use Rattle.columns.specs.Answers.{Refusal}
use Rattle.columns.specs.Due.{due, room_test}
use Rattle.columns.specs.Answers.{Said, leaving}
use Rattle.columns.specs.Columns.{over}
use Rattle.partition.specs.Partition.{Partition, longb, consistentb}
use Rattle.partition.specs.Checks.{partition_tests}

-- the digit of x that counts units of this size; a number below the unit has none
unfoldable pub digit : ℕ → ℕ → List ℕ
digit unit x = cond (ltb x unit) [] ((48 + x / unit % 10) ∷ [])

-- a number below 10,000, without leading zeros
unfoldable pub decimal : ℕ → List ℕ
unfolding digit
decimal x = digit 1000 x ++ digit 100 x ++ digit 10 x ++ ((48 + x % 10) ∷ [])

-- the element at place k, with a star from `split` on
unfoldable pub element_text : List ℕ → ℕ → ℕ → List ℕ
unfolding decimal
element_text elements split k = decimal (get_or elements k 0) ++ cond (leb split k) (42 ∷ []) []

-- what stands before text k of a list: a comma and a space, and nothing before the first
unfoldable pub separator : ℕ → List ℕ
separator k = cond (eqb k 0) [] (44 ∷ 32 ∷ [])

-- the texts f 0, f 1, .., f (n - 1), with separators
unfoldable pub separated : ℕ → (ℕ → List ℕ) → List ℕ
unfolding separator
separated zero f = []
separated (suc n) f = separated n f ++ separator n ++ f n

abbrev pub braced : List ℕ → List ℕ
braced l = (123 ∷ []) ++ l ++ (125 ∷ [])

-- the block of the places from `from` to `to`
unfoldable pub block_text : List ℕ → ℕ → ℕ → ℕ → List ℕ
unfolding separated element_text
block_text elements from split to = braced (separated (to - from) (λ i. element_text elements split (from + i)))

-- the blocks of the table, in order
unfoldable pub blocks_text : List ℕ → List ℕ → List ℕ → List ℕ → ℕ → List ℕ
unfolding separated block_text
blocks_text elements begin split end count =
    braced (separated count (λ b. block_text elements (get_or begin b 0) (get_or split b 0) (get_or end b 0)))

unfoldable pub display_text : Partition → List ℕ
unfolding blocks_text
display_text p = blocks_text p.elements p.begin p.marked_split p.end p.count

-- 1, 7, 14, 16
unfoldable pub display_refusal : Partition → ℕ → Refusal
unfolding due longb consistentb display_text
display_refusal p room = due (partition_tests p true ++ (room_test (length (display_text p)) room ∷ []))

-- the text over the first bytes, and its length as the answer
unfoldable pub displayed : Partition → List ℕ → Said × List ℕ
unfolding display_refusal display_text leaving over
displayed p text = leaving (display_refusal p (length text)) text (length (display_text p) ∷ []) (over (display_text p) text)
