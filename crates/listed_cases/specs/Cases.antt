-- The cases of document 01's table P, each with the test that its operation's definition gives what is listed.
use Rattle.std.specs.Prelude.{ℕ, ◌+◌, ◌-◌, Bool, true, false, ◌&&◌, List, [], ◌∷◌, eqb, length}
use Prim.Native.String.{String}
use Rattle.columns.specs.Answers.{Said, done, refused}
use Rattle.columns.specs.Counting.{bit}
use Rattle.columns.specs.Columns.{zeros}
use Rattle.columns.specs.Rows.{first_of, last_of}
use Rattle.columns.specs.Sets.{Pair, Row, same}
use Rattle.pairs.specs.Subset.{is_subset_of}
use Rattle.partition.specs.Partition.{Partition, parts}
use Rattle.partition_display.specs.Display.{display_text}
use Rattle.partition_division.specs.Division.{work, partition_marked_with}
use Rattle.partition_split.specs.Split.{split_marked}
use Rattle.reduction.specs.Reducing.{strong_reduction}
use Rattle.table.specs.Lts.{Lts}
use Rattle.quotient.specs.Call.{quotient_lts_naive}
use Rattle.quotient_redundant.specs.Call.{remove_redundant_transitions}
use Rattle.table.specs.Tables.{Three, table_of, rows_over}
use Rattle.table_order.specs.Call.{sort_topological}
use Rattle.listed_cases.specs.Text.{reads}

-- one block: the order of the states, its inverse, and the first marked position
unfoldable pub one_block : List ℕ → List ℕ → ℕ → Partition
one_block order offset split =
    let n = length order in
    let rest = zeros (n - 1) in
    parts order offset (zeros n) (0 ∷ rest) (split ∷ rest) (n ∷ rest) n 1

-- the given partition reads `given`, the call is done, and the partition that it leaves reads `left`
unfoldable pub becomes : Partition → String → Said → Partition → String → Bool
unfolding reads display_text
becomes p given (done values) q left = reads (display_text p) given && reads (display_text q) left
becomes p given (refused number place) q left = false

-- what is said is that the call is done, with these numbers
unfoldable pub says : Said → List ℕ → Bool
unfolding same
says (done values) l = same eqb values l
says (refused number place) l = false

-- the header that is said, and the rows over the first cells of result columns that had `out`
unfoldable pub answers_rows : Said × (Three × List (List ℕ)) → List ℕ → List Row → Three → Bool
unfolding says same rows_over
answers_rows r header left out =
    let want = rows_over left out in
    says r.0 header
    && (same eqb r.1.0.0 want.0 && (same eqb r.1.0.1.0 want.1.0 && same eqb r.1.0.1.1 want.1.1))

pub data Case : Type 0 where
  -- `partition_marked_with` on block 0, by these numbers; the texts of the partition before and after
  divide : Partition → String → List ℕ → String → Case
  -- `split_marked` on block 0, by these bytes; the texts of the partition before and after
  split : Partition → String → List ℕ → String → Case
  -- `sort_topological` of a table with n states and these rows, over hidden rows only or not, reversed or not: each state's place
  order : ℕ → List Row → Bool → Bool → List ℕ → Case
  -- `quotient_lts_naive` of a table with two states, one label and these rows, by one block, with `eliminate_inert_taus` and
  -- `eliminate_tau_loops` or not: the rows left
  naive : List Row → Bool → Bool → List Row → Case
  -- `remove_redundant_transitions` of a table with n states, two labels and these rows: the rows left
  remove : ℕ → List Row → List Row → Case
  -- `strong_reduction`: n, labels, m and initial state of the reduced table and the rounds, and each state's block
  reduction : Lts → List ℕ → List ℕ → Case
  -- `is_subset_of`: other in self, without the excluded pair: yes or no
  subset : List Pair → List Pair → Pair → Bool → Case

-- the definitions answer the case as it is listed
unfoldable pub passes : Case → Bool
unfolding becomes says answers_rows partition_marked_with split_marked sort_topological is_subset_of table_of one_block quotient_lts_naive
    remove_redundant_transitions strong_reduction
passes (divide p given numbers left) =
    let room = zeros (p.n + 1) in
    let r = partition_marked_with p 0 numbers (work room room room) in
    becomes p given r.0 r.1.0 left
passes (split p given choice left) = let r = split_marked p 0 choice in becomes p given r.0 r.1 left
passes (order n rows hidden reversed places) =
    let room = zeros (n + length rows + 1) in
    let r = sort_topological (table_of n 1 0 rows) hidden reversed (zeros n) room room in
    says r.0 [] && same eqb r.1.0 places
passes (naive rows inerts loops left) =
    let room = zeros (length rows + 3) in
    let out : Three = (room, (room, room)) in
    let r = quotient_lts_naive inerts loops (table_of 2 1 0 rows) (one_block (0 ∷ 1 ∷ []) (0 ∷ 1 ∷ []) 0) out
    (room ∷ room ∷ room ∷ room ∷ room ∷ []) in
    answers_rows r (1 ∷ 1 ∷ length left ∷ 0 ∷ []) left out
passes (remove n rows left) =
    let room = zeros (n + length rows + 1) in
    let out : Three = (room, (room, room)) in
    let r = remove_redundant_transitions (table_of n 2 0 rows) out (room ∷ room ∷ room ∷ room ∷ room ∷ room ∷ room ∷ []) in
    answers_rows r (n ∷ 2 ∷ length left ∷ 0 ∷ []) left out
passes (reduction t answer blocks) =
    let result = zeros t.m in
    let room = zeros (t.n + t.m + 1) in
    let works = room ∷ room ∷ room ∷ room ∷ room ∷ room ∷ room ∷ room ∷ room ∷ room ∷ [] in
    let r = strong_reduction t ((result, (result, result)), (zeros t.n, works)) in
    says r.0 answer && same eqb r.1.1.0 blocks
passes (subset self other excluded answer) =
    says (is_subset_of (first_of self) (last_of self) (first_of other) (last_of other) excluded) (bit answer ∷ [])

-- table P, in its order
unfoldable pub listed_cases : List Case
unfolding one_block table_of
listed_cases =
    -- P1
    divide (one_block (0 ∷ 1 ∷ 2 ∷ 3 ∷ []) (0 ∷ 1 ∷ 2 ∷ 3 ∷ []) 0) "{{0*, 1*, 2*, 3*}}" (0 ∷ 1 ∷ 1 ∷ 0 ∷ []) "{{1, 2}, {0, 3}}"
    -- P2: 0 has number 1, 1 has number 0; the others are not read
    ∷ divide (one_block (2 ∷ 3 ∷ 0 ∷ 1 ∷ []) (2 ∷ 3 ∷ 0 ∷ 1 ∷ []) 2) "{{2, 3, 0*, 1*}}" (1 ∷ 0 ∷ 7 ∷ 8 ∷ []) "{{2, 3}, {1}, {0}}"
    -- P3: by {0}
    ∷ split (one_block (0 ∷ 1 ∷ 2 ∷ []) (0 ∷ 1 ∷ 2 ∷ []) 0) "{{0*, 1*, 2*}}" (1 ∷ 0 ∷ 0 ∷ []) "{{2, 1}, {0}}"
    -- P4: all chosen
    ∷ split (one_block (0 ∷ 1 ∷ 2 ∷ []) (0 ∷ 1 ∷ 2 ∷ []) 0) "{{0*, 1*, 2*}}" (1 ∷ 1 ∷ 1 ∷ []) "{{1*, 2*, 0*}}"
    -- P5: rows 0-1, 0-2 hidden, reversed
    ∷ order 3 ((0, (0, 1)) ∷ (0, (0, 2)) ∷ []) true true (2 ∷ 1 ∷ 0 ∷ [])
    -- P6: either switch alone, and both
    ∷ naive ((0, (0, 0)) ∷ (0, (0, 1)) ∷ []) true false ((0, (0, 0)) ∷ [])
    ∷ naive ((0, (0, 0)) ∷ (0, (0, 1)) ∷ []) false true ((0, (0, 0)) ∷ [])
    ∷ naive ((0, (0, 0)) ∷ (0, (0, 1)) ∷ []) true true []
    -- P7: the second is redundant
    ∷ remove 3 ((0, (0, 1)) ∷ (0, (1, 2)) ∷ (1, (1, 2)) ∷ []) ((0, (0, 1)) ∷ (1, (1, 2)) ∷ [])
    -- P8: three blocks, 2 rounds
    ∷ reduction (table_of 3 2 0 ((0, (1, 1)) ∷ (1, (1, 2)) ∷ [])) (3 ∷ 2 ∷ 2 ∷ 0 ∷ 2 ∷ []) (0 ∷ 1 ∷ 2 ∷ [])
    -- P9: one block, 0 rounds
    ∷ reduction (table_of 1 1 0 []) (1 ∷ 1 ∷ 0 ∷ 0 ∷ 0 ∷ []) (0 ∷ [])
    -- P10: (0,3), (2,1) in (1,0), (2,1): yes without (0,3), no without (0,2)
    ∷ subset ((1, 0) ∷ (2, 1) ∷ []) ((0, 3) ∷ (2, 1) ∷ []) (0, 3) true
    ∷ subset ((1, 0) ∷ (2, 1) ∷ []) ((0, 3) ∷ (2, 1) ∷ []) (0, 2) false
    ∷ []

-- every case passes
unfoldable pub all_pass : List Case → Bool
unfolding passes
all_pass [] = true
all_pass (c ∷ cs) = passes c && all_pass cs
