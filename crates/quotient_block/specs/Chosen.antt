-- The quotient by one state of each block: the state that is chosen, and the rows of these.
use Rattle.std.specs.Prelude.{◌≡◌, ℕ, ◌<◌, ◌≤◌, Bool, cond, not, ◌&&◌, List, length, ◌==◌, nat_eq, nat_lt, slice_index}
use Rattle.bisimulation.specs.Quotient.{between}
use Rattle.columns.specs.Blocks.{block_of}
use Rattle.columns.specs.Answers.{Said, done, refused}
use Rattle.columns.specs.Counting.{first}
use Rattle.columns.specs.Limits.{no_bottom}
use Rattle.columns.specs.Rows.{rows_of}
use Rattle.columns.specs.Sets.{Row, row_lt, collect}
use Rattle.quotient.specs.Naive.{header_by}
use Rattle.table.specs.Hidden.{tau_loop}
use Rattle.table.specs.Lts.{Lts, rows}
use Rattle.table.specs.Tables.{Three, rows_over}
use Rattle.quotient_block.specs.Bottom.{bottom_from}

-- the first state of a block in element order
unfoldable pub first_state : List ℕ → List ℕ → ℕ → ℕ
first_state elements begin b = slice_index elements (slice_index begin b)

-- the state chosen for block b: its first state, or with `branching` the bottom state that the walk from there ends in, n if it ends in
-- none
unfoldable pub choice : Bool → Lts → List ℕ → List ℕ → List ℕ → ℕ → ℕ
unfolding bottom_from first_state
choice branching t home elements begin b =
    let s = first_state elements begin b in cond branching (bottom_from t home s) s

-- the lowest block with no state to choose, `count` if every block has one
unfoldable pub lacking : Bool → Lts → List ℕ → List ℕ → List ℕ → ℕ → ℕ
unfolding first choice
lacking branching t home elements begin count = first count (λ b. nat_eq (choice branching t home elements begin b) t.n)

-- a row of the state that is chosen for its block, and no hidden self-loop where `loops` drops these
unfoldable pub of_chosen : Bool → (ℕ → ℕ) → (ℕ → ℕ) → Row → Bool
unfolding tau_loop
of_chosen loops chosen block r = chosen (block r.0) == r.0 && not (loops && tau_loop r)

-- the rows of the states chosen, between blocks, as a set, ascending
unfoldable pub chosen_rows : Bool → (ℕ → ℕ) → (ℕ → ℕ) → List Row → List Row
unfolding collect row_lt between of_chosen
chosen_rows loops chosen block rows = collect row_lt (of_chosen loops chosen block) (between block) rows

-- the rows of the states that are chosen in each block
unfoldable pub block_rows : Bool → Bool → Lts → List ℕ → List ℕ → List ℕ → List Row
unfolding chosen_rows choice rows_of
block_rows branching loops t home elements begin = chosen_rows loops (choice branching t home elements begin) (block_of home) (rows t)

-- what is said and left: 12 at the lowest block that has no state to choose, and the columns as they were; or the header, and the rows
unfoldable pub block_quotient : Bool → Bool → Lts → List ℕ → List ℕ → List ℕ → ℕ → Three → Said × Three
unfolding lacking block_rows rows_over
block_quotient branching loops t home elements begin count out =
    let b = lacking branching t home elements begin count in
    let kept = block_rows branching loops t home elements begin in
    cond (nat_lt b count) (refused no_bottom b, out) (done (header_by t home count kept), rows_over kept out)

-- what the choice goes by: each block has a first state, which is in it, and each state a block
pub record Choosable (n count : ℕ) (elements home begin : List ℕ) : Type 0 where
  pub few : count ≤ n
  pub homes : n ≤ length home
  pub begins : count ≤ length begin
  pub place : (b : ℕ) → b < count → slice_index begin b < length elements
  pub state : (b : ℕ) → b < count → first_state elements begin b < n
  pub own : (b : ℕ) → b < count → block_of home (first_state elements begin b) ≡ b
  pub below : (s : ℕ) → s < n → block_of home s < count
