-- When six columns hold a partition of n states into count blocks.
use Rattle.std.specs.Prelude.{ℕ, ◌≤◌, ◌<◌, Bool, ◌&&◌, List, [], ◌∷◌, ◌≡◌, length, get_or, set, ltb, leb, eqb}
use Rattle.columns.specs.Blocks.{block_of}
use Rattle.partition.specs.declared.PartitionColumns.{PartitionColumns}
use Rattle.columns.specs.Limits.{max_states}
use Rattle.columns.specs.Due.{all_long}
use Rattle.columns.specs.Inverse.{Inverse, inverseb}
use Rattle.columns.specs.Columns.{length_in}
use Rattle.columns.specs.Counting.{sum, all}

-- Six columns: the first n cells of the three that have a cell for each state count, and the first `count` cells of the three for blocks.
pub record Partition : Type 0 where
  pub elements : List ℕ
  pub element_offset : List ℕ
  pub element_to_block : List ℕ
  pub begin : List ℕ
  pub marked_split : List ℕ
  pub end : List ℕ
  pub n : ℕ
  pub count : ℕ

abbrev pub parts : List ℕ → List ℕ → List ℕ → List ℕ → List ℕ → List ℕ → ℕ → ℕ → Partition
parts e o b x m z n count =
    record { elements = e; element_offset = o; element_to_block = b; begin = x; marked_split = m; end = z; n = n; count = count }

-- the partition of n states into count blocks that columns hold which are lent to be read
abbrev pub parts_of : PartitionColumns → ℕ → ℕ → Partition
parts_of c n count =
    parts c.elements.now c.element_offset.now c.element_to_block.now c.begin.now c.marked_split.now c.end.now n count

-- the same blocks over another order
abbrev pub reordered : Partition → List ℕ → List ℕ → Partition
reordered p l o = parts l o p.element_to_block p.begin p.marked_split p.end p.n p.count

-- the same with the marks of block b from position m on
abbrev pub with_split : Partition → ℕ → ℕ → Partition
with_split p b m =
    parts p.elements p.element_offset p.element_to_block p.begin (set p.marked_split b m) p.end p.n p.count

-- the block of state s
abbrev pub home_of : Partition → ℕ → ℕ
home_of p s = block_of p.element_to_block s

-- a block's bounds: begin < end, begin <= marked_split <= end <= n
pub record Within (x m z n : ℕ) : Type 0 where
  pub some : x < z
  pub from : x ≤ m
  pub to : m ≤ z
  pub most : z ≤ n

-- state s's position lies in its block
pub record Lies (p : Partition) (s : ℕ) : Type 0 where
  pub known : home_of p s < p.count
  pub from : get_or p.begin (home_of p s) 0 ≤ get_or p.element_offset s 0
  pub to : get_or p.element_offset s 0 < get_or p.end (home_of p s) 0

-- the lengths of the first blocks, added up
unfoldable pub lengths : List ℕ → List ℕ → ℕ → ℕ
unfolding sum length_in
lengths begin end count = sum (length_in begin end) count

-- 1..n blocks; elements a permutation and offsets its inverse; each block's bounds; each state's position in its block; lengths
-- that add up to n
pub record Consistent (p : Partition) : Type 0 where
  pub some : 1 ≤ p.count
  pub most : p.count ≤ p.n
  pub order : Inverse p.elements p.element_offset p.n
  pub places : Inverse p.element_offset p.elements p.n
  pub bounds : (b : ℕ) → b < p.count → Within (get_or p.begin b 0) (get_or p.marked_split b 0) (get_or p.end b 0) p.n
  pub lies : (s : ℕ) → s < p.n → Lies p s
  pub whole : lengths p.begin p.end p.count ≡ p.n

-- every column has n cells
pub record Long (p : Partition) : Type 0 where
  pub elements : p.n ≤ length p.elements
  pub element_offset : p.n ≤ length p.element_offset
  pub element_to_block : p.n ≤ length p.element_to_block
  pub begin : p.n ≤ length p.begin
  pub marked_split : p.n ≤ length p.marked_split
  pub end : p.n ≤ length p.end

-- what a call may go by once the columns are checked
pub record Sound (p : Partition) : Type 0 where
  pub small : p.n ≤ max_states
  pub long : Long p
  pub consistent : Consistent p

-- ---- the same as tests
unfoldable pub withinb : ℕ → ℕ → ℕ → ℕ → Bool
withinb x m z n = ltb x z && (leb x m && (leb m z && leb z n))

unfoldable pub block_at : List ℕ → List ℕ → List ℕ → ℕ → ℕ → Bool
block_at begin split end n b = withinb (get_or begin b 0) (get_or split b 0) (get_or end b 0) n

unfoldable pub boundsb : List ℕ → List ℕ → List ℕ → ℕ → ℕ → Bool
boundsb begin split end n count = all count (block_at begin split end n)

unfoldable pub insideb : ℕ → ℕ → ℕ → Bool
insideb x o z = leb x o && ltb o z

unfoldable pub lie_at : List ℕ → List ℕ → List ℕ → List ℕ → ℕ → ℕ → Bool
lie_at offset block begin end count s =
    ltb (get_or block s 0) count && insideb (get_or begin (get_or block s 0) 0) (get_or offset s 0) (get_or end (get_or block s 0) 0)

unfoldable pub liesb : List ℕ → List ℕ → List ℕ → List ℕ → ℕ → ℕ → Bool
liesb offset block begin end n count = all n (lie_at offset block begin end count)

-- `Consistent` as a test. An inverse one way is an inverse both ways
unfoldable pub consistentb : Partition → Bool
consistentb p =
    leb 1 p.count
    && (leb p.count p.n
    && (inverseb p.elements p.element_offset p.n
    && (boundsb p.begin p.marked_split p.end p.n p.count
    && (liesb p.element_offset p.element_to_block p.begin p.end p.n p.count
    && eqb (lengths p.begin p.end p.count) p.n))))

-- `Long` as a test
unfoldable pub longb : Partition → Bool
unfolding all_long
longb p =
    all_long p.n
    (length p.elements ∷ length p.element_offset ∷ length p.element_to_block ∷ length p.begin ∷ length p.marked_split
    ∷ length p.end ∷ [])
