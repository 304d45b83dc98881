-- What document 01 says of the closure of block b's marks: it is the least set that holds the old marks and is closed under incoming hidden
-- steps within the block; and nothing but the block's own stretch changes.
use Rattle.std.specs.Prelude.{◌≡◌, ℕ, ◌<◌, ◌≤◌, false, ◌≢◌, slice_index}
use Rattle.partition.specs.Partition.{Partition, Sound, home_of}
use Rattle.partition.specs.Marked.{unmarkedb}
use Rattle.table.specs.Lts.{Lts, Step}

abbrev pub Marked : Partition → ℕ → Type 0
Marked p s = unmarkedb p s ≡ false

-- a hidden step from s to u within block b
pub record InnerStep (t : Lts) (p : Partition) (b s u : ℕ) : Type 0 where
  pub step : Step t s 0 u
  pub from : home_of p s ≡ b
  pub to : home_of p u ≡ b

-- a set that holds the marks of block b, and with a state each one that leads to it
pub record Holding (t : Lts) (p : Partition) (b : ℕ) (M : ℕ → Type 0) : Type 0 where
  pub marks : (s : ℕ) → s < p.n → home_of p s ≡ b → Marked p s → M s
  pub steps : (s u : ℕ) → InnerStep t p b s u → M u → M s

-- hidden steps within block b, perhaps none, lead from s to a mark of the block
pub data Leading (t : Lts) (p : Partition) (b : ℕ) : ℕ → Type 0 where
  marked : {s : ℕ} → s < p.n → home_of p s ≡ b → Marked p s → Leading t p b s
  along : {s u : ℕ} → InnerStep t p b s u → Leading t p b u → Leading t p b s

-- q is p but for the marks of block b
pub record Elsewhere (p : Partition) (b : ℕ) (q : Partition) : Type 0 where
  pub element_to_block : q.element_to_block ≡ p.element_to_block
  pub begin : q.begin ≡ p.begin
  pub end : q.end ≡ p.end
  pub n : q.n ≡ p.n
  pub count : q.count ≡ p.count
  pub splits : (j : ℕ) → (j ≢ b) → slice_index q.marked_split j ≡ slice_index p.marked_split j
  pub places : (s : ℕ) → (home_of p s ≢ b) → slice_index q.element_offset s ≡ slice_index p.element_offset s
  pub beyond : (s : ℕ) → p.n ≤ s → slice_index q.element_offset s ≡ slice_index p.element_offset s
  pub order : (k : ℕ) → (slice_index p.begin b ≤ k → k < slice_index p.end b → ⊥) → slice_index q.elements k ≡ slice_index p.elements k
  pub marks : (s : ℕ) → s < p.n → (home_of p s ≢ b) → unmarkedb q s ≡ unmarkedb p s

-- what the closure of block b in p leaves, q
pub record Closure (t : Lts) (p : Partition) (b : ℕ) (q : Partition) : Type 0 where
  pub sound : Sound q
  pub elsewhere : Elsewhere p b q
  pub stays : (s : ℕ) → s < p.n → Marked p s → Marked q s
  pub closed : (s u : ℕ) → InnerStep t p b s u → Marked q u → Marked q s
