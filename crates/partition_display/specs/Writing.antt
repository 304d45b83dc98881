-- What the writers leave, and what they ask for: what the proofs go by, nothing that a contract of an operation says.
use Rattle.std.specs.Prelude.{ℕ, ◌+◌, ◌≤◌, ◌<◌, List, ◌≡◌, length, get_or}
use Rattle.std.proofs.lemmas.List.Edits.{sets}

-- `words` stored cell by cell from `at` on, as far as there are cells, and `next` the place behind them
pub record Wrote (before : List ℕ) (at : ℕ) (words after : List ℕ) (next : ℕ) : Type 0 where
  pub text : after ≡ sets before at words
  pub place : next ≡ at + length words

-- block b is a stretch of the elements
pub record Stretch (elements begin end : List ℕ) (b : ℕ) : Type 0 where
  pub rises : get_or begin b 0 ≤ get_or end b 0
  pub ends : get_or end b 0 ≤ length elements

-- count blocks can be read
pub record Readable (elements begin split end : List ℕ) (count : ℕ) : Type 0 where
  pub few : count < 65536
  pub begins : count ≤ length begin
  pub splits : count ≤ length split
  pub stops : count ≤ length end
  pub blocks : (b : ℕ) → b < count → Stretch elements begin end b
