-- A call of `strong_reduction`: what its parameters are on entry and at return, in their order in src/lib.rt, and of these the table and
-- the slices that the contract there names `given` and `left`.
use Rattle.std.specs.Prelude.{ℕ, zero, suc, List, [], ◌∷◌}
use contract.Lifetimes.{Lfts}
use Rattle.std.specs.Borrow.{MutBor}
use denote.Triple.Clauses.{AtExit}
use denote.Triple.Entry.{Args}
use Rattle.reduction.specs.Reducing.{Slices}
use Rattle.reduction.specs.contracts.strong_reduction.{signature, ended}
use Rattle.table.specs.Lts.{Lts, lts_of}

-- k lent slices, and what they hold
abbrev Lent : ℕ → Type 0
Lent zero = Unit {0}
Lent (suc k) = MutBor (List ℕ) × Lent k

abbrev held : (k : ℕ) → Lent k → List (List ℕ)
held zero l = []
held (suc k) l = l.0.now ∷ held k l.1

-- the three result columns, the block column and the ten work slices
abbrev slices : Lent 14 → Slices
slices l = ((l.0.now, (l.1.0.now, l.1.1.0.now)), (l.1.1.1.0.now, held 10 l.1.1.1.1))

module _ (κs : Lfts 16) where
  -- the table that is lent
  abbrev pub system : Args signature κs → Lts
  system entry = lts_of entry.0.now

  -- the slices that are lent for writing
  abbrev pub given : Args signature κs → Slices
  given entry = slices entry.1

  -- the same at return
  abbrev pub left : AtExit ended κs → Slices
  left exit = slices exit.1
