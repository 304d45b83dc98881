-- The topological order of document 01: depth first from 0 upward, the last listed successor first, by finishing.
use Rattle.std.specs.Prelude.{ℕ, zero, suc, Bool, cond, not, ◌&&◌, List, [], ◌∷◌, length, ◌==◌, nat_eq}
use Rattle.columns.specs.Counting.{some}
use Rattle.columns.specs.Rows.{rows_of}
use Rattle.columns.specs.Sets.{Row, among}
use Rattle.table.specs.Lts.{Lts, rows}
use Rattle.table.specs.Reach.{takes, reaches}

-- s is listed
unfoldable pub is_in : ℕ → List ℕ → Bool
unfolding among
is_in s l = among nat_eq s l

-- a visit for each member, the last listed first
unfoldable pub last_first : (ℕ → List ℕ → List ℕ) → List ℕ → List ℕ → List ℕ
last_first v [] done = done
last_first v (t ∷ ts) done = v t (last_first v ts done)

-- how many of a list come behind the member s, and how many before
unfoldable pub behind : ℕ → List ℕ → ℕ
behind s [] = 0
behind s (x ∷ xs) = cond (s == x) (length xs) (behind s xs)

unfoldable pub ahead : ℕ → List ℕ → ℕ
ahead s [] = 0
ahead s (x ∷ xs) = cond (s == x) 0 (suc (ahead s xs))

-- `next s` are the successors of s, in listed order
module _ (next : ℕ → List ℕ) where
  -- done: the finished states, the last one first. A state is finished after all that it leads to
  unfoldable pub visit : ℕ → ℕ → List ℕ → List ℕ
  unfolding is_in last_first
  visit zero s done = done
  visit (suc fuel) s done = cond (is_in s done) done (s ∷ last_first (visit fuel) (next s) done)

  -- from 0 upward, before r
  unfoldable pub sweep : ℕ → ℕ → List ℕ
  unfolding visit
  sweep fuel zero = []
  sweep fuel (suc r) = visit fuel r (sweep fuel r)

  -- reversed: how many of n states finish before s; otherwise how many finish after it
  unfoldable pub place_of : ℕ → Bool → ℕ → ℕ
  unfolding sweep ahead behind
  place_of n reversed s = cond reversed (behind s (sweep n n)) (ahead s (sweep n n))

-- a row with label a to u counts for s: it is accepted, and no self-loop
unfoldable pub counts : Bool → ℕ → ℕ → ℕ → Bool
unfolding takes
counts hidden s a u = takes hidden a && not (u == s)

-- a row of s that counts
unfoldable pub own_counts : Bool → ℕ → Row → Bool
unfolding counts
own_counts hidden s r = r.0 == s && counts hidden s r.1.0 r.1.1

-- the targets of these rows, in listed order
unfoldable pub succs : Bool → List Row → ℕ → List ℕ
unfolding own_counts
succs hidden [] s = []
succs hidden (r ∷ rs) s = cond (own_counts hidden s r) (r.1.1 ∷ succs hidden rs s) (succs hidden rs s)

-- the successors of s
abbrev pub next : Lts → Bool → ℕ → List ℕ
next t hidden = succs hidden (rows t)

-- each state's place
unfoldable pub sort_place : Lts → Bool → Bool → ℕ → ℕ
unfolding place_of succs rows_of
sort_place t hidden reversed s = place_of (next t hidden) t.n reversed s

-- a cycle longer than a self-loop: some state reaches itself through another one
unfoldable pub has_cycle : Lts → Bool → Bool
unfolding some reaches
has_cycle t hidden = some t.n (λ s. some t.n (λ u. not (s == u) && (reaches t hidden s u && reaches t hidden u s)))
