-- The signatures of all states, one behind the other in two columns, labels and blocks. `begins` has where each begins; it ends where the
-- next one begins, the last at their total.
use Rattle.std.specs.Prelude.{◌≡◌, Bool, cond, List, ℕ, ◌+◌, ◌-◌, ◌≤◌, ◌<◌, ltb, length, get_or}
use Rattle.columns.specs.Columns.{listed}
use Rattle.columns.specs.Sets.{Pair, pair_eq, same}
use Rattle.columns.specs.Rows.{pairs_between, pair_at}

-- the signatures of n states
pub record Store : Type 0 where
  pub n : ℕ
  pub labels : List ℕ
  pub blocks : List ℕ
  pub total : ℕ
  pub begins : List ℕ

abbrev pub store : ℕ → List ℕ → List ℕ → ℕ → List ℕ → Store
store n labels blocks total begins = record { n = n; labels = labels; blocks = blocks; total = total; begins = begins }

-- where the signature of state s ends
unfoldable pub end_in : ℕ → ℕ → List ℕ → ℕ → ℕ
end_in n total begins s = cond (ltb (s + 1) n) (get_or begins (s + 1) 0) total

module _ (σ : Store) where
  abbrev pub start_of : ℕ → ℕ
  start_of s = get_or σ.begins s 0

  abbrev pub stored_end : ℕ → ℕ
  stored_end s = end_in σ.n σ.total σ.begins s

  -- the signature that is stored for state s
  unfoldable pub stored : ℕ → List Pair
  unfolding pairs_between end_in
  stored s = pairs_between σ.labels σ.blocks (start_of s) (stored_end s)

  -- two states have one signature
  unfoldable pub alike : ℕ → ℕ → Bool
  unfolding same pair_eq stored
  alike s u = same pair_eq (stored s) (stored u)

  -- the columns have room for what they are said to hold
  pub record Held : Type 0 where
    pub left : σ.total ≤ length σ.labels
    pub right : σ.total ≤ length σ.blocks
    pub long : σ.n ≤ length σ.begins
    pub up : (s : ℕ) → s < σ.n → start_of s ≤ stored_end s
    pub most : (s : ℕ) → s < σ.n → stored_end s ≤ σ.total

  -- they hold the signatures `sig`
  pub record AllSigned (sig : ℕ → List Pair) : Type 0 where
    pub held : Held
    pub signature : (s : ℕ) → s < σ.n → stored s ≡ sig s

-- the pairs of the rows from `first` to before `end`: label, and block of the target
unfoldable pub row_pairs : List ℕ → List ℕ → List ℕ → ℕ → ℕ → List Pair
unfolding listed
row_pairs label target home first end = listed (end - first) (λ k. (get_or label (first + k) 0, get_or home (get_or target (first + k) 0) 0))

-- the pairs at i and at j are the same
unfoldable pub pair_same : List ℕ → List ℕ → ℕ → ℕ → Bool
unfolding pair_eq pair_at
pair_same labels blocks i j = pair_eq (pair_at labels blocks i) (pair_at labels blocks j)
