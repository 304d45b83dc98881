-- Which states a state reaches, along all rows or along hidden rows only.
use Rattle.std.specs.Prelude.{◌≡◌, ℕ, zero, suc, Bool, true, not, ◌&&◌, ◌||◌, List, [], ◌∷◌, length, ◌==◌, nat_le, slice_index}
use Rattle.columns.specs.Answers.{Refusal}
use Rattle.columns.specs.Answers.{Said, leaving}
use Rattle.columns.specs.Columns.{written, cleared}
use Rattle.columns.specs.Counting.{many, some, bit}
use Rattle.columns.specs.Due.{all_long}
use Rattle.table.specs.Lts.{Lts}
use Rattle.table.specs.Checks.{works_long, table_argument_refusal}

module _ (edge : ℕ → ℕ → Bool) where
  -- a walk along edges, perhaps of none
  pub data Walk : ℕ → ℕ → Type 0 where
    stop : {s : ℕ} → Walk s s
    along : {s u v : ℕ} → edge s u ≡ true → Walk u v → Walk s v

  -- s reaches u with stops below k between them
  unfoldable pub via : ℕ → ℕ → ℕ → Bool
  via zero s u = s == u || edge s u
  via (suc k) s u = via k s u || (via k s k && via k k u)

-- a row with label a is taken: any row, or a hidden one only
unfoldable pub takes : Bool → ℕ → Bool
takes hidden a = not hidden || a == 0

-- one of the first m rows passes the test w and leads from s to u
unfoldable pub some_row : ℕ → List ℕ → List ℕ → (ℕ → Bool) → ℕ → ℕ → Bool
unfolding some
some_row m source target w s u = some m (λ i. (slice_index source i == s) && (slice_index target i == u && w i))

-- a row that is taken leads from s to u; `edge_step` says it in steps
unfoldable pub edge : Lts → Bool → ℕ → ℕ → Bool
unfolding some_row takes
edge t hidden = some_row t.m t.source t.target (λ i. takes hidden (slice_index t.label i))

-- a way along such rows, perhaps along none
abbrev pub Way : Lts → Bool → ℕ → ℕ → Type 0
Way t hidden s u = Walk (edge t hidden) s u

unfoldable pub reaches : Lts → Bool → ℕ → ℕ → Bool
unfolding via edge
reaches t hidden s u = via (edge t hidden) t.n s u

-- 1, 2, 3, 4, 7, 5 and 6, 8; the result and the work slice by their lengths
unfoldable pub reach_refusal : Lts → ℕ → ℕ → ℕ → Refusal
unfolding table_argument_refusal all_long
reach_refusal t s result work = table_argument_refusal t s t.n (nat_le t.n result && works_long t (work ∷ []))

-- 1 for each state that is reached and 0 for each other, over the first n cells; how many; and the work slice is zero
unfoldable pub reachable : Lts → Bool → ℕ → List ℕ → List ℕ → Said × (List ℕ × List ℕ)
unfolding leaving reach_refusal many reaches written
reachable t hidden s reached queue =
    leaving (reach_refusal t s (length reached) (length queue)) (reached, queue) (many t.n (reaches t hidden s) ∷ [])
    (written t.n (λ u. bit (reaches t hidden s u)) reached, cleared queue)
