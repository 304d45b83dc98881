-- The rows of a state: those that leave it are a stretch, those that lead to it are one in a list of rows by target, or come one after the
-- other.
use Rattle.std.specs.Prelude.{◌≡◌, ℕ, ◌+◌, ◌-◌, ◌<◌, ◌≤◌, ◌↔◌, List, length, nat_eq, nat_lt, slice_index}
use Rattle.columns.specs.Counting.{many, first}

-- `at i` is the number at place i, of m places: those of number s are from `first` to before `end`
pub record StretchOf (at : ℕ → ℕ) (m s first end : ℕ) : Type 0 where
  pub low : first ≤ end
  pub most : end ≤ m
  pub exactly : (i : ℕ) → i < m → (at i ≡ s) ↔ ((first ≤ i) × (i < end))

-- how many of the first m rows have a source below s: the rows of s are those from first_row s to before first_row (s + 1)
unfoldable pub first_row : List ℕ → ℕ → ℕ → ℕ
unfolding many
first_row source m s = many m (λ i. nat_lt (slice_index source i) s)

-- each cell of `starts` says where the rows of its state begin among the first m; there may be no cell
abbrev pub StartsOf : List ℕ → ℕ → List ℕ → Type 0
StartsOf source m starts = (s : ℕ) → s < length starts → slice_index starts s ≡ first_row source m s

-- where the row listed at k leads
abbrev pub listed_target : List ℕ → List ℕ → ℕ → ℕ
listed_target target order k = slice_index target (slice_index order k)

-- the first h cells of `order` name rows, by target
pub record ByTarget (target order : List ℕ) (h : ℕ) : Type 0 where
  pub room : h ≤ length order
  pub row : (k : ℕ) → k < h → slice_index order k < length target
  pub rising : (j k : ℕ) → j ≤ k → k < h → listed_target target order j ≤ listed_target target order k

-- how many of the first h listed rows have a target below u: those into u are listed from first_into u to before first_into (u + 1)
unfoldable pub first_into : List ℕ → List ℕ → ℕ → ℕ → ℕ
unfolding many
first_into target order h u = many h (λ k. nat_lt (listed_target target order k) u)

-- the least of the first m rows, at or after `from`, whose target is u; m if there is none
unfoldable pub next_incoming : List ℕ → ℕ → ℕ → ℕ → ℕ
unfolding first
next_incoming target m u from = from + first (m - from) (λ k. nat_eq (slice_index target (from + k)) u)
