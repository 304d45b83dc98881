-- Numbers as bytes, the lowest first. A file is a list of bytes.
use Rattle.std.specs.Prelude.{ℕ, zero, suc, ◌+◌, ◌*◌, ◌/◌, ◌%◌, List, [], ◌∷◌, length, slice_index}
use Rattle.columns.specs.Columns.{laid}

-- the number in `width` bytes from `at` on
unfoldable pub little : ℕ → List ℕ → ℕ → ℕ
little zero s at = 0
little (suc width) s at = slice_index s at + 256 * little width s (at + 1)

-- the lowest `width` bytes of a number
unfoldable pub bytes_of : ℕ → ℕ → List ℕ
bytes_of zero x = []
bytes_of (suc width) x = x % 256 ∷ bytes_of width (x / 256)

-- numbers of two bytes each, one after the other
unfoldable pub words : List ℕ → List ℕ
unfolding laid bytes_of
words l = laid (λ i. bytes_of 2 (slice_index l i)) (length l)
