-- A part of a slice.
use Rattle.std.specs.Prelude.{ℕ, ◌+◌, ◌-◌, ◌*◌, Bool, cond, ◌&&◌, List, [], ◌≡◌, leb, length, take, drop}
use Rattle.std.specs.Borrow.{Bor}

-- whether cells have a part from a place to another
unfoldable pub fits : {A : Type 0} → List A → ℕ → ℕ → Bool
fits cells start end = leb start end && leb end (length cells)

-- the cells of that part, none where there is no such part
unfoldable pub between : {A : Type 0} → List A → ℕ → ℕ → List A
unfolding fits
between cells start end = cond (fits cells start end) (take (end - start) (drop start cells)) []

-- where it begins: at the beginning where there is no such part
unfoldable pub beginning : {A : Type 0} → List A → ℕ → ℕ → ℕ
unfolding fits
beginning cells start end = cond (fits cells start end) start 0

-- r is the part of the slice x from a place to another, where a cell has `size` bytes
pub record Part {A : Type 0} (size : ℕ) (r x : Bor (List A)) (start end : ℕ) : Type 0 where
  pub cells : r.now ≡ between x.now start end
  pub begin : r.ref_ptr ≡ (x.ref_ptr.0, beginning x.now start end * size + x.ref_ptr.1)
