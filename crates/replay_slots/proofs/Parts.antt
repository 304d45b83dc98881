-- Laws of a part of a slice: where there is one, where there is none, and where both places are the beginning.
use Prim.Native.Nat.{ℕ, ◌+◌, ◌-◌, ◌*◌, ◌≤◌, ◌<◌}
use mathlib.Core.Bool.{true, false, and-false}
use mathlib.Core.List.{List, []}
use mathlib.Core.Path.{◌≡◌}
use borrow.Author.Tests.{le-leb, lt-leb}
use lib.Dec.{leb}
use lib.ListN.{length, take, drop}
use denote.Ref.{Bor}
use Rattle.replay_slots.specs.Parts.{fits, between, beginning, Part}

module _ {A : Type 0} (cells : List A) (start end : ℕ) where
  -- there is no part that ends before it starts, or beyond the last cell
  pub fits_turned : end < start → fits cells start end ≡ false
  unfolding fits
  fits_turned h = rw (lt-leb start end h)

  pub fits_beyond : length cells < end → fits cells start end ≡ false
  unfolding fits
  fits_beyond h = rw (lt-leb end (length cells) h) (and-false (leb start end))

module _ {A : Type 0} {size : ℕ} {r x : Bor (List A)} where
  -- places that are equal to those that are meant
  pub part_of : {a b start end : ℕ} → a ≡ start → b ≡ end → Part size r x a b → Part size r x start end
  part_of e f p = rw (e, f) at p

  module _ (start end : ℕ) where
    pub part_there :
        start ≤ end
        → end ≤ length x.now
        → r.now ≡ take (end - start) (drop start x.now)
        → r.ref_ptr ≡ (x.ref_ptr.0, start * size + x.ref_ptr.1)
        → Part size r x start end
    unfolding fits between beginning
    part_there h k e p =
        let f : fits x.now start end ≡ true = rw (le-leb start end h, le-leb end (length x.now) k) in
        record { cells = rw f e; begin = rw f p }

    pub part_missing :
        fits x.now start end ≡ false → r.now ≡ [] → r.ref_ptr ≡ (x.ref_ptr.0, 0 * size + x.ref_ptr.1) → Part size r x start end
    unfolding between beginning
    part_missing n e p = record { cells = rw n e; begin = rw n p }
