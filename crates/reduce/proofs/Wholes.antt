-- What is held of an input decides as the whole does.
use Prim.Native.Nat.{ℕ, zero, suc, ◌+◌, ◌≤◌, ◌<◌, min}
use native.Mathlib.Nat.{min-eq_left, min-eq_right}
use native.Mathlib.Omega.{arith}
use borrow.Author.Tests.{lt-leb, le-leb, leb-true}
use mathlib.Core.Bool.{Bool, true, false}
use mathlib.Core.List.{List}
use mathlib.Core.Path.{◌≡◌, refl, ap, sym, ◌∙◌}
use lib.ListN.{length, take}
use lib.Seq.{length-take-le}
use Rattle.columns.specs.Answers.{Said, refused}
use Rattle.columns.specs.Due.{due}
use Rattle.columns.specs.Limits.{max_rows}
use Rattle.columns.specs.Answers.{Refusal}
use Rattle.columns.proofs.Chains.{passed_both}
use Rattle.file.specs.Input.{header_in, file_tests, sized_tests, count_tests, long_refusal, held_refusal}
use Rattle.file.specs.Layout.{input_rows, largest_input, counted}
use Rattle.file.proofs.Held.{held_decides}
use Rattle.file.proofs.Inputs.{sized_end}
use Rattle.file.proofs.Theorems.{held_whole}
use Rattle.file_reduction.specs.Reducing.{reduce_file}
use Rattle.file_reduction.proofs.Done.{refused_file}
use Rattle.file_reduction.proofs.Ties.{largest, always_room}
use Rattle.reduce.specs.Held.{Heard, AsWhole, Enough}
use Rattle.reduce.specs.declared.input.Got.{Got}

-- ---- what was heard
module _ (whole held : List ℕ) (got : Got) (h : Heard whole held got) where
  -- the length as far as it was counted: there is a number up to which it was, at least as large as `counted`
  counted_to :
      (b : Bool) → got.ended ≡ b → (got.ended ≡ false → counted ≤ got.size)
      → (c : ℕ) × (counted ≤ c) × (min (length whole) c ≡ got.size)
  counted_to true e far = (
    counted + length whole,
    omega arith,
    min-eq_left {n = length whole} {m = counted + length whole} (omega arith) ∙ h.all e,
  )
  counted_to false e far = (got.size, far e, min-eq_right {n = got.size} {m = length whole} (h.more e))

  -- Where an input whose end was not reached is counted as far as it matters, what is held decides as the whole does.
  heard_decides : (got.ended ≡ false → counted ≤ got.size) → AsWhole whole held got.size
  heard_decides far =
      let w = counted_to got.ended refl far in
      let most : largest_input ≤ largest_input = omega arith in
      record {
        refused = λ columns.
            (λ i. held_refusal (h.front i) (sym w.2 i) columns) ∙ held_decides whole columns largest_input w.0 h.bytes most w.1;
        read = λ columns z. h.front ∙ held_whole whole columns largest_input z most;
      }

-- what the reader has read is enough
pub read_enough :
    (bytes : List ℕ) (used : ℕ) (got : Got) → used ≤ length bytes → (largest_input < got.size → input_rows ≤ used)
    → (got.ended ≡ false → counted ≤ got.size) → Enough (take used bytes) got
read_enough bytes used got fits header far =
    let held = take used bytes in
    let e = length-take-le used bytes fits in
    record { header = λ h. omega (arith, header h, e); decides = λ whole heard. heard_decides whole held got heard far }

-- ---- what is reduced
-- more bytes than the longest input has are always refused
pub long_refused : (front : List ℕ) (size : ℕ) → largest_input < size → (long_refusal front size).number ≡ 0 → ⊥
unfolding long_refusal
long_refused front size h z =
    let p = passed_both (sized_tests front size) (count_tests (header_in front)) refl _ refl z in
    omega (arith, h, sized_end front size p.0, leb-true (header_in front).m max_rows p.1.1.1.0)

module _ (whole held output : List ℕ) (size : ℕ) (agrees : AsWhole whole held size) where
  -- an input that is too long, of which only the front is held
  pub long_as_whole :
      largest_input < size → (r : Refusal) → r ≡ long_refusal held size → (s : Said) → s ≡ refused r.number r.place
      → (s, output) ≡ reduce_file whole output
  unfolding held_refusal
  long_as_whole h r e s q =
      refused_file whole output r
      (e ∙ rw (lt-leb size largest_input h) at (agrees.refused largest) ∙ always_room whole)
      (λ z. long_refused held size h (ap (λ (t : Refusal). t.number) (sym e) ∙ z)) s q

  -- one that is held whole, or refused as the whole is
  pub short_as_whole : size ≤ largest_input → reduce_file held output ≡ reduce_file whole output
  unfolding held_refusal
  short_as_whole h = go (due (file_tests whole true)).number refl
    where
      tests : due (file_tests held true) ≡ due (file_tests whole true)
      tests = sym (always_room held) ∙ rw (le-leb size largest_input h) at (agrees.refused largest) ∙ always_room whole

      go : (n : ℕ) → (due (file_tests whole true)).number ≡ n → reduce_file held output ≡ reduce_file whole output
      go zero z = ap (λ (l : List ℕ). reduce_file l output) (agrees.read largest (ap (λ (r : Refusal). r.number) (always_room whole) ∙ z))
      go (suc n) z =
          let r = due (file_tests whole true) in
          let s = refused r.number r.place in
          let not : r.number ≡ 0 → ⊥ = λ e. omega (arith, e, z) in
          sym (refused_file held output r (sym tests) not s refl) ∙ refused_file whole output r refl not s refl
