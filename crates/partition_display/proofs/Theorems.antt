-- What `display` has written where it says done, in document 01's words. p is the partition that is lent; `text` is what the bytes held,
-- `left` what they hold at return.
use mathlib.Core.Path.{◌≡◌, refl, ap, ◌∙◌}
use mathlib.Core.Bool.{true}
use mathlib.Core.List.{List, [], ◌∷◌}
use Prim.Native.Nat.{ℕ}
use lib.ListN.{length, take}
use Rattle.columns.specs.Answers.{done}
use Rattle.columns.specs.Columns.{over}
use Rattle.columns.proofs.Chains.{passed_both}
use Rattle.columns.proofs.Doing.{leaving_done}
use Rattle.columns.proofs.Lists.{take-over}
use Rattle.columns.specs.Due.{room_test}
use Rattle.partition.specs.Checks.{partition_tests}
use Rattle.partition.specs.Partition.{Partition, Sound}
use Rattle.partition.proofs.Refusals.{checked_of}
use Rattle.partition_display.specs.Display.{display_text, display_refusal, displayed}
-- No two numbers below 10,000 have the same digits.
pub use Rattle.partition_display.proofs.Digits.{decimal-reads}

pub record DisplayDone (p : Partition) (text values left : List ℕ) : Type 0 where
  pub sound : Sound p
  -- the answer is how many bytes the text has
  pub answer : values ≡ length (display_text p) ∷ []
  -- they are the first ones, and those behind stay
  pub written : take (length (display_text p)) left ≡ display_text p
  pub all : left ≡ over (display_text p) text

pub display_done :
    (p : Partition) (text values left : List ℕ) → (done values, left) ≡ displayed p text → DisplayDone p text values left
unfolding displayed display_refusal
display_done p text values left e =
    let r = display_refusal p (length text) in
    let k = leaving_done r text left (over (display_text p) text) values (length (display_text p) ∷ []) e in
    let h = passed_both (partition_tests p true) (room_test (length (display_text p)) (length text) ∷ []) refl r refl k.0 in
    record {
      sound = (checked_of p true h.0).sound;
      answer = k.1;
      written = ap (λ (l : List ℕ). take (length (display_text p)) l) k.2 ∙ take-over (display_text p) text;
      all = k.2;
    }
