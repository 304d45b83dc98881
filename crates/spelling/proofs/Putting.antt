-- Texts put one behind the other.
use Prim.Native.Nat.{ℕ, ◌+◌, ◌-◌, ◌≤◌}
use native.Mathlib.Omega.{arith}
use mathlib.Core.List.{List, [], ◌++◌, append_assoc, append-nil}
use mathlib.Core.Path.{◌≡◌, refl, sym, ap, ◌∙◌}
use lib.ListN.{length, take, length-append, length-drop}
use borrow.Rule.Slice.PartMut.{put_mid}
use Rattle.std.proofs.lemmas.Slice.{take-put_mid, drop-put_mid}
use lib.Seq.{length-take-le}
use Rattle.columns.proofs.Parts.{drop_more}
use Rattle.spelling.specs.Counts.{IsPrefixLen}
use Rattle.spelling.specs.Texts.{Put}

-- nothing is put
pub put_none : (l : List ℕ) (at : ℕ) → at ≤ length l → Put l at [] l at
put_none l at h = record { bytes = sym (append-nil (take at l)); rest = refl; place = omega arith; room = h }

-- one text, and another behind it
pub put_then : {l m n s t : List ℕ} {i j k : ℕ} → Put l i s m j → Put m j t n k → Put l i (s ++ t) n k
put_then {l} {m} {n} {s} {t} {i} {j} {k} a b =
    record {
      bytes = b.bytes ∙ ap (◌++ t) a.bytes ∙ append_assoc (take i l) s t;
      rest = b.rest ∙ drop_more j k m l (omega arith) a.rest;
      place = omega (arith, length-append s t);
      room = b.room;
    }

-- the same text, written otherwise
pub put_as : {l m s t : List ℕ} {i j : ℕ} → Put l i s m j → s ≡ t → Put l i t m j
put_as p e = rw (← e) p

-- what was put from the first byte on
pub put_first_lem : {l m s : List ℕ} {j : ℕ} → Put l 0 s m j → IsPrefixLen j m × (take j m ≡ s)
put_first_lem {l} {m} {s} {j} p = ((p.room, sym (length-take-le j m p.room)), p.bytes)

-- s copied over the part of l from `at` on
pub put_part :
    (l s part : List ℕ) (at : ℕ) → at + length s ≤ length l → part ≡ s
    → Put l at s (put_mid at (at + length s - at) l part) (at + length s)
put_part l s part at h e =
    let n : length part ≡ length s = ap length e in
    let front : length (take at l) ≡ at = length-take-le at l (omega arith) in
    record {
      bytes = take-put_mid at (at + length s - at) l part (at + length s) (omega arith) (omega arith) ∙ ap (take at l ++◌) e;
      rest = drop-put_mid at (at + length s - at) l part (at + length s) (omega arith) (omega arith) (omega arith);
      place = refl;
      room = simp (length-append, length-drop) (omega arith);
    }
