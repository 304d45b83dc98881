-- Laws of writing: nothing, one text behind another, and a text that fits.
use Prim.Native.Nat.{ℕ, suc, ◌+◌, ◌*◌, ◌≤◌}
use native.Mathlib.Numerals.{add-one}
use native.Mathlib.Omega.{arith}
use mathlib.Core.Path.{◌≡◌, refl, ap, ◌∙◌}
use mathlib.Core.List.{List, [], ◌∷◌, ◌++◌}
use lib.ListN.{length, set, drop, length-append}
use lib.Seq.{sets, sets-eq}
use Rattle.columns.specs.Columns.{over}
use Rattle.partition_display.specs.Display.{separator, separated}
use Rattle.partition_display.specs.Writing.{Wrote}

sets_append : (s t l : List ℕ) (i : ℕ) → sets (sets l i s) (i + length s) t ≡ sets l i (s ++ t)
sets_append [] t l i = let e : i + 0 ≡ i = omega arith in ap (λ (k : ℕ). sets l k t) e
sets_append (a ∷ s) t l i =
    let e : i + suc (length s) ≡ suc i + length s = omega arith in
    ap (λ (k : ℕ). sets (sets (set l i a) (suc i) s) k t) e ∙ sets_append s t (set l i a) (suc i)

pub wrote_none : (l : List ℕ) (i : ℕ) → Wrote l i [] l i
wrote_none l i = record { text = refl; place = omega arith }

-- one text, and another behind it
pub wrote_then : {l m n s t : List ℕ} {i j k : ℕ} → Wrote l i s m j → Wrote m j t n k → Wrote l i (s ++ t) n k
wrote_then {l} {m} {n} {s} {t} {i} {j} {k} a b =
    record {
      text = b.text ∙ ap (λ (x : List ℕ). sets x j t) a.text ∙ ap (λ (x : ℕ). sets (sets l i s) x t) a.place ∙ sets_append s t l i;
      place = omega (arith, length-append s t);
    }

-- from the first byte on; and with room for all
pub wrote_size : {l m s : List ℕ} {j : ℕ} → Wrote l 0 s m j → j ≡ length s
wrote_size w = omega (arith, w.place)

pub wrote_over : {l m s : List ℕ} {j : ℕ} → Wrote l 0 s m j → length s ≤ length l → m ≡ over s l
unfolding over
wrote_over {l} {m} {s} {j} w h =
    let e : 0 + length s ≡ length s = omega arith in
    w.text ∙ sets-eq s l 0 (rw e h) ∙ ap (λ (k : ℕ). s ++ drop k l) e

-- ---- the loop that writes the texts f 0, f 1, .. with their separators
module _ (f : ℕ → List ℕ) where
  -- its invariant: k texts are written, each with its separator at most `most` bytes
  abbrev pub Joining : ℕ → List ℕ → ℕ → List ℕ → ℕ → ℕ → Type 0
  Joining most l i m j k = record { short : j ≤ i + most * k; so_far : Wrote l i (separated k f) m j }

  pub separated-none : (l : List ℕ) (i : ℕ) → Wrote l i (separated 0 f) l i
  unfolding separated
  separated-none l i = wrote_none l i

  pub separated_more :
      (k : ℕ) {l m m' m'' : List ℕ} {i j j' j'' : ℕ} → Wrote l i (separated k f) m j → Wrote m j (separator k) m' j' →
      Wrote m' j' (f k) m'' j''
      → Wrote l i (separated (k + 1) f) m'' j''
  unfolding separated
  separated_more k a s b = rw add-one (wrote_then (wrote_then a s) b)

  -- with a text before them, and one behind
  pub separated_done :
      (k n : ℕ) {l m m' m'' s t : List ℕ} {i j j' j'' : ℕ} → Wrote l i s m j → Wrote m j (separated k f) m' j'
      → Wrote m' j' t m'' j'' → k ≡ n → Wrote l i (s ++ separated n f ++ t) m'' j''
  separated_done k n a w b e = rw (← e) (wrote_then (wrote_then a w) b)
