-- Bytes stored one run behind the other, and how long the runs are.
use Rattle.std.specs.Prelude.{◌≡◌, ℕ, zero, suc, ◌+◌, ◌*◌, ◌/◌, ◌≤◌, List, [], ◌∷◌, ◌++◌, length, get_or, drop, set}
use native.Mathlib.Omega.{arith}
use mathlib.Core.Path.{refl, ap, sym, ◌∙◌}
use lib.Seq.{sets, sets-eq}
use Rattle.columns.specs.Columns.{laid, over}
use Rattle.columns.proofs.Laid.{laid_more, length_even}
use Rattle.file.specs.Bytes.{bytes_of, words}

-- ---- a run behind another
sets_both : (b : List ℕ) (i j : ℕ) (p q : List ℕ) → j ≡ i + length p → sets (sets b i p) j q ≡ sets b i (p ++ q)
sets_both b i j [] q e = let h : j ≡ i = omega arith in ap (λ (k : ℕ). sets b k q) h
sets_both b i j (x ∷ p) q e = sets_both (set b i x) (suc i) j p q (omega arith)

pub sets_then :
    (b x y : List ℕ) (i j : ℕ) (p q : List ℕ) → x ≡ sets b i p → y ≡ sets x j q → j ≡ i + length p → y ≡ sets b i (p ++ q)
sets_then b x y i j p q e f h = f ∙ ap (λ (l : List ℕ). sets l j q) e ∙ sets_both b i j p q h

-- a run from the start on
pub sets_over : (b p : List ℕ) → length p ≤ length b → sets b 0 p ≡ over p b
unfolding over
sets_over b p h = sets-eq p b 0 (omega arith) ∙ ap (λ (k : ℕ). p ++ drop k b) (back (length p))
  where
    back : (n : ℕ) → 0 + n ≡ n
    back n = omega arith

-- ---- how long the runs are
pub length-bytes : (w x : ℕ) → length (bytes_of w x) ≡ w
unfolding bytes_of
length-bytes zero x = refl
length-bytes (suc w) x = ap suc (length-bytes w (x / 256))

pub length-words : (l : List ℕ) → length (words l) ≡ 2 * length l
unfolding words
length-words l = length_even (λ i. bytes_of 2 (get_or l i 0)) 2 (length l) (λ i. length-bytes 2 (get_or l i 0))

-- ---- a loop that stores runs of the same length: i of them are stored
abbrev pub Stored : (ℕ → List ℕ) → ℕ → List ℕ → ℕ → List ℕ → Type 0
Stored h from b i x = x ≡ sets b from (laid h i)

pub stored_more :
    (h : ℕ → List ℕ) (from : ℕ) (b : List ℕ) (w i j : ℕ) (x y : List ℕ) → ((k : ℕ) → length (h k) ≡ w) → j ≡ from + w * i
    → y ≡ sets x j (h i) → Stored h from b i x → Stored h from b (i + 1) y
stored_more h from b w i j x y e q f p =
    sets_then b x y from j (laid h i) (h i) p f (omega (arith, q, length_even h w i e)) ∙ ap (sets b from) (sym (laid_more h i))
