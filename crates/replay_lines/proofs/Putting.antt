-- Bytes put one after the other: one byte, with room in the buffer and without; a text after a text; and the texts of
-- numbers, which a loop puts one by one.
use Prim.Native.Nat.{ℕ, ◌+◌, ◌<◌, ◌≤◌}
use native.Mathlib.Numerals.{add-one}
use mathlib.Core.Bool.{cond}
use mathlib.Core.List.{List, [], ◌∷◌, ◌++◌, append_assoc, append-nil}
use mathlib.Core.Path.{◌≡◌, refl, ap, sym, ◌∙◌, ◌∙⁻¹◌}
use lib.ListN.{length, get_or, set, take}
use lib.Seq.{take-suc, take_all}
use borrow.Author.Tests.{lt-ltb, le-ltb}
use Rattle.replay_lines.specs.Text.{put_byte, puts}
use Rattle.replay_lines.specs.Spelling.{spelled, spelled_all}

pub put_room : (out : List ℕ) (used byte : ℕ) → used < 65536 → (used + 1, set out used byte) ≡ put_byte out used byte
unfolding put_byte
put_room out used byte h =
    sym (ap (λ b. cond b (used + 1, set out used byte) (1, set out 0 byte)) (lt-ltb used 65536 h))

pub put_full : (out : List ℕ) (used byte : ℕ) → 65536 ≤ used → (1, set out 0 byte) ≡ put_byte out used byte
unfolding put_byte
put_full out used byte h =
    sym (ap (λ b. cond b (used + 1, set out used byte) (1, set out 0 byte)) (le-ltb used 65536 h))

pub puts-append : (a b : List ℕ) (s : ℕ × List ℕ) → puts (a ++ b) s ≡ puts b (puts a s)
unfolding puts
puts-append [] b s = refl
puts-append (x ∷ a) b s = puts-append a b (put_byte s.1 s.0 x)

-- the same text, written otherwise
pub puts_as : (a b : List ℕ) (s : ℕ × List ℕ) {t : ℕ × List ℕ} → t ≡ puts a s → a ≡ b → t ≡ puts b s
puts_as a b s f e = f ∙ ap (λ l. puts l s) e

-- a text after a text
pub puts_then : (a b : List ℕ) (s : ℕ × List ℕ) {t u : ℕ × List ℕ} → t ≡ puts a s → u ≡ puts b t → u ≡ puts (a ++ b) s
puts_then a b s f g = g ∙ (ap (puts b) f ∙⁻¹ puts-append a b s)

-- a byte and then a text
pub put_then : (x : ℕ) (b : List ℕ) (s : ℕ × List ℕ) {t u : ℕ × List ℕ} → t ≡ put_byte s.1 s.0 x → u ≡ puts b t → u ≡ puts (x ∷ b) s
unfolding puts
put_then x b s f g = g ∙ ap (puts b) f

-- nothing is put
pub puts_none : {s : ℕ × List ℕ} → s ≡ puts [] s
unfolding puts
puts_none = refl

-- the loop over the bytes of a word
pub word_turn : (l : List ℕ) (i : ℕ) (s : ℕ × List ℕ) {t u : ℕ × List ℕ}
    → t ≡ puts (take i l) s → u ≡ put_byte t.1 t.0 (get_or l i 0) → i < length l → u ≡ puts (take (i + 1) l) s
word_turn l i s {t} f g h =
    rw (add-one, take-suc l i 0) (puts_then (take i l) (get_or l i 0 ∷ []) s f (put_then (get_or l i 0) [] t g puts_none))

pub word_end : (l : List ℕ) (i : ℕ) (s : ℕ × List ℕ) {t : ℕ × List ℕ} → t ≡ puts (take i l) s → length l ≤ i → t ≡ puts l s
word_end l i s f h = f ∙ ap (λ w. puts w s) (take_all i l h)

listed_snoc : (l : List ℕ) (x : ℕ) → spelled_all (l ++ (x ∷ [])) ≡ spelled_all l ++ spelled x
unfolding spelled_all
listed_snoc [] x = append-nil (spelled x)
listed_snoc (y ∷ l) x = ap (spelled y ++◌) (listed_snoc l x) ∙⁻¹ append_assoc (spelled y) (spelled_all l) (spelled x)

-- the loop over the numbers of a list
pub listed-none : {s : ℕ × List ℕ} → s ≡ puts (spelled_all []) s
unfolding spelled_all puts
listed-none = refl

pub listed_turn : (l : List ℕ) (i : ℕ) (s : ℕ × List ℕ) {t u : ℕ × List ℕ}
    → t ≡ puts (spelled_all (take i l)) s → u ≡ puts (spelled (get_or l i 0)) t → i < length l → u ≡ puts (spelled_all (take (i + 1) l)) s
listed_turn l i s f g h =
    rw (add-one, take-suc l i 0, listed_snoc) (puts_then (spelled_all (take i l)) (spelled (get_or l i 0)) s f g)

pub listed_end : (l : List ℕ) (i : ℕ) (s : ℕ × List ℕ) {t : ℕ × List ℕ}
    → t ≡ puts (spelled_all (take i l)) s → length l ≤ i → t ≡ puts (spelled_all l) s
listed_end l i s f h = f ∙ ap (λ w. puts (spelled_all w) s) (take_all i l h)
