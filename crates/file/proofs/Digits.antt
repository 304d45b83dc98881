-- Laws of numbers in bytes: reading from the highest byte down, writing from the lowest up, and how large and how long they are.
use Rattle.std.specs.Prelude.{◌≡◌, ℕ, suc, ◌+◌, ◌-◌, ◌*◌, ◌/◌, ◌%◌, ◌^◌, ◌<◌, ◌≤◌, List, [], ◌∷◌, ◌++◌, length, get_or, set, take, drop}
use native.Mathlib.Nat.{pow-zero, pow-succ', pow-le-pow_right}
use native.Mathlib.Omega.{arith}
use mathlib.Core.Path.{ap, sym, ◌∙◌}
use mathlib.Core.List.{append-nil, append_assoc}
use borrow.Rule.Slice.PartMut.{put_mid}
use lib.Seq.{sets, sets-eq, take_all}
use Rattle.std.proofs.lemmas.List.{drop-drop, take_more_set}
use Rattle.file.proofs.Stores.{length-bytes}
use Rattle.file.specs.Bytes.{little, bytes_of}

-- ---- reading: the bytes from i on are read
abbrev pub Read : List ℕ → ℕ → ℕ → ℕ → ℕ → Type 0
Read s at width i x = (at ≤ i) × (i ≤ at + width) × (x ≡ little (at + width - i) s i) × (x < 256 ^ (at + width - i))

module _ (s : List ℕ) (at width : ℕ) where
  pub read_none : Read s at width (at + width) 0
  unfolding little
  read_none =
      let e : 0 ≡ at + width - (at + width) = omega arith in
      let one : 256 ^ 0 ≡ 256 ^ (at + width - (at + width)) = ap (λ (k : ℕ). 256 ^ k) e in
      (omega arith, omega arith, ap (λ (k : ℕ). little k s (at + width)) e, omega (arith, one, pow-zero 256))

  pub read_more :
      (i j x : ℕ) → Read s at width i x → at < i → j ≡ i - 1 → get_or s j 0 < 256 → Read s at width j (get_or s j 0 + 256 * x)
  unfolding little
  read_more i j x p h e small =
      let next : i ≡ j + 1 = omega arith in
      let longer : suc (at + width - i) ≡ at + width - j = omega (arith, p.1) in
      let larger : 256 ^ (at + width - j) ≡ 256 * 256 ^ (at + width - i)
      = ap (λ (k : ℕ). 256 ^ k) (sym longer) ∙ pow-succ' 256 (at + width - i) in (
        omega arith,
        omega (arith, p.1),
        ap (λ (y : ℕ). get_or s j 0 + 256 * y) (p.2 ∙ ap (little (at + width - i) s) next) ∙ ap (λ (k : ℕ). little k s j) longer,
        omega (arith, p.3, small, larger),
      )

  -- of four bytes: with one to come, what is read fits in three
  pub read_few : (i x : ℕ) → Read s at width i x → at < i → width ≤ 4 → x < 16777216
  read_few i x p h w =
      let most : 256 ^ (at + width - i) ≤ 16777216 = pow-le-pow_right {n = 256} (omega arith) {i = at + width - i} {j = 3} (omega arith) in
      omega (arith, p.3, most)

-- ---- writing: the first i bytes are written, and what is left of x makes up the others
abbrev pub Put : ℕ → ℕ → ℕ → ℕ → List ℕ → Type 0
Put width x i rest now = take i now ++ bytes_of (width - i) rest ≡ bytes_of width x

module _ (width x : ℕ) (now : List ℕ) where
  pub put_none : Put width x 0 x now
  put_none = let e : width - 0 ≡ width = omega arith in ap (λ (k : ℕ). bytes_of k x) e

  pub put_more :
      (i rest : ℕ) → i < width → i < length now → Put width x i rest now → Put width x (i + 1) (rest / 256) (set now i (rest % 256))
  unfolding bytes_of
  put_more i rest h l p =
      let left : width - i ≡ suc (width - (i + 1)) = omega arith in
      ap (λ (t : List ℕ). t ++ bytes_of (width - (i + 1)) (rest / 256)) (take_more_set now i (rest % 256) l)
      ∙ append_assoc (take i now) (rest % 256 ∷ []) (bytes_of (width - (i + 1)) (rest / 256))
      ∙ sym (ap (λ (k : ℕ). take i now ++ bytes_of k rest) left) ∙ p

  -- all of them, in the place that they have in b
  pub put_done :
      (i rest : ℕ) (b : List ℕ) (at k : ℕ) → length now ≡ width → i ≡ width → k ≡ width → at + width ≤ length b → Put width x i rest now
      → put_mid at k b now ≡ sets b at (bytes_of width x)
  unfolding bytes_of
  put_done i rest b at k l e f h p =
      let none : width - i ≡ 0 = omega arith in
      let all : now ≡ bytes_of width x
      = sym (append-nil now) ∙ ap (λ (t : List ℕ). t ++ []) (sym (take_all i now (omega arith)))
      ∙ sym (ap (λ (j : ℕ). take i now ++ bytes_of j rest) none) ∙ p in
      let most : length (bytes_of width x) ≡ width = length-bytes width x in
      rw (all, f)
      (ap (λ (t : List ℕ). take at b ++ (bytes_of width x ++ t)) (drop-drop width at b)
      ∙ ap (λ (j : ℕ). take at b ++ (bytes_of width x ++ drop (at + j) b)) (sym most)
      ∙ sym (append_assoc (take at b) (bytes_of width x) (drop (at + length (bytes_of width x)) b))
      ∙ sym (sets-eq (bytes_of width x) b at (omega arith)))
