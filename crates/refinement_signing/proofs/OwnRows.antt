-- The rows of one state after the other: where they end, and the pairs that they give.
use mathlib.Core.Path.{◌≡◌, sym, ap, ap₂, ◌∙◌}
use mathlib.Core.Logic.{⊎_elim}
use mathlib.Core.Bool.{Bool, true, false}
use mathlib.Core.List.{List, [], ◌∷◌, ◌++◌, map}
use Prim.Native.Nat.{ℕ, zero, suc, ◌+◌, ◌-◌, ◌≤◌, ◌<◌, ◌*◌, ◌/◌}
use native.Mathlib.Numerals.{add-one}
use native.Mathlib.Omega.{arith}
use lib.ListN.{length, get_or, set, take}
use borrow.Rule.Slice.PartMut.{put_mid}
use Rattle.columns.specs.Columns.{listed, over, wiped, zeros, NeverFalls}
use Rattle.columns.specs.Counting.{members}
use Rattle.columns.specs.Rows.{pairs_of, first_of, last_of}
use Rattle.columns.specs.Sets.{Pair}
use Rattle.columns.proofs.All.{lt-or-le, not-below}
use Rattle.columns.proofs.Lists.{map-listed, wiped-zeros}
use Rattle.columns.proofs.Members.{members_hit, members-rest, members-none}
use Rattle.columns.proofs.Parts.{put_end}
use Rattle.columns.proofs.TwoColumns.{length_pairs, pairs_more, pairs-behind}
use Rattle.refinement_signing.specs.Stored.{row_pairs}
use Rattle.signatures.specs.Pairs.{Columns, signature, pairs_over}
use Rattle.signatures.proofs.Sigs.{sig_few}
use Rattle.signatures.specs.Strong.{own_rows, row_pair, strong_pushed}
use Rattle.table.specs.Lts.{Lts}
use Rattle.table.specs.Stretch.{first_row}
use Rattle.table.proofs.RowsOf.{own_row, RowsFrom, first_row_is, before_row, from_row}

-- ---- where the rows of s end: behind rows of s, at the first that is not one, or at m
module _ (source : List ℕ) (m : ℕ) (up : NeverFalls source m) (s first : ℕ) (e : first ≡ first_row source m s) where
  -- rows of s, and those before them
  past :
      (i : ℕ) → i ≤ m → ((k : ℕ) → first ≤ k → k < i → get_or source k 0 ≡ s) → (k : ℕ) → k < i → get_or source k 0 < s + 1
  past i h own k l =
      ⊎_elim
      (λ (w : k < first).
      ⊎_elim (λ (q : get_or source k 0 < s). omega (arith, q))
      (λ (q : s ≤ get_or source k 0). absurd (omega (arith, from_row source m up s k (omega arith) q)))
      (lt-or-le (get_or source k 0) s))
      (λ (w : first ≤ k). omega (arith, own k w l)) (lt-or-le k first)

  pub ends_at_m : ((k : ℕ) → first ≤ k → k < m → get_or source k 0 ≡ s) → m ≡ first_row source m (s + 1)
  ends_at_m own = first_row_is source m (s + 1) m (omega arith) (past m (omega arith) own) (λ k a b. absurd (omega arith))

  pub ends_before :
      (i : ℕ) → first ≤ i → i < m → (get_or source i 0 ≡ s → ⊥) → ((k : ℕ) → first ≤ k → k < i → get_or source k 0 ≡ s)
      → i ≡ first_row source m (s + 1)
  ends_before i a l q own =
      first_row_is source m (s + 1) i (omega arith) (past i (omega arith) own) (λ k x y. omega (arith, up i k x y, here))
    where
      here : s < get_or source i 0
      here =
          let w : s ≤ get_or source i 0 = not-below (λ z. omega (arith, before_row source m up s i l z, a, e)) in
          ⊎_elim (λ (z : s < get_or source i 0). z) (λ z. absurd (q (omega (arith, w, z)))) (lt-or-le s (get_or source i 0))

-- ---- one pair more of those that f gives, number by number
pub copy_more :
    (f : ℕ → Pair) (d : ℕ) (a b : List ℕ) → pairs_of d a b ≡ listed d f → d < length a → d < length b → (x y : ℕ) → f d ≡ (x, y)
    → pairs_of (d + 1) (set a d x) (set b d y) ≡ listed (d + 1) f
unfolding listed
copy_more f d a b p ha hb x y e =
    pairs_more d a b x y ha hb ∙ ap₂ (λ (l : List Pair) (q : Pair). l ++ (q ∷ [])) p (sym e) ∙ ap (λ (k : ℕ). listed k f) (sym (add-one d))

-- ---- the numbers of a stretch that passes
stretch-members :
    (f : ℕ → Bool) (first k : ℕ) → ((i : ℕ) → i < first → f i ≡ false) → ((i : ℕ) → first ≤ i → i < first + k → f i ≡ true)
    → members (first + k) f ≡ listed k (λ j. first + j)
unfolding listed
stretch-members f first zero before own = members-none f (first + 0) (λ i l. before i (omega (arith, l)))
stretch-members f first (suc k) before own =
    let e : first + suc k ≡ suc (first + k) = omega arith in
    ap (λ (n : ℕ). members n f) e
    ∙ ap (λ (n : ℕ). members n f) (sym (add-one (first + k)))
    ∙ members_hit f (first + k) (own (first + k) (omega arith) (omega arith))
    ∙ ap (λ (l : List ℕ). l ++ ((first + k) ∷ [])) (stretch-members f first k before (λ i a b. own i a (omega (arith, b))))

-- what the rows of a state give is what is pushed for it
pub own_pairs :
    (t : Lts) (home : List ℕ) (s first end : ℕ) → RowsFrom t s first end
    → row_pairs t.label t.target home first end ≡ strong_pushed t home s
unfolding row_pairs strong_pushed own_rows row_pair
own_pairs t home s first end r =
    let e : first + (end - first) ≡ end = omega (arith, r.up) in
    sym (map-listed (λ i. (get_or t.label i 0, get_or home (get_or t.target i 0) 0)) (end - first) (λ k. first + k))
    ∙ ap (map (λ i. (get_or t.label i 0, get_or home (get_or t.target i 0) 0)))
    (sym (stretch-members (own_row t s) first (end - first) r.before (λ i a b. r.own i a (omega (arith, b, e))))
    ∙ ap (λ (k : ℕ). members k (own_row t s)) e
    ∙ sym (members-rest (own_row t s) t.m end r.most r.after))

-- ---- a signature written behind the first d pairs
module _ (k r : ℕ) (w : List Pair) (a b : List ℕ) (e : pairs_of k a b ≡ w) (q : r ≡ length (signature (pairs_of k a b))) where
  pub sign_few : r ≤ k
  sign_few = omega (arith, q, sig_few (pairs_of k a b), length_pairs k a b)

  pub sign_behind :
      (d : ℕ) (labels blocks x y u v : List ℕ) → d ≤ length labels → d ≤ length blocks
      → ◌≡◌ {A = Columns} (x, y) (pairs_over (signature (pairs_of k a b)) (u, v))
      → pairs_of (d + r) (put_mid d (length labels - d) labels x) (put_mid d (length blocks - d) blocks y)
      ≡ pairs_of d labels blocks ++ signature w
  unfolding pairs_over
  sign_behind d labels blocks x y u v hl hb s =
      let g : List Pair = signature (pairs_of k a b) in
      ap (λ (l : List ℕ). pairs_of (d + r) l (put_mid d (length blocks - d) blocks y))
      (put_end d labels x hl ∙ ap (λ (l : List ℕ). take d labels ++ l) (λ i. (s i).0))
      ∙ ap (λ (l : List ℕ). pairs_of (d + r) (take d labels ++ over (first_of g) u) l)
      (put_end d blocks y hb ∙ ap (λ (l : List ℕ). take d blocks ++ l) (λ i. (s i).1))
      ∙ ap (λ (n : ℕ). pairs_of (d + n) (take d labels ++ over (first_of g) u) (take d blocks ++ over (last_of g) v)) q
      ∙ pairs-behind d g labels blocks u v hl hb
      ∙ ap (λ (z : List Pair). pairs_of d labels blocks ++ signature z) e

-- ---- a column that is zero, and of which the sort has used half as many cells as there are pairs
pub still_zero : (k : ℕ) (l x : List ℕ) → l ≡ zeros (length l) → k ≤ 2 * length l + 1 → x ≡ wiped (k / 2) l → x ≡ zeros (length l)
still_zero k l x z w e =
    e ∙ ap (wiped (k / 2)) z ∙ wiped-zeros (k / 2) (length l) (omega (arith, w))
