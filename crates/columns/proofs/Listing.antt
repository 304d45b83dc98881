-- Numbers put into a column, one behind the other, as it stands between two turns.
use Prim.Native.Nat.{ℕ, ◌+◌, ◌≤◌, ◌<◌}
use native.Mathlib.Numerals.{add-one}
use native.Mathlib.Omega.{arith}
use mathlib.Core.Path.{◌≡◌, refl, ap, sym, ◌∙◌}
use mathlib.Core.Bool.{Bool, true, false}
use mathlib.Core.List.{List, [], ◌∷◌, ◌++◌, append-nil, append_assoc}
use lib.ListN.{length, length-set, get_or, set, take}
use lib.Seq.{take-suc-set, get_or-set_other}
use Rattle.columns.specs.Counting.{many, members}
use Rattle.columns.proofs.Counting.{bit_true, many-suc, many_nothing}
use Rattle.columns.proofs.Members.{members_hit, members-rest, members-none, length-members}

-- of the numbers from `first` to before `end`, those below i are seen, and those that pass stand behind the first h cells: k cells in all
pub record Listing (f : ℕ → Bool) (first end h : ℕ) (l₀ : List ℕ) (i k : ℕ) (l : List ℕ) : Type 0 where
  pub low : first ≤ i
  pub high : i ≤ end
  pub exact : k ≡ h + many i f
  pub cells : take k l ≡ take h l₀ ++ members i f
  pub size : length l ≡ length l₀
  pub rest : (j : ℕ) → k ≤ j → get_or l j 0 ≡ get_or l₀ j 0

module _ (f : ℕ → Bool) (first end h : ℕ) (l₀ : List ℕ) where
  pub list_start : first ≤ end → ((j : ℕ) → j < first → f j ≡ false) → Listing f first end h l₀ first h l₀
  list_start w n = record {
    low = omega arith;
    high = w;
    exact = omega (arith, many_nothing first f n);
    cells = sym (append-nil (take h l₀)) ∙ ap (λ (l : List ℕ). take h l₀ ++ l) (sym (members-none f first n));
    size = refl;
    rest = λ j w. refl;
  }

  module _ (i k : ℕ) (l : List ℕ) (p : Listing f first end h l₀ i k l) where
    module _ (w : i < end) where
      pub list_more : f i ≡ true → k < length l → Listing f first end h l₀ (i + 1) (k + 1) (set l k i)
      list_more t q = record {
        low = omega (arith, p.low);
        high = omega arith;
        exact = omega (arith, p.exact, many-suc i f, bit_true (f i) t);
        cells =
            ap (λ (j : ℕ). take j (set l k i)) (add-one k) ∙ take-suc-set l k i q ∙ ap (λ (a : List ℕ). a ++ (i ∷ [])) p.cells
            ∙ append_assoc (take h l₀) (members i f) (i ∷ [])
            ∙ ap (λ (a : List ℕ). take h l₀ ++ a) (sym (members_hit f i t));
        size = length-set l k i ∙ p.size;
        rest = λ j g. get_or-set_other l k j i 0 (λ e. omega (arith, g, e)) ∙ p.rest j (omega (arith, g));
      }

    -- several that do not pass
    pub list_skip : (r : ℕ) → i ≤ r → r ≤ end → ((j : ℕ) → i ≤ j → j < r → f j ≡ false) → Listing f first end h l₀ r k l
    list_skip r a w n =
        let e : members r f ≡ members i f = members-rest f r i a n in
        record {
          low = omega (arith, p.low);
          high = w;
          exact = omega (arith, p.exact, ap length e, length-members f r, length-members f i);
          cells = p.cells ∙ ap (λ (a : List ℕ). take h l₀ ++ a) (sym e);
          size = p.size;
          rest = p.rest;
        }

    pub list_done :
        (m : ℕ) → end ≤ i → end ≤ m → ((j : ℕ) → end ≤ j → j < m → f j ≡ false)
        → (take k l ≡ take h l₀ ++ members m f) × (k ≡ h + length (members m f))
    list_done m g w n =
        let e : members m f ≡ members i f = members-rest f m i (omega (arith, p.high, w)) (λ j u v. n j (omega (arith, g, u)) v) in
        (p.cells ∙ ap (λ (a : List ℕ). take h l₀ ++ a) (sym e), omega (arith, p.exact, ap length e, length-members f i))
