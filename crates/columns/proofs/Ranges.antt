-- What the methods of a range answer, in the words of the definitions: `all`, `some` and `first` of the numbers below a bound.
use Prim.Native.Nat.{ℕ, zero, suc, ◌+◌, ◌≤◌, ◌<◌}
use native.Mathlib.Omega.{arith}
use mathlib.Core.Bool.{Bool, true, false, ◌&&◌, and_assoc}
use mathlib.Core.Path.{◌≡◌, refl, ap, sym, ◌∙◌}
use denote.Param.Members.{Mut}
use Rattle.std.specs.declared.ops.Range.{Range}
use Rattle.std.specs.Iterator.{ChecksAll, ChecksAny, FindsItem}
use Rattle.std.specs.Fn.{Called, CalledAt}
use Rattle.std.specs.Bool.{MatchBool}
use Rattle.std.specs.Option.{MatchOption, unwrap_or}
use Rattle.std.specs.declared.option.Option.{Option}
use Rattle.std.specs.declared.option.Option.TheVariants.{None, Some}
use Rattle.std.specs.List.{range_with_len, list_all, AllWithin, HoldsAt}
use Rattle.std.proofs.iter.Yields.{nat_range_steps}
use Rattle.std.proofs.lemmas.Iterator.{YieldsList-from_range, cases_from_any, first_from_Range}
use Rattle.std.proofs.lemmas.List.FromFn.{length-range_with_len, get_or-range_with_len}
use Rattle.std.proofs.lemmas.Iterator.Search.{all_from_yields_List}
use borrow.Author.Tests.{lt-ltb, le-ltb}
use lib.ListN.{length, get_or}
use denote.Ref.{Bor}
use Rattle.columns.specs.Counting.{all, some, first}
use Rattle.columns.proofs.Counting.{first-min}
use Rattle.columns.proofs.Firsts.{NoneBelow, first-none, first_hit}

-- the first number aside
all_first : (n : ℕ) (f : ℕ → Bool) → all (suc n) f ≡ (f 0 && all n (λ k. f (suc k)))
unfolding all
all_first zero f = grind arith
all_first (suc n) f = ap (λ b. b && f (suc n)) (all_first n f) ∙ and_assoc (f 0) (all n (λ k. f (suc k))) (f (suc n))

-- the same test, asked otherwise
same_all : (n : ℕ) (f g : ℕ → Bool) → ((k : ℕ) → f k ≡ g k) → all n f ≡ all n g
same_all n f g e = ap (all n) (λ i k. e k i)

-- the numbers from a on
all_from : (p : ℕ → Bool) (a n : ℕ) → list_all p (range_with_len a n) ≡ all n (λ k. p (a + k))
unfolding all
all_from p a zero = refl
all_from p a (suc n) =
    let at : p a ≡ p (a + 0) = ap p (omega arith) in
    let on : all n (λ k. p (a + 1 + k)) ≡ all n (λ k. p (a + suc k)) = same_all n _ _ (λ k. ap p (omega arith)) in
    ap (λ b. p a && b) (all_from p (a + 1) n ∙ on) ∙ ap (λ b. b && all n (λ k. p (a + suc k))) at ∙ sym (all_first n (λ k. p (a + k)))

list_all-range : (p : ℕ → Bool) (n : ℕ) → list_all p (range_with_len 0 n) ≡ all n p
list_all-range p n = all_from p 0 n ∙ same_all n _ _ (λ k. ap p (omega arith))

-- `(0..n).all(f)`, where f answers p and changes nothing
pub all_in_range : {F : Type 0} {g : Mut F (ℕ × Unit {0}) Bool} {s u : Range ℕ} {f : F} {r : Bool} (n : ℕ) (p : ℕ → Bool)
    → s ≡ record { start = 0; end = n } → ChecksAll nat_range_steps g s f r u
    → ((x : ℕ) (b : Bool) (q : F) → Called g f (x, tt) b q → (q ≡ f) × (b ≡ p x)) → r ≡ all n p
all_in_range {u = u} {f = f} {r = r} n p e d k =
    all_from_yields_List p u f r d (YieldsList-from_range 0 n n e (omega arith)) k ∙ list_all-range p n

module _ (n : ℕ) (p : ℕ → Bool) where
  some_told : (r : Bool) → MatchBool r ((i : ℕ) × (i < length (range_with_len 0 n)) × HoldsAt (λ x. true ≡ p x) (range_with_len 0 n) i)
      (AllWithin (λ x. false ≡ p x) (range_with_len 0 n) 0 (length (range_with_len 0 n))) → r ≡ some n p
  unfolding some
  some_told true h =
      let l : h.0 < n = omega (arith, h.1, length-range_with_len 0 n) in
      let q : get_or (range_with_len 0 n) h.0 0 ≡ h.0 = get_or-range_with_len 0 n h.0 0 l ∙ omega arith in
      let t : true ≡ p h.0 = h.2 0 ∙ ap p q in
      sym (lt-ltb (first n p) n (omega (arith, first-min n p h.0 (sym t))))
  some_told false h =
      let none : NoneBelow p n = λ i l.
      let q : get_or (range_with_len 0 n) i 0 ≡ i = get_or-range_with_len 0 n i 0 l ∙ omega arith in
      ap p (sym q) ∙ sym (h i 0 (omega arith) (omega (arith, length-range_with_len 0 n))) in
      sym (le-ltb (first n p) n (omega (arith, first-none n p none)))

  first_told : (r : Option ℕ) (s : Range ℕ) → s ≡ record { start = 0; end = n }
      → MatchOption r ((i : ℕ) → s.start ≤ i → i < s.end → false ≡ p i)
      (λ i. (s.start ≤ i) × (i < s.end) × (true ≡ p i) × ((j : ℕ) → s.start ≤ j → j < i → false ≡ p j)) → unwrap_or r n ≡ first n p
  first_told None s e h =
      let a : s.start ≡ 0 = ap (λ (t : Range ℕ). t.start) e in
      let z : s.end ≡ n = ap (λ (t : Range ℕ). t.end) e in
      first-none n p (λ i l. sym (h i (omega arith) (omega arith)))
  first_told (Some i) s e h =
      let a : s.start ≡ 0 = ap (λ (t : Range ℕ). t.start) e in
      let z : s.end ≡ n = ap (λ (t : Range ℕ). t.end) e in
      first_hit n p i (omega (arith, h.1)) (λ j l. sym (h.3 j (omega arith) l)) (sym h.2)

  -- `(0..n).any(f)`, where f answers p and changes nothing
  pub any_in_range : {F : Type 0} {g : Mut F (ℕ × Unit {0}) Bool} {s u : Range ℕ} {f : F} {r : Bool} → s ≡ record { start = 0; end = n }
      → ChecksAny nat_range_steps g s f r u → ((x : ℕ) (b : Bool) (q : F) → Called g f (x, tt) b q → (q ≡ f) × (b ≡ p x)) → r ≡ some n p
  any_in_range {u = u} {f = f} {r = r} e d k =
      some_told r (cases_from_any u f r (λ x. true ≡ p x) (λ x. false ≡ p x) d (YieldsList-from_range 0 n n e (omega arith))
      (λ x q c. (k x true q c).1) (λ x q. k x false q))

  -- `(0..n).find(f).unwrap_or(n)`
  pub found_in_range : {F : Type 0} {g : Mut F (Bor ℕ × Unit {0}) Bool} {s : Range ℕ} {f : F} (u : Range ℕ) (r : Option ℕ)
      → s ≡ record { start = 0; end = n } → FindsItem nat_range_steps g s f r u
      → ((x : ℕ) (b : Bool) (q : F) → CalledAt g f x b q → (q ≡ f) × (b ≡ p x)) → unwrap_or r n ≡ first n p
  found_in_range {s = s} {f = f} u r e d k =
      first_told r s e (first_from_Range s u f r (λ x. true ≡ p x) (λ x. false ≡ p x) d (λ x q c. (k x true q c).1) (λ x q. k x false q))
