-- What `(a..b).find(f).unwrap_or(d)` answers, where f answers p and changes nothing, and d is not below b: the least number of these that
-- passes, or d.
use Prim.Native.Nat.{ℕ, ◌≤◌, ◌<◌}
use native.Mathlib.Omega.{arith}
use mathlib.Core.Bool.{Bool, true, false}
use mathlib.Core.Path.{◌≡◌, ap, sym}
use denote.Param.Members.{Mut}
use denote.Ref.{Bor}
use Rattle.std.specs.declared.ops.Range.{Range}
use Rattle.std.specs.Iterator.{FindsItem}
use Rattle.std.specs.Fn.{CalledAt}
use Rattle.std.specs.Option.{MatchOption, unwrap_or}
use Rattle.std.specs.declared.option.Option.{Option}
use Rattle.std.specs.declared.option.Option.TheVariants.{None, Some}
use Rattle.std.proofs.iter.Yields.{nat_range_steps}
use Rattle.std.proofs.lemmas.Iterator.{first_from_Range}

pub record FoundFrom (a b d : ℕ) (p : ℕ → Bool) (r : ℕ) : Type 0 where
  pub most : r ≤ d
  pub before : (i : ℕ) → a ≤ i → i < b → i < r → p i ≡ false
  pub low : r < d → a ≤ r
  pub below : r < d → r < b
  pub hit : r < d → p r ≡ true

module _ (a b d : ℕ) (h : b ≤ d) (p : ℕ → Bool) where
  told : (r : Option ℕ) (s : Range ℕ) → s ≡ record { start = a; end = b }
      → MatchOption r ((i : ℕ) → s.start ≤ i → i < s.end → false ≡ p i)
      (λ i. (s.start ≤ i) × (i < s.end) × (true ≡ p i) × ((j : ℕ) → s.start ≤ j → j < i → false ≡ p j)) → FoundFrom a b d p (unwrap_or r d)
  told None s e m =
      let x : s.start ≡ a = ap (λ (t : Range ℕ). t.start) e in
      let z : s.end ≡ b = ap (λ (t : Range ℕ). t.end) e in
      record {
        most = omega arith;
        before = λ i k l w. sym (m i (omega arith) (omega arith));
        low = λ l. absurd (omega arith);
        below = λ l. absurd (omega arith);
        hit = λ l. absurd (omega arith);
      }
  told (Some i) s e m =
      let x : s.start ≡ a = ap (λ (t : Range ℕ). t.start) e in
      let z : s.end ≡ b = ap (λ (t : Range ℕ). t.end) e in
      record {
        most = omega (arith, m.1);
        before = λ j k l w. sym (m.3 j (omega arith) w);
        low = λ l. omega (arith, m.0);
        below = λ l. omega (arith, m.1);
        hit = λ l. sym m.2;
      }

  pub found_from : {F : Type 0} {g : Mut F (Bor ℕ × Unit {0}) Bool} {s : Range ℕ} {f : F} (u : Range ℕ) (r : Option ℕ)
      → s ≡ record { start = a; end = b } → FindsItem nat_range_steps g s f r u
      → ((x : ℕ) (t : Bool) (q : F) → CalledAt g f x t q → (q ≡ f) × (t ≡ p x)) → FoundFrom a b d p (unwrap_or r d)
  found_from {s = s} {f = f} u r e m k =
      told r s e (first_from_Range s u f r (λ x. true ≡ p x) (λ x. false ≡ p x) m (λ x q c. (k x true q c).1) (λ x q. k x false q))
