-- `(from..to).find(f).unwrap_or(to)`, where nothing before `from` passes: the first of all numbers below `to` that does.
use Rattle.std.specs.Prelude.{◌≡◌, ℕ, ◌<◌, ◌≤◌, Bool, true, false}
use mathlib.Core.Logic.{⊎_elim}
use mathlib.Core.Path.{sym}
use denote.Param.Members.{Mut}
use denote.Ref.{Bor}
use Rattle.std.proofs.iter.Yields.{nat_range_steps}
use Rattle.std.proofs.lemmas.Iterator.{first_from_Range}
use Rattle.std.specs.Fn.{CalledAt}
use Rattle.std.specs.Iterator.{FindsItem}
use Rattle.std.specs.Option.{MatchOption, unwrap_or}
use Rattle.std.specs.declared.ops.Range.{Range}
use Rattle.std.specs.declared.option.Option.{Option}
use Rattle.std.specs.declared.option.Option.TheVariants.{None, Some}
use Rattle.columns.specs.Counting.{first}
use Rattle.columns.proofs.All.{lt-or-le}
use Rattle.columns.proofs.Firsts.{NoneBelow, first-none, first_hit}

module _ (from to : ℕ) (p : ℕ → Bool) (h : from ≤ to) (before : NoneBelow p from) where
  none_to : (j : ℕ) → ((k : ℕ) → from ≤ k → k < j → from ≤ k → false ≡ p k) → NoneBelow p j
  none_to j n k l = ⊎_elim (λ (a : k < from). before k a) (λ (a : from ≤ k). sym (n k a l a)) (lt-or-le k from)

  told : (r : Option ℕ)
      → MatchOption r ((k : ℕ) → from ≤ k → k < to → from ≤ k → false ≡ p k)
      (λ i. (from ≤ i) × (i < to) × (from ≤ i → true ≡ p i) × ((k : ℕ) → from ≤ k → k < i → from ≤ k → false ≡ p k))
      → unwrap_or r to ≡ first to p
  told None n = first-none to p (none_to to n)
  told (Some i) t = first_hit to p i t.1 (none_to i t.3) (sym (t.2 t.0))

  pub found_from : {F : Type 0} {g : Mut F (Bor ℕ × Unit {0}) Bool} {f : F} (u : Range ℕ) (r : Option ℕ)
      → FindsItem nat_range_steps g (record { start = from; end = to }) f r u
      → ((x : ℕ) (b : Bool) (q : F) → CalledAt g f x b q → (q ≡ f) × (from ≤ x → b ≡ p x)) → unwrap_or r to ≡ first to p
  found_from {f = f} u r d k =
      told r
      (first_from_Range (record { start = from; end = to }) u f r (λ x. from ≤ x → true ≡ p x) (λ x. from ≤ x → false ≡ p x) d
      (λ x q c. (k x true q c).1) (λ x q. k x false q))
