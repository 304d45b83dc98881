-- `first_zero` meets its contract.
use Rattle.std.proofs.Common.{inl, inr, ◌≡◌, ℕ, ◌≤◌, Bool, not, cond, Option, Some, None, List, length, get_or, take, ltb, eqb, unwrap_or, sym, ap, ◌∙◌, arith, rules}
use Rattle.std.specs.List.{position_or_len}
use Rattle.std.proofs.lemmas.Bool.{cases_lt}
use Rattle.std.proofs.lemmas.List.{get_or-take, length-take-le}
use Rattle.std.proofs.lemmas.List.Sums.{prefix_len-le-length, fails_before_first, passes_at_first}
use Rattle.std.proofs.lemmas.Iterator.{YieldsList-from_slice}
use Rattle.std.proofs.lemmas.Iterator.Search.{position_from_yields_List}
use borrow.Author.Tests.{lt-ltb, le-ltb}
use Rattle.columns.specs.Counting.{first}
use Rattle.columns.proofs.Firsts.{first-is}
use Rattle.partition_division.proofs.checks.first_zero.Goals as goal

module _ (p : ℕ → Bool) (n : ℕ) (a : List ℕ) (h : n ≤ length a) where
  abbrev at : ℕ
  at = position_or_len p (take n a)

  abbrev found : Option ℕ
  found = cond (ltb at (length (take n a))) (Some at) None

  long : length (take n a) ≡ n
  long = length-take-le n a h

  inside : at ≤ n
  inside = omega (arith, long, prefix_len-le-length (λ x. not (p x)) (take n a))

  is_first : at ≡ first n (λ k. p (get_or a k 0))
  is_first =
      first-is n (λ k. p (get_or a k 0)) at inside
      (λ k w. ap p (sym (get_or-take n a k 0 (omega (arith, w, inside)))) ∙ fails_before_first p (take n a) k 0 w)
      (λ w. ap p (sym (get_or-take n a at 0 w)) ∙ passes_at_first p (take n a) 0 (omega (arith, w, long)))

  first_found : unwrap_or found n ≡ first n (λ k. p (get_or a k 0))
  first_found = elim (cases_lt at n) [
    | inl w ↦ rw (lt-ltb at (length (take n a)) (omega (arith, w, long))) is_first
    | inr w ↦ rw (le-ltb at (length (take n a)) (omega (arith, w, long))) (let e : n ≡ at = omega (arith, w, inside) in e ∙ is_first)
  ]

pub returns : goal.returns
returns c =
    let n = c.args.n in
    let a = c.args.a.now in
    let e = position_from_yields_List (λ x. eqb x 0) _ _ _ c.position.ensures.ran (YieldsList-from_slice (take n a) cc) (λ x b q k. search rules) in
    c.unwrap_or.ensures ∙ ap (λ (r : Option ℕ). unwrap_or r n) e ∙ first_found (λ x. eqb x 0) n a c.requires
