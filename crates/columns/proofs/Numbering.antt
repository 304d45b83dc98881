-- Laws of the numbering by least member.
use mathlib.Core.Path.{◌≡◌, sym, ap, ◌∙◌, subst}
use mathlib.Core.Logic.{◌⊎◌, inl, inr}
use mathlib.Core.Bool.{Bool, true}
use Prim.Native.Nat.{ℕ, ◌≤◌, ◌<◌}
use native.Mathlib.Nat.{eq-or-lt_of_le, le_antisymm}
use native.Mathlib.Omega.{arith}
use Rattle.columns.specs.Counting.{first, many}
use Rattle.columns.specs.Number.{least, leads, number}
use borrow.Author.Tests.{eqb-true, eq-eqb}
use Rattle.columns.proofs.All.{not-below}
use Rattle.columns.proofs.Counting.{first_law, first-min, first_cong, many_cong, many_strict, many_onto, many_mono, many_full}

-- a test that is an equivalence
pub record Equivalence (eq : ℕ → ℕ → Bool) : Type 0 where
  pub reflexive : (s : ℕ) → eq s s ≡ true
  pub symmetric : (s t : ℕ) → eq s t ≡ true → eq t s ≡ true
  pub transitive : (s t u : ℕ) → eq s t ≡ true → eq t u ≡ true → eq s u ≡ true

module _ (eq : ℕ → ℕ → Bool) (q : Equivalence eq) where
  pub least_le : (s : ℕ) → least eq s ≤ s
  unfolding least
  least_le s = (first_law s (λ t. eq t s)).bound

  pub least_eq : (s : ℕ) → eq (least eq s) s ≡ true
  unfolding least
  least_eq s = go (eq-or-lt_of_le (first_law s (λ t. eq t s)).bound)
    where
      go : (first s (λ t. eq t s) ≡ s) ⊎ (first s (λ t. eq t s) < s) → eq (first s (λ t. eq t s)) s ≡ true
      go (inl e) = subst (λ x. eq x s ≡ true) (sym e) (q.reflexive s)
      go (inr l) = (first_law s (λ t. eq t s)).hit l

  pub least_min : (s t : ℕ) → eq t s ≡ true → least eq s ≤ t
  unfolding least
  least_min s t h = first-min s (λ t. eq t s) t h

  pub least_same : (s t : ℕ) → eq s t ≡ true → least eq s ≡ least eq t
  least_same s t h = le_antisymm
      (least_min s (least eq t) (q.transitive _ t _ (least_eq t) (q.symmetric _ _ h)))
      (least_min t (least eq s) (q.transitive _ s _ (least_eq s) h))

  pub least_differ : (s t : ℕ) → least eq s ≡ least eq t → eq s t ≡ true
  least_differ s t e = q.transitive s (least eq t) t (rw e at (q.symmetric _ _ (least_eq s))) (least_eq t)

  pub least_leads : (s : ℕ) → leads eq (least eq s) ≡ true
  unfolding leads
  least_leads s = eq-eqb _ _ (least_same (least eq s) s (least_eq s))

  pub leads_least : (s : ℕ) → leads eq s ≡ true → least eq s ≡ s
  unfolding leads
  leads_least s h = eqb-true _ _ h

  -- one number for a block, and two for two
  pub number_same : (s t : ℕ) → eq s t ≡ true → number eq s ≡ number eq t
  unfolding number
  number_same s t h = ap (λ (x : ℕ). many x (leads eq)) (least_same s t h)

  pub number_differ : (s t : ℕ) → number eq s ≡ number eq t → eq s t ≡ true
  unfolding number
  number_differ s t e = least_differ s t (le_antisymm
      (not-below (λ l. omega (arith, many_strict (least eq t) (least eq s) (leads eq) l (least_leads t))))
      (not-below (λ l. omega (arith, many_strict (least eq s) (least eq t) (leads eq) l (least_leads s)))))

  -- the numbers are those below the number of blocks
  pub number_bound : (n s : ℕ) → s < n → number eq s < many n (leads eq)
  unfolding number
  number_bound n s h = many_strict (least eq s) n (leads eq) (omega (arith, least_le s)) (least_leads s)

  pub number_onto : (n b : ℕ) → b < many n (leads eq) → (s : ℕ) × (s < n) × (number eq s ≡ b)
  unfolding number
  number_onto n b h =
      let t = many_onto n (leads eq) b h in
      (t.at, t.below, rw (leads_least t.at t.passes) t.rank)

-- the numbers below n depend on the test below n alone
module _ (n : ℕ) (e f : ℕ → ℕ → Bool) (agree : (s t : ℕ) → s < n → t < n → e s t ≡ f s t) where
  pub least_cong : (s : ℕ) → s < n → least e s ≡ least f s
  unfolding least
  least_cong s h = first_cong s (λ t. e t s) (λ t. f t s) (λ k l. agree k s (omega arith) h)

  pub leads_cong : (s : ℕ) → s < n → leads e s ≡ leads f s
  unfolding leads
  leads_cong s h = rw (least_cong s h)

  pub number_cong : (s : ℕ) → s < n → number e s ≡ number f s
  unfolding number least
  number_cong s h =
      let b : first s (λ t. e t s) ≤ s = (first_law s (λ t. e t s)).bound in
      many_cong (least e s) (leads e) (leads f) (λ k l. leads_cong k (omega arith)) ∙ ap (λ (x : ℕ). many x (leads f)) (least_cong s h)

-- a finer test has at least as many blocks, and with no more it is the same test
module _ (n : ℕ) (e f : ℕ → ℕ → Bool) (qe : Equivalence e) (qf : Equivalence f)
    (finer : (s t : ℕ) → s < n → t < n → f s t ≡ true → e s t ≡ true) where
  leads_finer : (s : ℕ) → s < n → leads e s ≡ true → leads f s ≡ true
  unfolding leads
  leads_finer s h l =
      let a : least f s ≤ s = least_le f qf s in
      let b : least e s ≡ s = leads_least e qe s l in
      eq-eqb _ _ (le_antisymm a (omega (arith, least_min e qe s (least f s) (finer (least f s) s (omega arith) h (least_eq f qf s)))))

  pub blocks_grow : many n (leads e) ≤ many n (leads f)
  blocks_grow = many_mono n (leads e) (leads f) leads_finer

  pub blocks-same : many n (leads f) ≤ many n (leads e) → (s t : ℕ) → s < n → t < n → e s t ≡ true → f s t ≡ true
  blocks-same h s t hs ht k = least_differ f qf s t (sym es ∙ least_same e qe x y xy ∙ et)
    where
      x : ℕ
      x = least f s

      y : ℕ
      y = least f t

      hx : x < n
      hx = omega (arith, least_le f qf s)

      hy : y < n
      hy = omega (arith, least_le f qf t)

      es : least e x ≡ x
      es = leads_least e qe x (many_full n (leads e) (leads f) leads_finer h x hx (least_leads f qf s))

      et : least e y ≡ y
      et = leads_least e qe y (many_full n (leads e) (leads f) leads_finer h y hy (least_leads f qf t))

      xy : e x y ≡ true
      xy = qe.transitive x s y (finer x s hx hs (least_eq f qf s))
          (qe.transitive s t y k (qe.symmetric y t (finer y t hy ht (least_eq f qf t))))
