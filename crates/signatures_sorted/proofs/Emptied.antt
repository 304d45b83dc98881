-- Work slices of which only the first cells are lent.
use Rattle.std.specs.Prelude.{◌≡◌, ℕ, ◌≤◌, List, [], ◌∷◌, ◌++◌, length, get_or, take, drop}
use native.Mathlib.Omega.{arith}
use mathlib.Core.Path.{ap, ◌∙◌}
use Rattle.columns.specs.Answers.{Said}
use Rattle.columns.specs.Columns.{zeros, zeroed}
use Rattle.columns.specs.Sets.{Pair}
use Rattle.columns.proofs.Lists.{front_zeros, zeros_at}
use Rattle.signatures.specs.Pairs.{Columns}
use Rattle.signatures.specs.Signing.{Left, finishing}
use Rattle.signatures.proofs.Outcomes.{finished}
use Rattle.signatures.proofs.Works.{Each, zeroed_of}

-- of a slice that is all zero the first h cells are lent, and come back zero
pub lent-zero : (h : ℕ) (x z : List ℕ) → h ≤ length x → x ≡ zeros (length x) → z ≡ zeros (length (take h x)) → z ++
    drop h x ≡ zeros (length x)
lent-zero h x z w e f = front_zeros h x z w f (λ k l. ap (λ (y : List ℕ). get_or y k 0) e ∙ zeros_at (length x) k)

-- work slices that are left cleared, one by one
pub each_zero : (works before : List (List ℕ)) → works ≡ zeroed before → Each (λ a b. a ≡ zeros (length b)) works before
each_zero [] [] e = tt
each_zero [] (b ∷ before) e = let z : ◌≡◌ {A = ℕ} 0 1 = cc in omega arith
each_zero (a ∷ works) [] e = let z : ◌≡◌ {A = ℕ} 0 1 = cc in omega arith
each_zero (a ∷ works) (b ∷ before) e = (cc, each_zero works before (cc))

module _ (pushed : ℕ) (pairs : List Pair) (out : Columns) where
  -- on the first cells of the work slices, and on all of them
  pub refinished :
      (s : Said) (o : Columns) (works w : List (List ℕ)) → ◌≡◌ {A = Said × Left} (s, (o, w)) (finishing pushed pairs out works)
      → (works' w' : List (List ℕ))
      → (Each (λ a b. a ≡ zeros (length b)) w works → Each (λ a b. a ≡ zeros (length b)) w' works')
      → ◌≡◌ {A = Said × Left} (s, (o, w')) (finishing pushed pairs out works')
  unfolding finishing
  refinished s o works w e works' w' f =
      finished pushed pairs out s o works' w' (λ i. ((e i).0, (e i).1.0)) (zeroed_of w' works' (f (each_zero w works (λ i. (e i).1.1))))
