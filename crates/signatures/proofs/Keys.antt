-- A row as a pair, by the test that the code makes and the cells that it reads.
use Rattle.std.specs.Prelude.{◌≡◌, ℕ, Bool, true, false, cond, List, get_or}
use mathlib.Core.Path.{ap₂, sym, ◌∙◌}
use Rattle.columns.specs.Sets.{Pair}

-- the test k, the target u, and the two numbers chosen by the test
pub keyed_either :
    (keys home : List ℕ) (hat a u u' x y : ℕ) (k k' : Bool) → u ≡ u' → k ≡ k' → x ≡ cond k hat a
    → y ≡ cond k (get_or keys u 0) (get_or home u 0) → ◌≡◌ {A = Pair} (cond k' (hat, get_or keys u' 0) (a, get_or home u' 0)) (x, y)
keyed_either keys home hat a u u' x y k k' eu ek ex ey =
    sym (ap₂ (λ (j : Bool) (v : ℕ). cond j (hat, get_or keys v 0) (a, get_or home v 0)) ek eu) ∙ go k ex ey
  where
    go : (k : Bool) → x ≡ cond k hat a → y ≡ cond k (get_or keys u 0) (get_or home u 0)
        → ◌≡◌ {A = Pair} (cond k (hat, get_or keys u 0) (a, get_or home u 0)) (x, y)
    go true p q = λ i. (sym p i, sym q i)
    go false p q = λ i. (sym p i, sym q i)
