-- Laws of `renumbered`.
use Prim.Native.Nat.{ℕ, ◌+◌, ◌≤◌, ◌<◌}
use borrow.Author.Tests.{le-leb, lt-leb, leb-true}
use mathlib.Core.Path.{◌≡◌, refl, ap, ◌∙◌}
use mathlib.Core.List.{List}
use lib.ListN.{length, get_or, set}
use lib.Dec.{leb}
use Rattle.columns.proofs.Stores.{stores_idle, stores_more, stores_miss, stores_hit, length-stores}
use Rattle.partition.specs.SwapBlocks.{renumbered}

module _ (e : List ℕ) (x v : ℕ) (l : List ℕ) where
  pub renumbered-none : l ≡ renumbered e x x v l
  unfolding renumbered
  renumbered-none = stores_idle (λ k. leb x k) (λ k. get_or e k 0) (λ _. v) x l (λ s w. lt-leb x s w)

  pub renumbered_more : (k : ℕ) (a : List ℕ) (s : ℕ) → x ≤ k → s ≡ get_or e k 0 → a ≡ renumbered e x k v l →
      set a s v ≡ renumbered e x (k + 1) v l
  unfolding renumbered
  renumbered_more k a s h q w =
      ap (λ (y : ℕ). set a y v) q ∙ stores_more (λ k. leb x k) (λ k. get_or e k 0) (λ _. v) k l a (le-leb x k h) w

  pub length-renumbered : (z : ℕ) → length (renumbered e x z v l) ≡ length l
  unfolding renumbered
  length-renumbered z = length-stores (λ k. leb x k) (λ k. get_or e k 0) (λ _. v) z l

  -- a state that stands at one of the places
  pub renumbered_in : (z k s : ℕ) → x ≤ k → k < z → get_or e k 0 ≡ s → s < length l → get_or (renumbered e x z v l) s 0 ≡ v
  unfolding renumbered
  renumbered_in z k s h w q m = stores_hit (λ k. leb x k) (λ k. get_or e k 0) (λ _. v) z l s v k m w (le-leb x k h) q (λ t _ _ _. refl)

  -- and one that stands at none
  pub renumbered_out : (z s : ℕ) → ((k : ℕ) → x ≤ k → k < z → get_or e k 0 ≡ s → ⊥) → get_or (renumbered e x z v l) s 0 ≡ get_or l s 0
  unfolding renumbered
  renumbered_out z s h = stores_miss (λ k. leb x k) (λ k. get_or e k 0) (λ _. v) z l s (λ k w t q. h k (leb-true x k t) w q)
