-- Sets of pairs (label, block) under two numberings of the blocks: one says of each state's block what the other says.
use Rattle.std.specs.Prelude.{◌≡◌, ℕ, ◌<◌, List, get_or}
use mathlib.Core.Path.{subst, sym}
use Rattle.columns.specs.Sets.{Mem, Pair, pair_lt, Ascending}
use Rattle.columns.proofs.Orders.{pair_order}
use Rattle.columns.proofs.Sets.{ascending_unique}

-- the pair is of the block of some state
pub record Named (n : ℕ) (home : List ℕ) (p : Pair) : Type 0 where
  pub state : ℕ
  pub below : state < n
  pub block : p.1 ≡ get_or home state 0

pub record Matching (n : ℕ) (home home' : List ℕ) (l l' : List Pair) : Type 0 where
  pub to : (a u : ℕ) → u < n → Mem {A = Pair} (a, get_or home u 0) l → Mem {A = Pair} (a, get_or home' u 0) l'
  pub from : (a u : ℕ) → u < n → Mem {A = Pair} (a, get_or home' u 0) l' → Mem {A = Pair} (a, get_or home u 0) l
  pub named : (p : Pair) → Mem p l → Named n home p
  pub named' : (p : Pair) → Mem p l' → Named n home' p

module _ {n : ℕ} {home home' : List ℕ} where
  pub matching_sym : {l l' : List Pair} → Matching n home home' l l' → Matching n home' home l' l
  matching_sym h = record { to = h.from; from = h.to; named = h.named'; named' = h.named }

  -- sets that are equal under one numbering are equal under the other
  module _ {k k' l l' : List Pair} (a : Matching n home home' k k') (b : Matching n home home' l l') (e : k ≡ l) where
    within : (p : Pair) → Mem p k' → Mem p l'
    within p m =
        let w = a.named' p m in
        let back : ◌≡◌ {A = Pair} p (p.0, get_or home' w.state 0) = λ i. (p.0, w.block i) in
        subst (λ (q : Pair). Mem q l') (sym back)
        (b.to p.0 w.state w.below
        (subst (λ (q : List Pair). Mem {A = Pair} (p.0, get_or home w.state 0) q) e
        (a.from p.0 w.state w.below (subst (λ (q : Pair). Mem q k') back m))))

  pub matching_same :
      {k k' l l' : List Pair} → Matching n home home' k k' → Matching n home home' l l' → Ascending pair_lt k' → Ascending pair_lt l' →
      k ≡ l → k' ≡ l'
  matching_same {k} {k'} {l} {l'} a b x y e = ascending_unique pair_lt pair_order k' l' x y (within a b e) (within b a (sym e))
