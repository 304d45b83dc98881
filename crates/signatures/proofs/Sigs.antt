-- A signature is a set: its members are those pushed, ascending, and lists with the same members have one signature.
use Rattle.std.specs.Prelude.{◌≡◌, ◌≤◌, true, List, length}
use mathlib.Core.Path.{refl, subst, sym}
use Rattle.columns.specs.Sets.{Mem, Pair, pair_lt, Ascending}
use Rattle.columns.proofs.Orders.{pair_order}
use Rattle.columns.proofs.Sets.{collect_in, collect_out, collect_ascending, ascending_unique}
use Rattle.columns.proofs.Unions.{collect_few}
use Rattle.signatures.specs.Pairs.{signature}

module _ (pushed : List Pair) where
  pub sig_in : (p : Pair) → Mem p pushed → Mem p (signature pushed)
  unfolding signature
  sig_in p m = collect_in pair_lt pair_order (λ r. true) (λ r. r) pushed p m refl

  pub sig_out : (p : Pair) → Mem p (signature pushed) → Mem p pushed
  unfolding signature
  sig_out p m = let f = collect_out pair_lt pair_order (λ r. true) (λ r. r) pushed p m in
      subst (λ (q : Pair). Mem q pushed) (sym f.3) f.1

  pub sig_ascending : Ascending pair_lt (signature pushed)
  unfolding signature
  sig_ascending = collect_ascending pair_lt pair_order (λ r. true) (λ r. r) pushed

-- two signatures with the same members are one
pub sig_ext :
    (l m : List Pair) → ((p : Pair) → Mem p (signature l) → Mem p (signature m)) → ((p : Pair) → Mem p (signature m) → Mem p (signature l))
    → signature l ≡ signature m
sig_ext l m f g = ascending_unique pair_lt pair_order (signature l) (signature m) (sig_ascending l) (sig_ascending m) f g

-- neither the order in which pairs are pushed matters, nor how often
pub sig_same : (l m : List Pair) → ((p : Pair) → Mem p l → Mem p m) → ((p : Pair) → Mem p m → Mem p l) → signature l ≡ signature m
sig_same l m f g = sig_ext l m (λ p k. sig_in m p (f p (sig_out l p k))) (λ p k. sig_in l p (g p (sig_out m p k)))

-- ---- it has at most as many pairs as were pushed
pub sig_few : (l : List Pair) → length (signature l) ≤ length l
unfolding signature
sig_few l = collect_few pair_lt (λ r. true) (λ r. r) l
