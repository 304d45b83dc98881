-- Laws of 15: what holds once a list of pairs is not refused.
use Rattle.std.specs.Prelude.{◌≡◌, ℕ, zero, suc, ◌-◌, ◌<◌, ◌≤◌, Bool, true, false, cond, not, ltb, leb, List, [], ◌∷◌}
use native.Mathlib.Omega.{arith}
use borrow.Author.Tests.{ltb-true, ltb-false, leb-true, lt-ltb, le-ltb, le-leb, not-false}
use mathlib.Core.Path.{refl, ap, sym, ◌∙◌}
use Rattle.columns.specs.Counting.{first}
use Rattle.columns.specs.Rows.{pairs_of, pair_at}
use Rattle.columns.specs.Sets.{pair_lt, Ascending}
use Rattle.columns.proofs.Bools.{and_no_left, and_no_right}
use Rattle.columns.proofs.Chains.{Holds}
use Rattle.columns.proofs.Firsts.{NoneBelow, first-none, none_of}
use Rattle.columns.proofs.Orders.{pair_order}
use Rattle.columns.proofs.Risings.{rising_of, ascending_of, of_ascending}
use Rattle.pairs.specs.Pairs.{shorter, end_of, pairs, bad_pair, list_test}

pub shorter-left : (a b : ℕ) → shorter a b ≤ a
unfolding shorter
shorter-left a b = go (ltb a b) refl
  where
    go : (t : Bool) → ltb a b ≡ t → cond t a b ≤ a
    go true e = omega arith
    go false e = ltb-false a b e

pub shorter_right : (a b : ℕ) → shorter a b ≤ b
unfolding shorter
shorter_right a b = go (ltb a b) refl
  where
    go : (t : Bool) → ltb a b ≡ t → cond t a b ≤ b
    go true e = let h = ltb-true a b e in omega arith
    go false e = omega arith

pub below_shorter : (a b j : ℕ) → j < a → j < b → j < shorter a b
unfolding shorter
below_shorter a b j h k = go (ltb a b)
  where
    go : (t : Bool) → j < cond t a b
    go true = h
    go false = k

-- ---- 15 at the least index that is bad
module _ (n : ℕ) (bad : ℕ → Bool) where
  pub least_of : leb n (first n bad) ≡ true → NoneBelow bad n
  least_of t = none_of n bad (leb-true n (first n bad) t)

  pub of_least : NoneBelow bad n → leb n (first n bad) ≡ true
  of_least r = le-leb n (first n bad) (omega (arith, first-none n bad r))

-- ---- pairs
back : (j : ℕ) → suc j - 1 ≡ j
back j = omega arith

module _ (labels blocks : List ℕ) where
  pub pair_before : (x j : ℕ) → j ≤ x → bad_pair labels blocks x j ≡ false
  unfolding bad_pair
  pair_before x j h = and_no_left (ltb x j) (not (pair_lt (pair_at labels blocks (j - 1)) (pair_at labels blocks j))) (le-ltb x j h)

  pub pair_after : (x j : ℕ) → x < j → not (pair_lt (pair_at labels blocks (j - 1)) (pair_at labels blocks j)) ≡ bad_pair labels blocks x j
  unfolding bad_pair
  pair_after x j h = rw (lt-ltb x j h)

  -- a pair that is not bad is above the one before
  pub pair_above : (x j : ℕ) → x ≤ j → bad_pair labels blocks x (suc j) ≡ false →
      pair_lt (pair_at labels blocks j) (pair_at labels blocks (suc j)) ≡ true
  pair_above x j h e =
      ap (λ (k : ℕ). pair_lt (pair_at labels blocks k) (pair_at labels blocks (suc j))) (sym (back j))
      ∙ not-false (pair_lt (pair_at labels blocks (suc j - 1)) (pair_at labels blocks (suc j))) (pair_after x (suc j) (omega arith) ∙ e)

  pub above_pair : (x j : ℕ) → pair_lt (pair_at labels blocks j) (pair_at labels blocks (suc j)) ≡ true →
      bad_pair labels blocks x (suc j) ≡ false
  unfolding bad_pair
  above_pair x j e =
      and_no_right (ltb x (suc j)) (not (pair_lt (pair_at labels blocks (suc j - 1)) (pair_at labels blocks (suc j))))
      (ap (λ (k : ℕ). not (pair_lt (pair_at labels blocks k) (pair_at labels blocks (suc j)))) (back j) ∙ ap not e)

  pub list_of : Holds (list_test labels blocks ∷ []) → Ascending pair_lt (pairs labels blocks)
  unfolding pairs_of pair_at
  list_of h =
      let p = least_of (end_of labels blocks) (bad_pair labels blocks 0) h.0 in
      ascending_of pair_lt (end_of labels blocks) (pair_at labels blocks)
      (rising_of pair_lt pair_order (end_of labels blocks) (pair_at labels blocks)
      (λ j w. pair_above 0 j (omega arith) (p (suc j) w)))

  list_none : Ascending pair_lt (pairs labels blocks) → NoneBelow (bad_pair labels blocks 0) (end_of labels blocks)
  unfolding pairs_of pair_at
  list_none a zero h = pair_before 0 0 (omega arith)
  list_none a (suc j) h = above_pair 0 j (of_ascending pair_lt (end_of labels blocks) (pair_at labels blocks) a j (suc j) (omega arith) h)

  pub of_list : Ascending pair_lt (pairs labels blocks) → Holds (list_test labels blocks ∷ [])
  of_list a = (of_least (end_of labels blocks) (bad_pair labels blocks 0) (list_none a), tt)
