-- `subsetb` is right: it is true exactly if every pair of other is the excluded one or in self.
use Rattle.std.specs.Prelude.{◌≡◌, ℕ, ◌<◌, Bool, true, ◌||◌, ◌⊎◌, ◌↔◌, List, [], ◌∷◌, ◌++◌}
use native.Mathlib.Omega.{arith}
use mathlib.Core.Path.{refl, ap, sym, ◌∙◌, subst}
use mathlib.Core.Logic.{inl, inr}
use Rattle.columns.specs.Answers.{none}
use Rattle.columns.specs.Due.{Test}
use Rattle.columns.specs.Rows.{pairs_of, pair_at}
use Rattle.columns.specs.Sets.{Mem, Pair, pair_lt, pair_eq, Ascending}
use Rattle.columns.proofs.All.{all_at, all_of}
use Rattle.columns.proofs.Bools.{bool_ext, or_split, or_left, or_right}
use Rattle.columns.proofs.Chains.{passed_both, holds_both, none-due}
use Rattle.columns.proofs.Firsts.{some_in, some_out}
use Rattle.columns.proofs.Risings.{Rising, of_ascending, listed_in, listed_out}
use Rattle.columns.proofs.Sets.{among_in, among_out, pair_eq_eq, pair_eq_refl}
use Rattle.columns.specs.Counting.{some, all}
use Rattle.pairs.specs.Pairs.{end_of, pairs, list_test}
use Rattle.pairs.specs.Subset.{has_pair, subsetb, subset_refusal}
use Rattle.pairs.proofs.Refusals.{list_of, of_list}
use Rattle.pairs.proofs.Walking.{kept}

-- ---- `has_pair` is membership
pub has_in : (l : List Pair) (x : Pair) → Mem x l → has_pair l x ≡ true
unfolding has_pair
has_in l x m = among_in pair_eq pair_eq_refl x l m

pub has_out : (l : List Pair) (x : Pair) → has_pair l x ≡ true → Mem x l
unfolding has_pair
has_out l x e = among_out pair_eq pair_eq_eq x l e

module _ (labels blocks : List ℕ) where
  -- pair i is a member, and a member is some pair i
  pub pair_in : (i : ℕ) → i < end_of labels blocks → Mem (pair_at labels blocks i) (pairs labels blocks)
  unfolding pairs_of pair_at
  pair_in i h = listed_in (end_of labels blocks) (pair_at labels blocks) i h

  -- and so one of them is the pair exactly if the list has it
  some_has :
      (x : Pair) → some (end_of labels blocks) (λ i. pair_eq (pair_at labels blocks i) x) ≡ has_pair (pairs labels blocks) x
  unfolding pairs_of pair_at
  some_has x =
      bool_ext _ _
      (λ e.
      let p = some_out (end_of labels blocks) (λ i. pair_eq (pair_at labels blocks i) x) e in
      has_in (pairs labels blocks) x
      (subst (λ (y : Pair). Mem y (pairs labels blocks)) (pair_eq_eq (pair_at labels blocks p.at) x p.passes)
      (pair_in p.at p.below)))
      (λ e.
      let p = listed_out (end_of labels blocks) (pair_at labels blocks) x (has_out (pairs labels blocks) x e) in
      some_in (end_of labels blocks) (λ i. pair_eq (pair_at labels blocks i) x) p.at p.below
      (ap (pair_eq (pair_at labels blocks p.at)) p.same ∙ pair_eq_refl (pair_at labels blocks p.at)))

  pub rises : (n : ℕ) → n ≡ end_of labels blocks → Ascending pair_lt (pairs labels blocks) → Rising pair_lt n (pair_at labels blocks)
  unfolding pairs_of pair_at
  rises n e a i j h w = of_ascending pair_lt (end_of labels blocks) (pair_at labels blocks) a i j h (omega arith)

-- a call is not refused exactly if both lists ascend
module _ (self_labels self_blocks other_labels other_blocks : List ℕ) where
  abbrev self : List Test
  self = list_test self_labels self_blocks ∷ []

  abbrev other : List Test
  other = list_test other_labels other_blocks ∷ []

  pub checked_of : (subset_refusal self_labels self_blocks other_labels other_blocks).number ≡ 0
      → Ascending pair_lt (pairs self_labels self_blocks) × Ascending pair_lt (pairs other_labels other_blocks)
  unfolding subset_refusal
  checked_of z =
      let h = passed_both self other refl (subset_refusal self_labels self_blocks other_labels other_blocks) refl z in
      (list_of self_labels self_blocks h.0, list_of other_labels other_blocks h.1)

  pub of_checked : Ascending pair_lt (pairs self_labels self_blocks) → Ascending pair_lt (pairs other_labels other_blocks)
      → subset_refusal self_labels self_blocks other_labels other_blocks ≡ none
  unfolding subset_refusal
  of_checked a b =
      none-due (self ++ other) (holds_both self other (of_list self_labels self_blocks a) (of_list other_labels other_blocks b))

module _ (self_labels self_blocks other_labels other_blocks : List ℕ) (x : Pair) where
  -- what the walk decides, with its ends counted
  pub at_ends : (n m : ℕ) → n ≡ end_of self_labels self_blocks → m ≡ end_of other_labels other_blocks
      → all m (kept n (pair_at self_labels self_blocks) (pair_at other_labels other_blocks) x) ≡ subsetb self_labels self_blocks other_labels
      other_blocks x
  unfolding subsetb
  at_ends n m e d =
      rw (e, d)
      (ap (λ (h : Pair → Bool). all (end_of other_labels other_blocks)
      (λ j. pair_eq (pair_at other_labels other_blocks j) x || h (pair_at other_labels other_blocks j)))
      (λ i y. some_has self_labels self_blocks y i))

  kept_of : (y : Pair) → (pair_eq y x || has_pair (pairs self_labels self_blocks) y) ≡ true → (y ≡ x) ⊎ Mem y (pairs self_labels self_blocks)
  kept_of y e = go (or_split (pair_eq y x) (has_pair (pairs self_labels self_blocks) y) e)
    where
      go : (pair_eq y x ≡ true) ⊎ (has_pair (pairs self_labels self_blocks) y ≡ true) → (y ≡ x) ⊎ Mem y (pairs self_labels self_blocks)
      go (inl q) = inl (pair_eq_eq y x q)
      go (inr q) = inr (has_out (pairs self_labels self_blocks) y q)

  of_kept : (y : Pair) → (y ≡ x) ⊎ Mem y (pairs self_labels self_blocks) → (pair_eq y x || has_pair (pairs self_labels self_blocks) y) ≡ true
  of_kept y (inl q) = or_left (pair_eq y x) (has_pair (pairs self_labels self_blocks) y) (ap (pair_eq y) (sym q) ∙ pair_eq_refl y)
  of_kept y (inr m) = or_right (pair_eq y x) (has_pair (pairs self_labels self_blocks) y) (has_in (pairs self_labels self_blocks) y m)

  pub subset_law :
      (subsetb self_labels self_blocks other_labels other_blocks x ≡ true)
      ↔ ((y : Pair) → Mem y (pairs other_labels other_blocks) → (y ≡ x) ⊎ Mem y (pairs self_labels self_blocks))
  unfolding subsetb pairs_of pair_at
  subset_law =
      let f : ℕ → Pair = pair_at other_labels other_blocks in
      let test : ℕ → Bool = λ j. pair_eq (f j) x || has_pair (pairs self_labels self_blocks) (f j) in (
        λ e y m.
            let p = listed_out (end_of other_labels other_blocks) f y m in
            kept_of y (ap (λ (z : Pair). pair_eq z x || has_pair (pairs self_labels self_blocks) z) p.same ∙
            all_at test (end_of other_labels other_blocks) p.at e p.below),
        λ h. all_of test (end_of other_labels other_blocks) (λ j l. of_kept (f j) (h (f j) (pair_in other_labels other_blocks j l))),
      )
