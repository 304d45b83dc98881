-- The merged lists, and the own pairs united with them, in the columns of the result.
use Rattle.std.specs.Prelude.{◌≡◌, ℕ, ◌+◌, ◌≤◌, List, length}
use native.Mathlib.Omega.{arith}
use mathlib.Core.Path.{ap, ap₂, sym, subst, ◌∙◌}
use lib.ListN.{length-map}
use Rattle.columns.specs.Columns.{over}
use Rattle.columns.specs.Rows.{pairs_of, first_of, last_of}
use Rattle.columns.specs.Sets.{Pair, pair_lt, add_all, Ascending}
use Rattle.columns.proofs.Lists.{length_over, over_again}
use Rattle.columns.proofs.TwoColumns.{pairs-over}
use Rattle.columns.proofs.Unions.{add_all_more}
use Rattle.pairs_merge.specs.Merged.{Heads}
use Rattle.pairs_merge.specs.Rest.{left_in, merge_of}
use Rattle.pairs_merge.proofs.Joins.{few_merged, merge_ascending}
use Rattle.signatures.specs.Pairs.{Columns, pairs_over}
use Rattle.signatures_sorted.specs.Joining.{joint_set}

-- r merged pairs stand over a₀ and b₀ in a and b
module _ (d : Heads) (k own r : ℕ) (a b a₀ b₀ : List ℕ)
    (er : r ≡ length (merge_of d k)) (ea : a ≡ over (first_of (merge_of d k)) a₀) (eb : b ≡ over (last_of (merge_of d k)) b₀)
    (ha : own + left_in d k ≤ length a₀) (hb : own + left_in d k ≤ length b₀) where
  merged_a : length (merge_of d k) ≤ length a₀
  merged_a = omega (arith, few_merged d k, ha)

  merged_b : length (merge_of d k) ≤ length b₀
  merged_b = omega (arith, few_merged d k, hb)

  long_a : length a ≡ length a₀
  long_a = ap length ea ∙ length_over (first_of (merge_of d k)) a₀ (omega (arith, length-map (merge_of d k) (λ (x : Pair). x.0), merged_a))

  long_b : length b ≡ length b₀
  long_b = ap length eb ∙ length_over (last_of (merge_of d k)) b₀ (omega (arith, length-map (merge_of d k) (λ (x : Pair). x.1), merged_b))

  pub room_a : r + own ≤ length a
  room_a = omega (arith, long_a, few_merged d k, ha, er)

  pub room_b : r + own ≤ length b
  room_b = omega (arith, long_b, few_merged d k, hb, er)

  pub merged-pairs : pairs_of r a b ≡ merge_of d k
  merged-pairs =
      ap (λ (i : ℕ). pairs_of i a b) er ∙ ap₂ (λ (x y : List ℕ). pairs_of (length (merge_of d k)) x y) ea eb
      ∙ pairs-over (merge_of d k) a₀ b₀

  pub merged-ascends : Ascending pair_lt (pairs_of r a b)
  merged-ascends = subst (λ (l : List Pair). Ascending pair_lt l) (sym merged-pairs) (merge_ascending d k)

  -- the own pairs x, united with them
  module _ (p q : List ℕ) where
    abbrev whole : List Pair
    whole = joint_set own p q d k

    united : add_all pair_lt (pairs_of own p q) (pairs_of r a b) ≡ whole
    unfolding joint_set
    united = ap (λ (l : List Pair). add_all pair_lt (pairs_of own p q) l) merged-pairs

    more : length (merge_of d k) ≤ length whole
    unfolding joint_set
    more = add_all_more pair_lt (pairs_of own p q) (merge_of d k)

    module _ (n : ℕ) (x y : List ℕ)
        (en : n ≡ length (add_all pair_lt (pairs_of own p q) (pairs_of r a b)))
        (ex : x ≡ over (first_of (add_all pair_lt (pairs_of own p q) (pairs_of r a b))) a)
        (ey : y ≡ over (last_of (add_all pair_lt (pairs_of own p q) (pairs_of r a b))) b) where
      pub joined_count : n ≡ length whole
      joined_count = en ∙ ap length united

      first-over : x ≡ over (first_of whole) a₀
      first-over =
          ex ∙ ap₂ (λ (l : List Pair) (m : List ℕ). over (first_of l) m) united ea
          ∙ over_again (first_of whole) (first_of (merge_of d k)) a₀
          (omega (arith, length-map whole (λ (z : Pair). z.0), length-map (merge_of d k) (λ (z : Pair). z.0), more))

      last_over : y ≡ over (last_of whole) b₀
      last_over =
          ey ∙ ap₂ (λ (l : List Pair) (m : List ℕ). over (last_of l) m) united eb
          ∙ over_again (last_of whole) (last_of (merge_of d k)) b₀
          (omega (arith, length-map whole (λ (z : Pair). z.1), length-map (merge_of d k) (λ (z : Pair). z.1), more))

      pub joined_over : ◌≡◌ {A = Columns} (x, y) (pairs_over whole (a₀, b₀))
      unfolding pairs_over
      joined_over = λ i. (first-over i, last_over i)
