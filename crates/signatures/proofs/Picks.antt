-- The pairs that are picked by label and then block are the signature of the pairs.
use Rattle.std.specs.Prelude.{◌≡◌, ℕ, ◌≤◌, List, map, length}
use mathlib.Core.Path.{ap, ◌∙◌}
use Rattle.columns.specs.Columns.{over, cell}
use Rattle.columns.specs.Rows.{pick_rows, pairs_of, pair_set, first_of, last_of}
use Rattle.columns.proofs.Facts.{count_pairs, first_of_pairs, last_of_pairs}
use Rattle.signatures.specs.Pairs.{Columns, signature, pairs_over}

module _ (d : ℕ) (a b : List ℕ) (ha : d ≤ length a) (hb : d ≤ length b) where
  pub picked_count : length (pick_rows d a b b) ≡ length (signature (pairs_of d a b))
  unfolding signature pair_set
  picked_count = count_pairs d a b ha hb

  picked_labels : map (cell a) (pick_rows d a b b) ≡ first_of (signature (pairs_of d a b))
  unfolding signature pair_set
  picked_labels = first_of_pairs d a b ha hb

  picked-blocks : map (cell b) (pick_rows d a b b) ≡ last_of (signature (pairs_of d a b))
  unfolding signature pair_set
  picked-blocks = last_of_pairs d a b ha hb

  -- two columns over which the cells are written that the numbers picked name
  pub picked-over :
      (k x y l m : List ℕ) → k ≡ pick_rows d a b b → x ≡ over (map (cell a) k) l → y ≡ over (map (cell b) k) m
      → ◌≡◌ {A = Columns} (x, y) (pairs_over (signature (pairs_of d a b)) (l, m))
  unfolding pairs_over
  picked-over k x y l m e ex ey =
      let p : x ≡ over (first_of (signature (pairs_of d a b))) l
      = ex ∙ ap (λ (t : List ℕ). over (map (cell a) t) l) e ∙ ap (λ (t : List ℕ). over t l) picked_labels in
      let q : y ≡ over (last_of (signature (pairs_of d a b))) m
      = ey ∙ ap (λ (t : List ℕ). over (map (cell b) t) m) e ∙ ap (λ (t : List ℕ). over t m) picked-blocks in
      λ i. (p i, q i)
