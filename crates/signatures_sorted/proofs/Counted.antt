-- What is counted and merged for a state is what its sorted signature is made of: its own pairs, and the lists that it takes.
use Rattle.std.specs.Prelude.{◌≡◌, ℕ, ◌+◌, ◌<◌, Bool, true, false, cond, not, ◌&&◌, eqb, ◌⊎◌, List, [], ◌∷◌, map, length, get_or}
use native.Mathlib.Omega.{arith}
use borrow.Author.Tests.{not-true}
use mathlib.Core.Path.{refl, ap, ap₂, sym, subst, ◌∙◌}
use mathlib.Core.Logic.{inl, inr, ⊎_elim}
use mathlib.Core.List.Memᴰ
use mathlib.Core.List.{flat_map}
use Rattle.columns.specs.Columns.{listed}
use Rattle.columns.specs.Counting.{sum, members, bit}
use Rattle.columns.specs.Sets.{Mem, Pair, pair_lt, add_all, gather}
use Rattle.columns.proofs.Bools.{and_left, and_right, and_both}
use Rattle.columns.proofs.Counting.{many-sum}
use Rattle.columns.proofs.Facts.{at_mem, mem_at}
use Rattle.columns.proofs.FlatMaps.{flat_in, flat_out, flat-map, length-flat, length-flat-members}
use Rattle.columns.proofs.Members.{members_in, members_out}
use Rattle.columns.proofs.Orders.{pair_order}
use Rattle.columns.proofs.Risings.{listed_in, listed_out}
use Rattle.columns.proofs.Sets.{here, gather_ascending, gather_in, gather_out, ascending_unique}
use Rattle.columns.proofs.Sums.{sum-add, sum_cong}
use Rattle.columns.proofs.Unions.{gather_map}
use Rattle.pairs_merge.specs.Merged.{Heads, heads}
use Rattle.pairs_merge.specs.Rest.{rest_of, left_of, left_in, merge_of}
use Rattle.table.specs.Hidden.{hidden_in}
use Rattle.signatures.specs.Pairs.{signature}
use Rattle.signatures.specs.Strong.{own_rows, row_pair}
use Rattle.signatures.proofs.Sigs.{sig_in, sig_out}
use Rattle.pairs.specs.Lists.{list_at}
use Rattle.table.specs.Lts.{Lts}
use Rattle.signatures_branching.specs.Branching.{outerb, outer_pairs}
use Rattle.signatures_branching.proofs.Visited.{length_outer}
use Rattle.signatures_sorted.specs.Sorted.{sorted_at, sorted_pushed, sorted_signature}
use Rattle.signatures_sorted.specs.Joining.{Opened}
use Rattle.signatures_sorted.specs.Taking.{inner_row, inner_targets}
use Rattle.signatures_sorted.proofs.Openings.{rest_opened, left_opened}
use Rattle.signatures_sorted.proofs.SortedSigs.{sorted_ascending}

-- ---- how many: the rows one by one
module _ (t : Lts) (home : List ℕ) (given : ℕ → List Pair) (s : ℕ) where
  -- row i is one of s
  mine : ℕ → Bool
  mine i = eqb (get_or t.source i 0) s

  -- row i is hidden and leads to the block of s
  inert : ℕ → Bool
  inert i = hidden_in t.label t.target home (get_or home s 0) i

  row : (l : List Pair) (p : Pair) (a b : Bool) → bit (a && not b) + cond (a && b) (length l) 0 ≡ cond a (length (cond b l (p ∷ []))) 0
  row l p true true = omega arith
  row l p true false = omega arith
  row l p false b = omega arith

  pub length_own_taken :
      length (outer_pairs t home (get_or home s 0) s) + length (flat_map given (inner_targets t home s)) ≡ length (sorted_pushed t home given s)
  unfolding inner_targets inner_row outerb sorted_pushed own_rows sorted_at mine inert
  length_own_taken =
      ap₂ ◌+◌ (length_outer t home (get_or home s 0) s ∙ many-sum t.m (λ i. mine i && not (inert i)))
      (ap length (flat-map given (λ i. get_or t.target i 0) (members t.m (λ i. mine i && inert i)))
      ∙ length-flat-members (λ i. given (get_or t.target i 0)) (λ i. mine i && inert i) t.m)
      ∙ sym (sum-add (λ i. bit (mine i && not (inert i))) (λ i. cond (mine i && inert i) (length (given (get_or t.target i 0))) 0)
      t.m)
      ∙ sum_cong (λ i. bit (mine i && not (inert i)) + cond (mine i && inert i) (length (given (get_or t.target i 0))) 0)
      (λ i. cond (mine i) (length (sorted_at t home given (get_or home s 0) i)) 0) t.m
      (λ i w. row (given (get_or t.target i 0)) (row_pair t home i) (mine i) (inert i))
      ∙ sym (length-flat-members (sorted_at t home given (get_or home s 0)) mine t.m)

-- ---- which: the rows one by one
module _ (t : Lts) (home : List ℕ) (given : ℕ → List Pair) (s : ℕ) where
  own_pushed : (p : Pair) → Mem p (outer_pairs t home (get_or home s 0) s) → Mem p (sorted_pushed t home given s)
  unfolding outer_pairs outerb sorted_pushed own_rows sorted_at
  own_pushed p m =
      let f : ℕ → Bool = λ i. eqb (get_or t.source i 0) s && outerb t home (get_or home s 0) i in
      let g = Memᴰ.of_map (row_pair t home) (members t.m f) m in
      let i = g.0 in
      let r = members_out f t.m i g.1 in
      let b = hidden_in t.label t.target home (get_or home s 0) i in
      let e : b ≡ false = not-true b (and_right (eqb (get_or t.source i 0) s) (not b) r.1) in
      flat_in (sorted_at t home given (get_or home s 0)) (own_rows t s) i p
      (members_in (λ i. eqb (get_or t.source i 0) s) t.m i r.0 (and_left (eqb (get_or t.source i 0) s) (not b) r.1))
      (subst (λ (c : Bool). Mem p (cond c (given (get_or t.target i 0)) (row_pair t home i ∷ []))) (sym e) (Memᴰ.head (sym g.2)))

  taken_pushed : (u : ℕ) → Mem u (inner_targets t home s) → (p : Pair) → Mem p (given u) → Mem p (sorted_pushed t home given s)
  unfolding inner_targets inner_row sorted_pushed own_rows sorted_at
  taken_pushed u m p k =
      let f : ℕ → Bool = inner_row t home s in
      let g = Memᴰ.of_map (λ i. get_or t.target i 0) (members t.m f) m in
      let i = g.0 in
      let r = members_out f t.m i g.1 in
      let b = hidden_in t.label t.target home (get_or home s 0) i in
      flat_in (sorted_at t home given (get_or home s 0)) (own_rows t s) i p
      (members_in (λ i. eqb (get_or t.source i 0) s) t.m i r.0 (and_left (eqb (get_or t.source i 0) s) b r.1))
      (subst (λ (c : Bool). Mem p (cond c (given (get_or t.target i 0)) (row_pair t home i ∷ [])))
      (sym (and_right (eqb (get_or t.source i 0) s) b r.1)) (subst (λ (x : ℕ). Mem p (given x)) (sym g.2) k))

  pushed_split :
      (p : Pair) → Mem p (sorted_pushed t home given s)
      → Mem p (outer_pairs t home (get_or home s 0) s) ⊎ ((u : ℕ) × Mem u (inner_targets t home s) × Mem p (given u))
  unfolding outer_pairs outerb inner_targets inner_row sorted_pushed own_rows sorted_at
  pushed_split p m =
      let f = flat_out (sorted_at t home given (get_or home s 0)) (own_rows t s) p m in
      let r = members_out (λ i. eqb (get_or t.source i 0) s) t.m f.0 f.1 in
      go f.0 r.0 r.1 (hidden_in t.label t.target home (get_or home s 0) f.0) refl f.2
    where
      go : (i : ℕ) → i < t.m → eqb (get_or t.source i 0) s ≡ true → (b : Bool)
          → hidden_in t.label t.target home (get_or home s 0) i ≡ b
          → Mem p (cond b (given (get_or t.target i 0)) (row_pair t home i ∷ []))
          → Mem p (outer_pairs t home (get_or home s 0) s) ⊎ ((u : ℕ) × Mem u (inner_targets t home s) × Mem p (given u))
      go i w h true e k =
          inr (get_or t.target i 0, Memᴰ.map (λ i. get_or t.target i 0) (members_in (inner_row t home s) t.m i w (and_both h e)), k)
      go i w h false e k =
          let f : ℕ → Bool = λ i. eqb (get_or t.source i 0) s && outerb t home (get_or home s 0) i in
          inl (subst (λ (q : Pair). Mem q (map (row_pair t home) (members t.m f))) (sym (Memᴰ.eq_of_singleton k))
          (Memᴰ.map (row_pair t home) (members_in f t.m i w (and_both h (ap not e)))))

module _ (t : Lts) (home : List ℕ) (given : ℕ → List Pair) (s : ℕ) (d : Heads) (k : ℕ) (count : k ≡ length (inner_targets t home s)) where
  -- the lists to be merged: the own pairs, and the k lists
  all_lists : List (List Pair)
  all_lists = signature (outer_pairs t home (get_or home s 0) s) ∷ map (rest_of d) (listed k (λ j. j))

  pub count_of :
      ((j : ℕ) → j < k → left_of d j ≡ length (given (get_or (inner_targets t home s) j 0)))
      → length (outer_pairs t home (get_or home s 0) s) + left_in d k ≡ length (sorted_pushed t home given s)
  unfolding left_in
  count_of left =
      ap (λ (n : ℕ). length (outer_pairs t home (get_or home s 0) s) + n)
      (sum_cong (left_of d) (λ j. length (given (get_or (inner_targets t home s) j 0))) k left
      ∙ ap (λ (n : ℕ). sum (λ j. length (given (get_or (inner_targets t home s) j 0))) n) count
      ∙ sym (length-flat given (inner_targets t home s)))
      ∙ length_own_taken t home given s

  module _ (rest : (j : ℕ) → j < k → rest_of d j ≡ given (get_or (inner_targets t home s) j 0)) where
    down : (p : Pair) → Mem p (gather pair_lt (λ l. l) all_lists) → Mem p (sorted_signature t home given s)
    unfolding all_lists sorted_signature
    down p m =
        let g = gather_out pair_lt pair_order (λ l. l) all_lists p m in
        sig_in (sorted_pushed t home given s) p
        (⊎_elim
        (λ (e : g.0 ≡ signature (outer_pairs t home (get_or home s 0) s)).
        own_pushed t home given s p (sig_out (outer_pairs t home (get_or home s 0) s) p (subst (λ (l : List Pair). Mem p l) e g.2)))
        (λ (w : Mem g.0 (map (rest_of d) (listed k (λ j. j)))).
        let f = Memᴰ.of_map (rest_of d) (listed k (λ j. j)) w in
        let q = listed_out k (λ j. j) f.0 f.1 in
        let h : f.0 < k = omega (arith, q.below, q.same) in
        taken_pushed t home given s (get_or (inner_targets t home s) f.0 0)
        (at_mem (inner_targets t home s) f.0 (omega (arith, h, count))) p
        (subst (λ (l : List Pair). Mem p l) (sym f.2 ∙ rest f.0 h) g.2))
        (Memᴰ.cases_cons g.1))

    up : (p : Pair) → Mem p (sorted_signature t home given s) → Mem p (gather pair_lt (λ l. l) all_lists)
    unfolding all_lists sorted_signature
    up p m =
        ⊎_elim
        (λ (w : Mem p (outer_pairs t home (get_or home s 0) s)).
        gather_in pair_lt pair_order (λ l. l) all_lists (signature (outer_pairs t home (get_or home s 0) s)) p here
        (sig_in (outer_pairs t home (get_or home s 0) s) p w))
        (λ (w : (u : ℕ) × Mem u (inner_targets t home s) × Mem p (given u)).
        let a = mem_at (inner_targets t home s) w.0 w.1 in
        let h : a.0 < k = omega (arith, a.1, count) in
        gather_in pair_lt pair_order (λ l. l) all_lists (rest_of d a.0) p
        (Memᴰ.tail (Memᴰ.map (rest_of d) (listed_in k (λ j. j) a.0 h)))
        (subst (λ (l : List Pair). Mem p l) (sym (rest a.0 h ∙ ap given a.2)) w.2))
        (pushed_split t home given s p (sig_out (sorted_pushed t home given s) p m))

    pub set_of_lem : add_all pair_lt (signature (outer_pairs t home (get_or home s 0) s)) (merge_of d k) ≡ sorted_signature t home given s
    unfolding merge_of gather all_lists
    set_of_lem =
        ap (add_all pair_lt (signature (outer_pairs t home (get_or home s 0) s))) (gather_map pair_lt (λ l. l) (rest_of d) (listed k (λ j. j)))
        ∙ ascending_unique pair_lt pair_order (gather pair_lt (λ l. l) all_lists) (sorted_signature t home given s)
        (gather_ascending pair_lt pair_order (λ l. l) all_lists) (sorted_ascending t home given s) down up

-- ---- for lists that are opened
module _ (t : Lts) (home : List ℕ) (s : ℕ) (starts labels blocks : List ℕ) (k : ℕ) (high low end_high end_low : List ℕ)
    (o : Opened starts (inner_targets t home s) k high low end_high end_low) where
  pub sorted_count :
      length (outer_pairs t home (get_or home s 0) s) + left_in (heads labels blocks high low end_high end_low) k
      ≡ length (sorted_pushed t home (list_at starts labels blocks) s)
  sorted_count =
      count_of t home (list_at starts labels blocks) s (heads labels blocks high low end_high end_low) k o.count
      (λ j h. left_opened labels blocks o j h)

  pub sorted-set :
      add_all pair_lt (signature (outer_pairs t home (get_or home s 0) s)) (merge_of (heads labels blocks high low end_high end_low) k)
      ≡ sorted_signature t home (list_at starts labels blocks) s
  sorted-set =
      set_of_lem t home (list_at starts labels blocks) s (heads labels blocks high low end_high end_low) k o.count
      (λ j h. rest_opened labels blocks o j h)
