-- Pairs pushed state by state: how many there are for states that are told apart, and that for the states that are reached they are as many
-- as the definition's, and the same ones.
use Rattle.std.specs.Prelude.{◌≡◌, ℕ, ◌+◌, ◌<◌, ◌≤◌, Bool, true, false, ◌&&◌, eqb, List, ◌++◌, length, get_or}
use native.Mathlib.Omega.{arith}
use borrow.Author.Tests.{eqb-true, eq-eqb}
use mathlib.Core.Path.{refl, ap, sym, subst, ◌∙◌}
use mathlib.Core.List.Memᴰ
use lib.ListN.{length-map}
use Rattle.columns.specs.Columns.{laid}
use Rattle.columns.specs.Counting.{sum, many, members, bit}
use Rattle.columns.specs.Rows.{pairs_of}
use Rattle.columns.specs.Sets.{Mem, Pair}
use Rattle.columns.proofs.Bools.{and_left, and_right, and_both, contra, fails}
use Rattle.columns.proofs.Counting.{bit_true, bit_false, many-sum, many_nothing, many_strict}
use Rattle.columns.proofs.Laid.{laid_more, laid_cong, laid_up, length-laid, laid_in, laid_out}
use Rattle.columns.proofs.Members.{length-members, members_in, members_out}
use Rattle.columns.proofs.Owners.{by_numbers, one_owner, owned_few}
use Rattle.columns.proofs.Sums.{sum_cong}
use Rattle.columns.proofs.TwoColumns.{length_pairs}
use Rattle.signatures.specs.Pairs.{signature}
use Rattle.signatures.specs.Strong.{row_pair}
use Rattle.signatures.proofs.Sigs.{sig_same}
use Rattle.table.specs.Lts.{Lts, Valid}
use Rattle.signatures_branching.specs.Branching.{inertly, outerb, outer_pairs, branching_pushed, branching_signature}
use Rattle.signatures_branching.specs.Visiting.{outer_of, Visits}
use Rattle.signatures_branching.proofs.Endings.{ListsReached}

pub length_outer : (t : Lts) (home : List ℕ) (b x : ℕ) →
    length (outer_pairs t home b x) ≡ many t.m (λ i. eqb (get_or t.source i 0) x && outerb t home b i)
unfolding outer_pairs
length_outer t home b x =
    length-map (members t.m (λ i. eqb (get_or t.source i 0) x && outerb t home b i)) (row_pair t home)
    ∙ length-members (λ i. eqb (get_or t.source i 0) x && outerb t home b i) t.m

module _ (t : Lts) (home : List ℕ) (b : ℕ) (queue : List ℕ) (k : ℕ) where
  -- the pairs counted state by state
  by_states : length (outer_of t home b queue k) ≡ sum
      (λ j. many t.m (λ i. eqb (get_or t.source i 0) (get_or queue j 0) && outerb t home b i)) k
  by_states =
      length-laid (λ j. outer_pairs t home b (get_or queue j 0)) k
      ∙ sum_cong (λ j. length (outer_pairs t home b (get_or queue j 0)))
      (λ j. many t.m (λ i. eqb (get_or t.source i 0) (get_or queue j 0) && outerb t home b i)) k
      (λ j w. length_outer t home b (get_or queue j 0))

  -- the pairs counted row by row
  by_rows : length (outer_of t home b queue k) ≡ sum (λ i. many k (λ j. eqb (get_or t.source i 0) (get_or queue j 0) && outerb t home b i))
      t.m
  by_rows = by_states ∙ by_numbers t.m (λ i. get_or t.source i 0) (outerb t home b) (λ j. get_or queue j 0) k

  pub visited_few : ((i j : ℕ) → i < k → j < k → get_or queue i 0 ≡ get_or queue j 0 → i ≡ j) → length (outer_of t home b queue k) ≤ t.m
  visited_few once = omega (arith, by_states, owned_few t.m (λ i. get_or t.source i 0) (outerb t home b) (λ j. get_or queue j 0) k once)

module _ (t : Lts) (v : Valid t) (home : List ℕ) (s : ℕ) (queue : List ℕ) (k : ℕ) (l : ListsReached t home s queue k) where
  -- a row is counted for one state of the list, if its source is reached
  row_once : (x : ℕ) (o : Bool) → x < t.n → many k (λ j. eqb x (get_or queue j 0) && o) ≡ bit (inertly t home s x && o)
  row_once x o h = go (inertly t home s x && o) refl
    where
      go : (r : Bool) → (inertly t home s x && o) ≡ r → many k (λ j. eqb x (get_or queue j 0) && o) ≡ bit r
      go true e =
          let f = l.all x h (and_left (inertly t home s x) o e) in
          omega (
            arith,
            one_owner t.m (λ i. get_or t.source i 0) (outerb t home (get_or home s 0)) (λ j. get_or queue j 0) k l.once x o,
            many_strict f.0 k (λ j. eqb x (get_or queue j 0) && o) f.1
                (and_both (eq-eqb x (get_or queue f.0 0) (sym f.2)) (and_right (inertly t home s x) o e)),
            bit_true true refl,
          )
      go false e =
          many_nothing k (λ j. eqb x (get_or queue j 0) && o)
          (λ j w.
          fails
          (λ p.
          contra
          (and_both (ap (inertly t home s) (eqb-true x (get_or queue j 0) (and_left (eqb x (get_or queue j 0)) o p)) ∙ l.reached j w)
          (and_right (eqb x (get_or queue j 0)) o p))
          e))
          ∙ sym (bit_false false refl)

  pub visited_count : length (outer_of t home (get_or home s 0) queue k) ≡ length (branching_pushed t home s)
  unfolding branching_pushed
  visited_count =
      let b = get_or home s 0 in
      let f : ℕ → Bool = λ i. inertly t home s (get_or t.source i 0) && outerb t home b i in
      by_rows t home b queue k
      ∙ sum_cong (λ i. many k (λ j. eqb (get_or t.source i 0) (get_or queue j 0) && outerb t home b i)) (λ i. bit (f i)) t.m
      (λ i w. row_once (get_or t.source i 0) (outerb t home b i) (v.fields i w).source)
      ∙ sym (many-sum t.m f) ∙ sym (length-members f t.m) ∙ sym (length-map (members t.m f) (row_pair t home))

  pub visited_signature : signature (laid (λ j. outer_pairs t home (get_or home s 0) (get_or queue j 0)) k) ≡ branching_signature t home s
  unfolding branching_signature branching_pushed outer_pairs
  visited_signature =
      sig_same (laid (λ j. outer_pairs t home (get_or home s 0) (get_or queue j 0)) k) (branching_pushed t home s) there back
    where
      there : (p : Pair) → Mem p (laid (λ j. outer_pairs t home (get_or home s 0) (get_or queue j 0)) k) → Mem p (branching_pushed t home s)
      there p m =
          let r = laid_out (λ j. outer_pairs t home (get_or home s 0) (get_or queue j 0)) p k m in
          let x = get_or queue r.0 0 in
          let g = Memᴰ.of_map (row_pair t home) (members t.m (λ i. eqb (get_or t.source i 0) x && outerb t home (get_or home s 0) i))
          r.2 in
          let q = members_out (λ i. eqb (get_or t.source i 0) x && outerb t home (get_or home s 0) i) t.m g.0 g.1 in
          let e = eqb-true _ _ (and_left (eqb (get_or t.source g.0 0) x) (outerb t home (get_or home s 0) g.0) q.1) in
          subst (λ (z : Pair). Mem z (branching_pushed t home s)) g.2
          (Memᴰ.map (row_pair t home)
          (members_in (λ i. inertly t home s (get_or t.source i 0) && outerb t home (get_or home s 0) i) t.m g.0 q.0
          (and_both (ap (inertly t home s) e ∙ l.reached r.0 r.1)
          (and_right (eqb (get_or t.source g.0 0) x) (outerb t home (get_or home s 0) g.0) q.1))))

      back : (p : Pair) → Mem p (branching_pushed t home s) → Mem p (laid (λ j. outer_pairs t home (get_or home s 0) (get_or queue j 0)) k)
      back p m =
          let g = Memᴰ.of_map (row_pair t home) (members t.m
          (λ i. inertly t home s (get_or t.source i 0) && outerb t home (get_or home s 0) i)) m in
          let q = members_out (λ i. inertly t home s (get_or t.source i 0) && outerb t home (get_or home s 0) i) t.m g.0 g.1 in
          let x = get_or t.source g.0 0 in
          let r = l.all x (v.fields g.0 q.0).source (and_left (inertly t home s x) (outerb t home (get_or home s 0) g.0) q.1)
          in
          laid_in (λ j. outer_pairs t home (get_or home s 0) (get_or queue j 0)) p r.0 k r.1
          (subst (λ (z : Pair). Mem z (outer_pairs t home (get_or home s 0) (get_or queue r.0 0))) g.2
          (Memᴰ.map (row_pair t home)
          (members_in (λ i. eqb (get_or t.source i 0) (get_or queue r.0 0) && outerb t home (get_or home s 0) i) t.m g.0 q.0
          (and_both (eq-eqb _ _ (sym r.2)) (and_right (inertly t home s x) (outerb t home (get_or home s 0) g.0) q.1)))))

-- ---- a search that has pushed the pairs of the states before `head`
module _ (t : Lts) (home : List ℕ) (b start : ℕ) (marks queue : List ℕ) (head tail : ℕ) (labels blocks : List ℕ) (d : ℕ)
    (p : Visits t home b start marks queue head tail labels blocks d) where
  -- there is room for those of the state at `head`
  pub visits_room : head < tail → d + length (outer_pairs t home b (get_or queue head 0)) ≤ t.m
  visits_room h =
      omega (
        arith,
        length_pairs d labels blocks,
        ap length p.pushed,
        laid_up (λ j. outer_pairs t home b (get_or queue j 0)) head (head + 1) (omega arith),
        visited_few t home b queue (head + 1) (λ i j a c. p.search.once i j (omega (arith, a)) (omega (arith, c))),
      )

  -- they are pushed, and the queue is longer by then
  pub visits_more :
      (qs ls bs : List ℕ) (k : ℕ) → ((j : ℕ) → j < tail → get_or qs j 0 ≡ get_or queue j 0) → head < tail
      → pairs_of k ls bs ≡ pairs_of d labels blocks ++ outer_pairs t home b (get_or queue head 0) →
      pairs_of k ls bs ≡ outer_of t home b qs (head + 1)
  visits_more qs ls bs k kept h e =
      e ∙ ap (λ (l : List Pair). l ++ outer_pairs t home b (get_or queue head 0)) p.pushed
      ∙ sym (laid_more (λ j. outer_pairs t home b (get_or queue j 0)) head)
      ∙ laid_cong (λ j. outer_pairs t home b (get_or queue j 0)) (λ j. outer_pairs t home b (get_or qs j 0)) (head + 1)
      (λ j w. ap (outer_pairs t home b) (sym (kept j (omega (arith, w)))))
