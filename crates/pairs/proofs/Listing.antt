-- Laws of 15 for given lists: starts first, then the pairs of each list.
use Rattle.std.specs.Prelude.{◌≡◌, ℕ, zero, suc, ◌+◌, ◌-◌, ◌<◌, ◌≤◌, Bool, true, false, ◌&&◌, ltb, leb, List, [], ◌∷◌}
use native.Mathlib.Omega.{arith}
use native.Mathlib.Nat.{eq-or-lt_of_le}
use borrow.Author.Tests.{ltb-true, lt-ltb, le-ltb}
use mathlib.Core.Path.{refl, ap, ap₂, sym, ◌∙◌}
use mathlib.Core.Logic.{⊎_elim}
use Rattle.columns.specs.Columns.{NeverFalls}
use Rattle.columns.specs.Limits.{wrong_list}
use Rattle.columns.specs.Answers.{none}
use Rattle.columns.specs.Counting.{first}
use Rattle.columns.specs.Due.{Test, test, due}
use Rattle.columns.specs.Sets.{Pair, pair_lt, Ascending}
use Rattle.columns.proofs.All.{top_or-below, lt-or-le, not-below}
use Rattle.columns.proofs.Bools.{contra, fails, cases, and_both, and_no_left, and_no_right, or_left, or_right}
use Rattle.columns.proofs.Chains.{Holds, passed}
use Rattle.columns.proofs.Counting.{first_law}
use Rattle.columns.proofs.Firsts.{NoneBelow, first_hit, first-none, none_of, some_in, some-none}
use Rattle.columns.proofs.Orders.{pair_order}
use Rattle.columns.proofs.Risings.{rising_of, ascending_of, of_ascending}
use Rattle.columns.specs.Rows.{pair_at}
use Rattle.pairs.specs.Pairs.{end_of, bad_pair, least_test}
use Rattle.pairs.specs.Lists.{start_at, list_at, bad_start, bad_in_lists, lists_tests, Starts, Lists}
use Rattle.pairs.proofs.Refusals.{least_of, of_least, pair_before, pair_above, above_pair}

-- ---- starts
module _ (starts : List ℕ) (end : ℕ) where
  pub start_past : (u : ℕ) → end < start_at starts u → true ≡ bad_start starts end u
  unfolding bad_start
  start_past u h = sym (or_right (ltb 0 u && ltb (start_at starts u) (start_at starts (u - 1))) (ltb end (start_at starts u))
      (lt-ltb end (start_at starts u) h))

  pub start_falls : (u : ℕ) → (u ≡ 0 → ⊥) → start_at starts u < start_at starts (u - 1) → true ≡ bad_start starts end u
  unfolding bad_start
  start_falls u n h =
      sym
      (or_left (ltb 0 u && ltb (start_at starts u) (start_at starts (u - 1))) (ltb end (start_at starts u))
      (and_both (lt-ltb 0 u (omega arith)) (lt-ltb (start_at starts u) (start_at starts (u - 1)) h)))

  pub start_right : (u : ℕ) → start_at starts u ≤ end → start_at starts (u - 1) ≤ start_at starts u → false ≡ bad_start starts end u
  unfolding bad_start
  start_right u h l =
      sym
      (rw (and_no_right (ltb 0 u) (ltb (start_at starts u) (start_at starts (u - 1))) (le-ltb (start_at starts u) (start_at starts (u - 1)) l))
      (le-ltb end (start_at starts u) h))

  module _ (n : ℕ) where
    inside_of : NoneBelow (bad_start starts end) (n + 1) → (u : ℕ) → u ≤ n → start_at starts u ≤ end
    inside_of r u h = not-below (λ l. contra (sym (start_past u l)) (r u (omega arith)))

    rising_starts : NoneBelow (bad_start starts end) (n + 1) → NeverFalls starts (n + 1)
    rising_starts r u zero h w = let e : u ≡ 0 = omega arith in omega (arith, ap (start_at starts) e)
    rising_starts r u (suc v) h w =
        ⊎_elim (λ (e : u ≡ suc v). omega (arith, ap (start_at starts) e))
        (λ (l : u < suc v).
        let back : suc v - 1 ≡ v = omega arith in
        let step : start_at starts v ≤ start_at starts (suc v)
        = not-below (λ k. contra (sym (start_falls (suc v) (λ z. omega (arith, z)) (omega (arith, k, ap (start_at starts) back))))
        (r (suc v) (omega arith))) in
        omega (arith, rising_starts r u v (omega arith) (omega arith), step))
        (eq-or-lt_of_le h)

    -- no start is bad exactly if they never fall and none is past the end
    pub starts_of : NoneBelow (bad_start starts end) (n + 1) → Starts starts n end
    starts_of r = record { rising = rising_starts r; inside = inside_of r }

    pub of_starts : Starts starts n end → NoneBelow (bad_start starts end) (n + 1)
    of_starts s u h = sym (start_right u (s.inside u (omega arith)) (s.rising (u - 1) u (omega arith) (omega arith)))

-- ---- the pairs of each list
module _ (starts labels blocks : List ℕ) where
  -- the first u lists ascend
  abbrev pub Clean : ℕ → Type 0
  Clean u = (v : ℕ) → v < u → NoneBelow (bad_pair labels blocks (start_at starts v)) (start_at starts (v + 1))

  -- pair j lies in list u and is bad there
  abbrev pub bad_in : ℕ → ℕ → Bool
  bad_in j u = ltb j (start_at starts (u + 1)) && bad_pair labels blocks (start_at starts u) j

  pub clean_more : (u bad to : ℕ) → to ≡ start_at starts (u + 1) → bad ≡ first to (bad_pair labels blocks (start_at starts u)) → to ≤ bad →
      Clean u → Clean (u + 1)
  clean_more u bad to e d h c v w j l =
      ⊎_elim
      (λ (q : v ≡ u).
      ap (λ (k : ℕ). bad_pair labels blocks (start_at starts k) j) q
      ∙ none_of to (bad_pair labels blocks (start_at starts u)) (omega (arith, d)) j
      (omega (arith, l, ap (λ (k : ℕ). start_at starts (k + 1)) q)))
      (λ (q : v < u). c v q j l) (top_or-below (omega (arith, w)))

  -- where pair j of a list is not bad, it is not bad in that list
  not_in : (j u : ℕ) → (j < start_at starts (u + 1) → bad_pair labels blocks (start_at starts u) j ≡ false) → bad_in j u ≡ false
  not_in j u h =
      ⊎_elim (λ (e : ltb j (start_at starts (u + 1)) ≡ true). and_no_right (ltb j (start_at starts (u + 1)))
      (bad_pair labels blocks (start_at starts u) j) (h (ltb-true _ _ e)))
      (λ (e : ltb j (start_at starts (u + 1)) ≡ false). and_no_left (ltb j (start_at starts (u + 1)))
      (bad_pair labels blocks (start_at starts u) j) e)
      (cases (ltb j (start_at starts (u + 1))))

  module _ (n end : ℕ) where
    clean_lists : Clean n → NoneBelow (bad_in_lists starts n labels blocks) end
    unfolding bad_in_lists
    clean_lists c j l = some-none n (bad_in j) (λ u h. not_in j u (λ w. c u h j w))

    pub clean_end : Clean n → end ≡ first end (bad_in_lists starts n labels blocks)
    clean_end c = first-none end (bad_in_lists starts n labels blocks) (clean_lists c)

    pub clean_hit : Starts starts n end → (u bad to : ℕ) → u < n → to ≡ start_at starts (u + 1) →
        bad ≡ first to (bad_pair labels blocks (start_at starts u))
        → bad < to → Clean u → bad ≡ first end (bad_in_lists starts n labels blocks)
    unfolding bad_in_lists
    clean_hit s u bad to h e d l c =
        let law = first_law to (bad_pair labels blocks (start_at starts u)) in
        let hit : bad_pair labels blocks (start_at starts u) bad ≡ true
        = ap (bad_pair labels blocks (start_at starts u)) d ∙ law.hit (omega (arith, d, l)) in
        first_hit end (bad_in_lists starts n labels blocks) bad (omega (arith, s.inside (u + 1) (omega arith)))
        (λ k w. some-none n (bad_in k)
        (λ v y. not_in k v
        (λ z. ⊎_elim (λ (q : v < u). c v q k z)
        (λ (q : u ≤ v). ⊎_elim
        (λ (p : u ≡ v). ap (λ (i : ℕ). bad_pair labels blocks (start_at starts i) k) (sym p) ∙ law.before k (omega (arith, d, w)))
        (λ (p : u < v). pair_before labels blocks (start_at starts v) k
        (omega (arith, s.rising (u + 1) v (omega arith) (omega arith), e, l, w)))
        (eq-or-lt_of_le q))
        (lt-or-le v u))))
        (some_in n (bad_in bad) u h (and_both (lt-ltb bad (start_at starts (u + 1)) (omega arith)) hit))

  -- ---- a list ascends exactly if none of its pairs is bad
  module _ (u : ℕ) where
    next_place : (x j : ℕ) → suc (x + j) ≡ x + suc j
    next_place x j = omega arith

    pub ascends_of : NoneBelow (bad_pair labels blocks (start_at starts u)) (start_at starts (u + 1)) →
        Ascending pair_lt (list_at starts labels blocks u)
    unfolding list_at
    ascends_of r =
        let x = start_at starts u in
        let f : ℕ → Pair = λ k. pair_at labels blocks (x + k) in
        ascending_of pair_lt (start_at starts (u + 1) - x) f
        (rising_of pair_lt pair_order (start_at starts (u + 1) - x) f
        (λ j h.
        ap (λ (k : ℕ). pair_lt (pair_at labels blocks (x + j)) (pair_at labels blocks k)) (sym (next_place x j))
        ∙ pair_above labels blocks x (x + j) (omega arith) (r (suc (x + j)) (omega (arith, h)))))

    pub of_ascends : Ascending pair_lt (list_at starts labels blocks u) →
        NoneBelow (bad_pair labels blocks (start_at starts u)) (start_at starts (u + 1))
    unfolding list_at
    of_ascends a zero h = pair_before labels blocks (start_at starts u) 0 (omega arith)
    of_ascends a (suc j) h =
        let x = start_at starts u in
        let f : ℕ → Pair = λ k. pair_at labels blocks (x + k) in
        ⊎_elim (λ (l : j < x). pair_before labels blocks x (suc j) (omega arith))
        (λ (l : x ≤ j).
        let p : x + (j - x) ≡ j = omega arith in
        let q : x + suc (j - x) ≡ suc j = omega arith in
        above_pair labels blocks x j
        (ap₂ (λ (y z : ℕ). pair_lt (pair_at labels blocks y) (pair_at labels blocks z)) (sym p) (sym q)
        ∙ of_ascending pair_lt (start_at starts (u + 1) - x) f a (j - x) (suc (j - x)) (omega arith) (omega (arith, l, h))))
        (lt-or-le j x)

-- ---- a call is not refused for its lists exactly if they are in range and ascend
module _ (starts : List ℕ) (n : ℕ) (labels blocks : List ℕ) where
  clean_of : Starts starts n (end_of labels blocks) → NoneBelow (bad_in_lists starts n labels blocks) (end_of labels blocks) →
      Clean starts labels blocks n
  unfolding bad_in_lists
  clean_of s r u h j l =
      fails (λ e. contra (some_in n (bad_in starts labels blocks j) u h (and_both (lt-ltb j (start_at starts (u + 1)) l) e))
      (r j (omega (arith, l, s.inside (u + 1) (omega arith)))))

  pub lists_of : Holds (lists_tests starts n labels blocks) → Lists starts n labels blocks
  lists_of h =
      let s = starts_of starts (end_of labels blocks) n (least_of (n + 1) (bad_start starts (end_of labels blocks)) h.0) in
      let r = least_of (end_of labels blocks) (bad_in_lists starts n labels blocks) h.1.0 in
      record { bounds = s; ascending = λ u w. ascends_of starts labels blocks u (clean_of s r u w) }

  pub of_lists : Lists starts n labels blocks → Holds (lists_tests starts n labels blocks)
  of_lists l = (
    of_least (n + 1) (bad_start starts (end_of labels blocks)) (of_starts starts (end_of labels blocks) n l.bounds),
    (
      of_least (end_of labels blocks) (bad_in_lists starts n labels blocks)
          (clean_lists starts labels blocks n (end_of labels blocks) (λ u h. of_ascends starts labels blocks u (l.ascending u h))),
      tt,
    ),
  )

  -- ---- the two tests, as they are made: which start is bad, and which pair
  abbrev pub starts_test : Test
  starts_test = least_test (n + 1) (bad_start starts (end_of labels blocks))

  abbrev pub pairs_test : Test
  pairs_test = least_test (end_of labels blocks) (bad_in_lists starts n labels blocks)

  module _ (end bad : ℕ) (ends : end ≡ end_of labels blocks) (found : bad ≡ first (n + 1) (bad_start starts end)) where
    pub starts_asked : due (test (ltb n bad) wrong_list bad ∷ []) ≡ due (starts_test ∷ [])
    starts_asked =
        let more : suc n ≡ n + 1 = omega arith in
        ap (λ (m : ℕ). due (test (leb m bad) wrong_list bad ∷ [])) more
        ∙ ap (λ (k : ℕ). due (test (leb (n + 1) k) wrong_list k ∷ [])) (found ∙ ap (λ (e : ℕ). first (n + 1) (bad_start starts e)) ends)

    pub starts_found : none ≡ due (test (ltb n bad) wrong_list bad ∷ []) → Starts starts n end
    starts_found e =
        let h : n < bad = ltb-true n bad (passed (test (ltb n bad) wrong_list bad ∷ []) refl none e refl).0 in
        starts_of starts end n (none_of (n + 1) (bad_start starts end) (omega (arith, found)))

    pub pairs_asked : (i : ℕ) → i ≡ first end (bad_in_lists starts n labels blocks)
        → due (test (leb end i) wrong_list i ∷ []) ≡ due (pairs_test ∷ [])
    pairs_asked i e =
        ap (λ (k : ℕ). due (test (leb end k) wrong_list k ∷ [])) e
        ∙ ap (λ (k : ℕ). due (least_test k (bad_in_lists starts n labels blocks) ∷ [])) ends
