-- The successors of a state, row by row, and the loop that pushes them.
use Rattle.std.specs.Prelude.{◌≡◌, ℕ, zero, suc, ◌+◌, ◌<◌, ◌≤◌, Bool, true, false, cond, not, eqb, ◌⊎◌, List, [], ◌∷◌, ◌++◌, length, get_or, set}
use mathlib.Core.Path.{refl, sym, ap, ◌∙◌, subst}
use mathlib.Core.Logic.{inl, inr, ⊎_elim}
use mathlib.Core.List.Memᴰ
use mathlib.Core.List.{append-nil}
use native.Mathlib.Nat.{eq-or-lt_of_le}
use native.Mathlib.Numerals.{add-one}
use native.Mathlib.Omega.{arith}
use borrow.Author.Tests.{eq-eqb, ne_eqb}
use lib.ListN.{length-append}
use lib.Seq.{get_or-set_same, get_or-set_other}
use Rattle.columns.specs.Columns.{listed}
use Rattle.columns.specs.Rows.{rows_of}
use Rattle.columns.specs.Sets.{Mem, Row}
use Rattle.table.specs.Reach.{takes}
use Rattle.table.specs.Stretch.{StretchOf}
use Rattle.table.specs.Lts.{Lts}
use Rattle.table.proofs.RowsOf.{Own}
use Rattle.columns.proofs.Bools.{and_no_left, and_no_right}
use Rattle.table_order.specs.Order.{counts, own_counts, succs}
use Rattle.table_order.specs.Machine.{stack_of, push_all, keep, new_in}
use Rattle.table_order.specs.Turn.{seen_of, AllPushed}
use Rattle.table_order.proofs.Turns.{new_in_yes, new_in_no}
use Rattle.table_order.proofs.Successors.{of_counts}

-- ---- the mark of a row's target
module _ (hidden : Bool) (s : ℕ) (marks : List ℕ) (a u : ℕ) where
  pub seen_skipped : takes hidden a ≡ false → 2 ≡ seen_of hidden s marks a u
  unfolding seen_of counts
  seen_skipped e = rw (and_no_left (takes hidden a) (not (eqb u s)) e)

  pub seen_loop : u ≡ s → 2 ≡ seen_of hidden s marks a u
  unfolding seen_of counts
  seen_loop e = rw (and_no_right (takes hidden a) (not (eqb u s)) (ap not (eq-eqb u s e)))

  pub seen_mark : (x v : ℕ) → takes hidden a ≡ true → x ≡ u → (x ≡ s → ⊥) → v ≡ get_or marks x 0 → v ≡ seen_of hidden s marks a u
  unfolding seen_of
  seen_mark x v k e f h = rw (of_counts hidden s a u k (λ q. f (e ∙ sym q))) (h ∙ ap (λ (y : ℕ). get_or marks y 0) e)

-- ---- what is appended
succs-append : (hidden : Bool) (a b : List Row) (s : ℕ) → succs hidden (a ++ b) s ≡ succs hidden a s ++ succs hidden b s
unfolding succs
succs-append hidden [] b s = refl
succs-append hidden (r ∷ rs) b s = go (succs-append hidden rs b s) (own_counts hidden s r)
  where
    go : succs hidden (rs ++ b) s ≡ succs hidden rs s ++ succs hidden b s → (c : Bool)
        → cond c (r.1.1 ∷ succs hidden (rs ++ b) s) (succs hidden (rs ++ b) s) ≡ cond c (r.1.1 ∷ succs hidden rs s)
        (succs hidden rs s) ++ succs hidden b s
    go ih true = ap (λ (l : List ℕ). r.1.1 ∷ l) ih
    go ih false = ih

keep_append : (p : ℕ → Bool) (a b : List ℕ) → keep p (a ++ b) ≡ keep p a ++ keep p b
unfolding keep
keep_append p [] b = refl
keep_append p (x ∷ xs) b = go (keep_append p xs b) (p x)
  where
    go : keep p (xs ++ b) ≡ keep p xs ++ keep p b → (c : Bool) → cond c (x ∷ keep p (xs ++ b)) (keep p (xs ++ b)) ≡ cond c (x ∷ keep p xs)
        (keep p xs) ++ keep p b
    go ih true = ap (λ (l : List ℕ). x ∷ l) ih
    go ih false = ih

push_snoc : (cs st : List ℕ) (c : ℕ) → push_all (cs ++ (c ∷ [])) st ≡ c ∷ push_all cs st
unfolding push_all
push_snoc [] st c = refl
push_snoc (x ∷ xs) st c = push_snoc xs (x ∷ st) c

-- one more candidate: pushed if it is new
push_new : (marks l base : List ℕ) (t : ℕ) → new_in marks t ≡ true →
    push_all (keep (new_in marks) (l ++ (t ∷ []))) base ≡ t ∷ push_all (keep (new_in marks) l) base
unfolding keep
push_new marks l base t e = rw (keep_append (new_in marks) l (t ∷ []), e) (push_snoc (keep (new_in marks) l) base t)

push_old : (marks l base : List ℕ) (t : ℕ) → new_in marks t ≡ false →
    push_all (keep (new_in marks) (l ++ (t ∷ []))) base ≡ push_all (keep (new_in marks) l) base
unfolding keep
push_old marks l base t e = rw (keep_append (new_in marks) l (t ∷ []), e, append-nil (keep (new_in marks) l))

-- ---- the stack in the slice
pub stack_length : (i : ℕ) (a : List ℕ) → length (stack_of i a) ≡ i
unfolding stack_of
stack_length zero a = refl
stack_length (suc i) a = ap suc (stack_length i a)

stack_above : (i j x : ℕ) (a : List ℕ) → i ≤ j → stack_of i (set a j x) ≡ stack_of i a
unfolding stack_of
stack_above zero j x a h = refl
stack_above (suc i) j x a h = rw (get_or-set_other a j i x 0 (λ e. omega (arith, e, h)), stack_above i j x a (omega arith))

pub stack_push : (i x : ℕ) (a : List ℕ) → i < length a → stack_of (i + 1) (set a i x) ≡ x ∷ stack_of i a
unfolding stack_of
stack_push i x a h = rw (add-one, get_or-set_same a i x 0 h, stack_above i i x a (omega arith))

stack_cons : (i : ℕ) (a : List ℕ) → stack_of (suc i) a ≡ get_or a i 0 ∷ stack_of i a
unfolding stack_of
stack_cons i a = refl

pub stack_top : (i j : ℕ) (a : List ℕ) → i ≡ suc j → stack_of i a ≡ get_or a j 0 ∷ stack_of j a
stack_top i j a e = rw e (stack_cons j a)

-- ---- the loop over the rows, once the successors l are looked at
pub record Offer (l marks base stack : List ℕ) (top₀ top : ℕ) : Type 0 where
  pub pushed : stack_of top stack ≡ push_all (keep (new_in marks) l) base
  pub clean : (t : ℕ) → Mem t l → get_or marks t 0 ≡ 1 → ⊥
  pub most : top ≤ top₀ + length l

offer_none : (marks stack : List ℕ) (top : ℕ) → Offer [] marks (stack_of top stack) stack top top
unfolding keep push_all
offer_none marks stack top = record { pushed = refl; clean = λ t p. absurd (Memᴰ.not-nil p); most = omega arith }

module _ (l marks base stack : List ℕ) (top₀ top : ℕ) (o : Offer l marks base stack top₀ top) where
  still_clean : (t : ℕ) → (get_or marks t 0 ≡ 1 → ⊥) → (u : ℕ) → Mem u (l ++ (t ∷ [])) → get_or marks u 0 ≡ 1 → ⊥
  still_clean t g u p = ⊎_elim (λ q. o.clean u q) (λ q e. g (subst (λ (x : ℕ). get_or marks x 0 ≡ 1) (Memᴰ.eq_of_singleton q) e))
      (Memᴰ.append_cases l p)

  offer_old : (t : ℕ) → (get_or marks t 0 ≡ 0 → ⊥) → (get_or marks t 0 ≡ 1 → ⊥) → Offer (l ++ (t ∷ [])) marks base stack top₀ top
  offer_old t f g = record {
    pushed = o.pushed ∙ sym (push_old marks l base t (new_in_no marks t f));
    clean = still_clean t g;
    most = omega (arith, o.most, length-append l (t ∷ []));
  }

  offer_new : (t : ℕ) → get_or marks t 0 ≡ 0 → top < length stack → Offer (l ++ (t ∷ [])) marks base (set stack top t) top₀ (top + 1)
  offer_new t e h = record {
    pushed = stack_push top t stack h ∙ (ap (λ (c : List ℕ). t ∷ c) o.pushed ∙ sym (push_new marks l base t (new_in_yes marks t e)));
    clean = still_clean t (λ d. omega (arith, e, d));
    most = omega (arith, o.most, length-append l (t ∷ []));
  }

-- the successors of s among the first i rows
abbrev pub sofar : Bool → List ℕ → List ℕ → List ℕ → ℕ → ℕ → List ℕ
sofar hidden source label target s i = succs hidden (rows_of i source label target) s

module _ (hidden : Bool) (source label target : List ℕ) (s : ℕ) where
  abbrev S : ℕ → List ℕ
  S i = sofar hidden source label target s i

  abbrev test : ℕ → Bool
  test i = counts hidden s (get_or label i 0) (get_or target i 0)

  abbrev seen : List ℕ → ℕ → ℕ
  seen marks i = seen_of hidden s marks (get_or label i 0) (get_or target i 0)

  none_yet : S 0 ≡ []
  unfolding rows_of listed succs
  none_yet = refl

  -- one more row, of s or of another state
  row_own : (i : ℕ) → get_or source i 0 ≡ s → S (i + 1) ≡ S i ++ cond (test i) (get_or target i 0 ∷ []) []
  unfolding rows_of listed succs own_counts
  row_own i e = rw (
    add-one,
    succs-append hidden (rows_of i source label target) ((get_or source i 0, (get_or label i 0, get_or target i 0)) ∷ [])
        s,
    eq-eqb (get_or source i 0) s e,
  )

  row_other : (i : ℕ) → (get_or source i 0 ≡ s → ⊥) → S (suc i) ≡ S i
  unfolding rows_of listed succs own_counts
  row_other i f =
      rw (
        succs-append hidden (rows_of i source label target) ((get_or source i 0, (get_or label i 0, get_or target i 0)) ∷ []) s,
        ne_eqb (get_or source i 0) s f,
      )
      (append-nil (S i))

  -- later rows only add successors
  record Grows (i m : ℕ) : Type 0 where
    size : length (S i) ≤ length (S m)
    keeps : (t : ℕ) → Mem t (S i) → Mem t (S m)

  grows_more : (i : ℕ) → Grows i (suc i)
  unfolding rows_of listed
  grows_more i =
      let r : List Row = (get_or source i 0, (get_or label i 0, get_or target i 0)) ∷ [] in
      let e : S (suc i) ≡ S i ++ succs hidden r s = succs-append hidden (rows_of i source label target) r s in
      record {
        size = omega (arith, ap length e, length-append (S i) (succs hidden r s));
        keeps = λ t p. rw e (Memᴰ.append_left (succs hidden r s) p);
      }

  grows : (i m : ℕ) → i ≤ m → Grows i m
  grows i zero h = subst (λ (k : ℕ). Grows i k) (zero_is h) record { size = omega arith; keeps = λ t p. p }
    where
      zero_is : {i : ℕ} → i ≤ 0 → i ≡ 0
      zero_is h = omega arith
  grows i (suc m) h = go (grows i m) (eq-or-lt_of_le h)
    where
      go : (i ≤ m → Grows i m) → (i ≡ suc m) ⊎ (i < suc m) → Grows i (suc m)
      go ih (inl e) = subst (λ (k : ℕ). Grows i k) e record { size = omega arith; keeps = λ t p. p }
      go ih (inr l) =
          let a : Grows i m = ih (omega arith) in
          let b : Grows m (suc m) = grows_more m in
          record { size = omega (arith, a.size, b.size); keeps = λ t p. b.keeps t (a.keeps t p) }

  -- ---- a row of s
  module _ (i : ℕ) (own : get_or source i 0 ≡ s) where
    row_hit : test i ≡ true → S (i + 1) ≡ S i ++ (get_or target i 0 ∷ [])
    row_hit p = row_own i own ∙ ap (λ (b : Bool). S i ++ cond b (get_or target i 0 ∷ []) []) p

    row_miss : test i ≡ false → S (i + 1) ≡ S i
    row_miss p = row_own i own ∙ (ap (λ (b : Bool). S i ++ cond b (get_or target i 0 ∷ []) []) p ∙ append-nil (S i))

    module _ (marks : List ℕ) (v : ℕ) (e : v ≡ seen_of hidden s marks (get_or label i 0) (get_or target i 0)) where
      pub offer_skip :
          (base stack : List ℕ) (top₀ top : ℕ) → Offer (sofar hidden source label target s i) marks base stack top₀ top → (v ≡ 0 → ⊥) →
          (v ≡ 1 → ⊥)
          → Offer (sofar hidden source label target s (i + 1)) marks base stack top₀ top
      unfolding seen_of
      offer_skip base stack top₀ top o f g = go (test i) refl e
        where
          go : (b : Bool) → test i ≡ b → v ≡ cond b (get_or marks (get_or target i 0) 0) 2 → Offer (S (i + 1)) marks base stack top₀ top
          go true p q = rw (row_hit p) (offer_old (S i) marks base stack top₀ top o (get_or target i 0) (λ j. f (q ∙ j)) (λ j. g (q ∙ j)))
          go false p q = rw (row_miss p) o

      pub offer_push :
          (base stack : List ℕ) (top₀ top : ℕ) → Offer (sofar hidden source label target s i) marks base stack top₀ top → v ≡ 0 →
          top < length stack
          → Offer (sofar hidden source label target s (i + 1)) marks base (set stack top (get_or target i 0)) top₀ (top + 1)
      unfolding seen_of
      offer_push base stack top₀ top o z h = go (test i) refl e
        where
          go : (b : Bool) → test i ≡ b → v ≡ cond b (get_or marks (get_or target i 0) 0) 2 →
              Offer (S (i + 1)) marks base (set stack top (get_or target i 0)) top₀ (top + 1)
          go true p q = rw (row_hit p) (offer_new (S i) marks base stack top₀ top o (get_or target i 0) (sym q ∙ z) h)
          go false p q = absurd (omega (arith, q, z))

      module _ (m : ℕ) (h : i < m) where
        push_room : v ≡ 0 → suc (length (sofar hidden source label target s i)) ≤ length (sofar hidden source label target s m)
        unfolding seen_of
        push_room z = go (test i) refl e
          where
            go : (b : Bool) → test i ≡ b → v ≡ cond b (get_or marks (get_or target i 0) 0) 2 → suc (length (S i)) ≤ length (S m)
            go true p q = omega (
              arith,
              (grows (i + 1) m (omega arith)).size,
              ap length (row_hit p),
              length-append (S i) (get_or target i 0 ∷ []),
            )
            go false p q = absurd (omega (arith, q, z))

        -- room for one more successor
        pub push_fits :
            v ≡ 0 → (base stack : List ℕ) (top₀ top : ℕ) → Offer (sofar hidden source label target s i) marks base stack top₀ top →
            (room : ℕ)
            → top₀ + length (sofar hidden source label target s m) ≤ room → top < room
        push_fits z base stack top₀ top o room l = omega (arith, push_room z, o.most, l)

        pub offer_clash : v ≡ 1 → (t : ℕ) × Mem t (S m) × (get_or marks t 0 ≡ 1)
        unfolding seen_of
        offer_clash z = go (test i) refl e
          where
            go : (b : Bool) → test i ≡ b → v ≡ cond b (get_or marks (get_or target i 0) 0) 2 → (t : ℕ) × Mem t (S m) × (get_or marks t 0 ≡ 1)
            go true p q = (
              get_or target i 0,
              (grows (i + 1) m (omega arith)).keeps (get_or target i 0) (rw (row_hit p) (Memᴰ.append_right (S i) (Memᴰ.head refl))),
              sym q ∙ z,
            )
            go false p q = absurd (omega (arith, q, z))

  -- ---- the rows of s are a stretch
  low : (k : ℕ) → ((i : ℕ) → i < k → get_or source i 0 ≡ s → ⊥) → S k ≡ []
  low zero f = none_yet
  low (suc k) f = row_other k (f k (omega arith)) ∙ low k (λ i h. f i (omega arith))

  high : (k m : ℕ) → k ≤ m → ((i : ℕ) → k ≤ i → i < m → get_or source i 0 ≡ s → ⊥) → S m ≡ S k
  high k zero h f = ap S (zero_is h)
    where
      zero_is : {k : ℕ} → k ≤ 0 → 0 ≡ k
      zero_is h = omega arith
  high k (suc m) h f =
      ⊎_elim (λ (e : k ≡ suc m). ap S (sym e)) (λ (l : k < suc m). row_other m (f m (omega arith) (omega arith)) ∙
      high k m (omega arith) (λ i a b. f i a (omega arith)))
      (eq-or-lt_of_le h)

  module _ (m first end : ℕ) (r : StretchOf (λ i. get_or source i 0) m s first end) where
    pub offer_start : (marks stack : List ℕ) (top : ℕ) →
        Offer (sofar hidden source label target s first) marks (stack_of top stack) stack top top
    offer_start marks stack top =
        rw (low first (λ i h q. omega (arith, h, ((r.exactly i (omega (arith, h, r.low, r.most))).0 q).0))) (offer_none marks stack top)

    pub offer_end :
        (i : ℕ) → i ≡ end → (marks before after : List ℕ) (top high : ℕ)
        → Offer (sofar hidden source label target s i) marks (stack_of top before) after top high →
        AllPushed (sofar hidden source label target s m) marks before after top high
    offer_end i q marks before after top high' o = record {
      clean = subst (λ (k : List ℕ). (t : ℕ) → Mem t k → get_or marks t 0 ≡ 1 → ⊥) e o.clean;
      pushed = o.pushed ∙ ap (λ (k : List ℕ). push_all (keep (new_in marks) k) (stack_of top before)) e;
    }
      where
        e : S i ≡ S m
        e = ap S q ∙ sym (high end m r.most (λ i a b j. omega (arith, a, ((r.exactly i b).0 j).1)))

-- ---- a row of the stretch of s
pub own_row_lem :
    (t : Lts) (s first end i : ℕ) → StretchOf (λ i. get_or t.source i 0) t.m s first end → first ≤ i → i < end → Own t s i
own_row_lem t s first end i r a b =
    let h : i < t.m = omega (arith, b, r.most) in record { below = h; own = (r.exactly i h).1 (a, b) }
