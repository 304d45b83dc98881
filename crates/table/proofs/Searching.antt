-- Laws of the search: how it starts, what a new state and a finished one add, and what stands at its end.
use Rattle.std.specs.Prelude.{◌≡◌, ℕ, suc, ◌+◌, ◌<◌, ◌≤◌, Bool, true, false, cond, ◌&&◌, eqb, leb, ◌⊎◌, ◌↔◌, List, [], ◌∷◌, length, get_or, set}
use mathlib.Core.Path.{refl, sym, ap, ◌∙◌, subst}
use mathlib.Core.Logic.{inl, inr, ⊎_elim}
use native.Mathlib.Omega.{arith}
use borrow.Author.Tests.{eqb-true, eqb-false, eq-eqb, ne_eqb, leb-true}
use lib.ListN.{length-set, length-replicate}
use lib.Seq.{get_or-set_other, ext_get_or}
use Rattle.columns.specs.Columns.{listed, zeros}
use Rattle.columns.specs.Counting.{many, bit}
use Rattle.columns.proofs.All.{top_or-below, same_or_not}
use Rattle.columns.proofs.Bools.{and_left, and_right, bool_ext}
use Rattle.columns.proofs.Counting.{many_one_more, many_cong, many-le, many_nothing}
use Rattle.columns.proofs.Lists.{length-listed, listed_at, zeros_at, set_here}
use Rattle.columns.proofs.Rooms.{roomy_of}
use Rattle.table.specs.Lts.{Lts, Valid}
use Rattle.table.specs.Checks.{works_long}
use Rattle.table.specs.Reach.{Walk, stop, along, some_row, edge, reaches, reach_refusal}
use Rattle.table.specs.Search.{Search, appended}
use Rattle.table.specs.Stretch.{StretchOf}
use Rattle.table.proofs.Refusals.{asked_of}
use Rattle.table.proofs.Walks.{joined, edge_row, row_edge, reaches_walk}

module _ (edge : ℕ → ℕ → Bool) (n : ℕ) where
  -- ---- the start
  module _ (s : ℕ) (queue : List ℕ) (h : s < n) (room : n ≤ length queue) where
    marks₀ : List ℕ
    marks₀ = set (zeros n) s 1

    mark_here : (u : ℕ) → u ≡ s → get_or marks₀ u 0 ≡ 1
    unfolding marks₀
    mark_here u e = set_here (zeros n) s 1 u (omega (arith, h, length-replicate {A = ℕ} n 0)) e

    mark_else : (u : ℕ) → (u ≡ s → ⊥) → get_or marks₀ u 0 ≡ 0
    unfolding marks₀
    mark_else u o = get_or-set_other (zeros n) s u 1 0 o ∙ zeros_at n u

    mark_only : (u : ℕ) → get_or marks₀ u 0 ≡ 1 → u ≡ s
    mark_only u e = ⊎_elim (λ (q : u ≡ s). q) (λ (o : u ≡ s → ⊥). absurd (omega (arith, e, mark_else u o))) (same_or_not u s)

    queue_first : (k : ℕ) → k < 1 → get_or (set queue 0 s) k 0 ≡ s
    queue_first k w = set_here queue 0 s k (omega arith) (omega arith)

    pub search_start : Search edge n s (set (zeros n) s 1) (set queue 0 s) 0 1
    unfolding marks₀
    search_start = record {
      size = simp length-set (length-replicate {A = ℕ} n 0);
      room = simp length-set room;
      some = omega arith;
      low = omega arith;
      first = queue_first 0 (omega arith);
      flags = λ u. ⊎_elim (λ (q : u ≡ s). omega (arith, mark_here u q)) (λ (o : u ≡ s → ⊥). omega (arith, mark_else u o)) (same_or_not u s);
      counted =
          sym
          (many_one_more n s (λ _. false) (λ u. eqb (get_or marks₀ u 0) 1) h refl (eq-eqb _ _ (mark_here s refl))
          (λ k o. ne_eqb _ _ (λ e. o (mark_only k e)))
          ∙ ap suc (many_nothing n (λ _. false) (λ k w. refl)));
      state = λ k w. omega (arith, queue_first k w, h);
      once = λ i j a c e. omega (arith, a, c);
      marked = λ k w. mark_here (get_or (set queue 0 s) k 0) (queue_first k w);
      queued = λ u e. (0, omega arith, queue_first 0 (omega arith) ∙ sym (mark_only u e));
      sound = λ u e. subst (λ (x : ℕ). Walk edge s x) (sym (mark_only u e)) stop;
      closed = λ k w. absurd (omega (arith, w));
    }

  module _ (start : ℕ) (marks queue : List ℕ) (head tail : ℕ) (s : Search edge n start marks queue head tail) where
    pub search_few : tail ≤ n
    search_few = omega (arith, s.counted, many-le n (λ u. eqb (get_or marks u 0) 1))

    -- ---- a new state
    module _ (u : ℕ) (h : u < n) (z : get_or marks u 0 ≡ 0) (w : Walk edge start u) where
      marks' : List ℕ
      marks' = set marks u 1

      new_here : (k : ℕ) → k ≡ u → get_or marks' k 0 ≡ 1
      unfolding marks'
      new_here k e = set_here marks u 1 k (omega (arith, h, s.size)) e

      new_else : (k : ℕ) → (k ≡ u → ⊥) → get_or marks' k 0 ≡ get_or marks k 0
      unfolding marks'
      new_else k o = get_or-set_other marks u k 1 0 o

      grows : (k : ℕ) → get_or marks k 0 ≡ 1 → get_or marks' k 0 ≡ 1
      grows k e = ⊎_elim (λ (q : k ≡ u). new_here k q) (λ (o : k ≡ u → ⊥). new_else k o ∙ e) (same_or_not k u)

      counts : many n (λ k. eqb (get_or marks' k 0) 1) ≡ suc tail
      counts =
          many_one_more n u (λ k. eqb (get_or marks k 0) 1) (λ k. eqb (get_or marks' k 0) 1) h
          (ne_eqb (get_or marks u 0) 1 (λ e. omega (arith, e, z)))
          (eq-eqb _ _ (new_here u refl)) (λ k o. ap (λ (x : ℕ). eqb x 1) (new_else k o))
          ∙ ap suc (sym s.counted)

      pub search_room : tail < n
      search_room = omega (arith, counts, many-le n (λ k. eqb (get_or marks' k 0) 1))

      fits : tail < length queue
      fits = omega (arith, search_room, s.room)

      old_queue : (k : ℕ) → k < tail → get_or (set queue tail u) k 0 ≡ get_or queue k 0
      old_queue k l = get_or-set_other queue tail k u 0 (λ e. omega (arith, l, e))

      -- a state that is not marked stands nowhere in the queue
      unseen : (k : ℕ) → k < tail → get_or queue k 0 ≡ u → ⊥
      unseen k l e = omega (arith, s.marked k l, ap (λ (x : ℕ). get_or marks x 0) e, z)

      pub search_add : Search edge n start (set marks u 1) (set queue tail u) head (tail + 1)
      unfolding marks'
      search_add = record {
        size = simp length-set s.size;
        room = simp length-set s.room;
        some = omega arith;
        low = omega (arith, s.low);
        first = old_queue 0 s.some ∙ s.first;
        flags = λ k. ⊎_elim (λ (q : k ≡ u). omega (arith, new_here k q)) (λ (o : k ≡ u → ⊥). omega (arith, new_else k o, s.flags k))
            (same_or_not k u);
        counted = omega (arith, counts);
        state = λ k l.
            ⊎_elim (λ (q : k ≡ tail). omega (arith, set_here queue tail u k fits q, h))
            (λ (m : k < tail). omega (arith, old_queue k m, s.state k m))
            (top_or-below (omega (arith, l)));
        once = λ i j a c e.
            ⊎_elim
            (λ (p : i ≡ tail).
            ⊎_elim (λ (q : j ≡ tail). p ∙ sym q)
            (λ (q : j < tail). absurd (unseen j q (sym (old_queue j q) ∙ sym e ∙ set_here queue tail u i fits p)))
            (top_or-below (omega (arith, c))))
            (λ (p : i < tail).
            ⊎_elim (λ (q : j ≡ tail). absurd (unseen i p (sym (old_queue i p) ∙ e ∙ set_here queue tail u j fits q)))
            (λ (q : j < tail). s.once i j p q (sym (old_queue i p) ∙ e ∙ old_queue j q)) (top_or-below (omega (arith, c))))
            (top_or-below (omega (arith, a)));
        marked = λ k l.
            ⊎_elim (λ (q : k ≡ tail). new_here (get_or (set queue tail u) k 0) (set_here queue tail u k fits q))
            (λ (m : k < tail). ap (λ (x : ℕ). get_or marks' x 0) (old_queue k m) ∙ grows (get_or queue k 0) (s.marked k m))
            (top_or-below (omega (arith, l)));
        queued = λ k e. have k (same_or_not k u) e;
        sound = λ k e.
            ⊎_elim (λ (q : k ≡ u). subst (λ (x : ℕ). Walk edge start x) (sym q) w)
            (λ (o : k ≡ u → ⊥). s.sound k (sym (new_else k o) ∙ e)) (same_or_not k u);
        closed = λ k l x e.
            grows x (s.closed k l x (subst (λ (y : ℕ). edge y x ≡ true) (old_queue k (omega (arith, l, s.low))) e));
      }
        where
          have : (k : ℕ) → (k ≡ u) ⊎ (k ≡ u → ⊥) → get_or marks' k 0 ≡ 1 → (j : ℕ) × (j < tail + 1) × (get_or (set queue tail u) j 0 ≡ k)
          have k (inl q) e = (tail, omega arith, set_here queue tail u tail fits refl ∙ sym q)
          have k (inr o) e = let r = s.queued k (sym (new_else k o) ∙ e) in (r.0, omega (arith, r.1), old_queue r.0 r.1 ∙ r.2)

    -- ---- a finished state
    pub search_next : head < tail → ((u : ℕ) → edge (get_or queue head 0) u ≡ true → get_or marks u 0 ≡ 1)
        → Search edge n start marks queue (head + 1) tail
    search_next h f = record {
      size = s.size;
      room = s.room;
      some = s.some;
      low = omega arith;
      first = s.first;
      flags = s.flags;
      counted = s.counted;
      state = s.state;
      once = s.once;
      marked = s.marked;
      queued = s.queued;
      sound = s.sound;
      closed = λ k l u e.
          ⊎_elim (λ (q : k ≡ head). f u (subst (λ (j : ℕ). edge (get_or queue j 0) u ≡ true) q e)) (λ (m : k < head). s.closed k m u e)
          (top_or-below (omega (arith, l)));
    }

    -- ---- the end: a state is found exactly if there is a walk to it
    module _ (e : tail ≤ head) where
      follow : {x u : ℕ} → Walk edge x u → get_or marks x 0 ≡ 1 → get_or marks u 0 ≡ 1
      follow stop m = m
      follow (along {s = x} {u = y} {v = u} g w) m =
          let r = s.queued x m in
          follow w (s.closed r.0 (omega (arith, e, r.1)) y (subst (λ (z : ℕ). edge z y ≡ true) (sym r.2) g))

      pub search_found : (u : ℕ) → (get_or marks u 0 ≡ 1) ↔ Walk edge start u
      search_found u = (s.sound u, λ w. follow w (ap (λ (x : ℕ). get_or marks x 0) (sym s.first) ∙ s.marked 0 s.some))

-- ---- the states that a state reaches
module _ (t : Lts) (hidden : Bool) (v : Valid t) (start : ℕ) (marks queue : List ℕ) (head tail : ℕ)
    (s : Search (edge t hidden) t.n start marks queue head tail) (e : tail ≤ head) where
  marked_is : (u : ℕ) → eqb (get_or marks u 0) 1 ≡ reaches t hidden start u
  marked_is u =
      let f = search_found (edge t hidden) t.n start marks queue head tail s e u in
      bool_ext _ _ (λ m. (reaches_walk t hidden v start u).1 (f.0 (eqb-true _ _ m)))
      (λ r. eq-eqb _ _ (f.1 ((reaches_walk t hidden v start u).0 r)))

  mark-bit : (x : ℕ) (b : Bool) → x ≤ 1 → eqb x 1 ≡ b → x ≡ bit b
  mark-bit x true h q = eqb-true x 1 q
  mark-bit x false h q = not_one h (eqb-false x 1 q)
    where
      not_one : {x : ℕ} → x ≤ 1 → (x ≡ 1 → ⊥) → x ≡ 0
      not_one h n = omega (arith, h, n)

  pub search_marks : marks ≡ listed t.n (λ u. bit (reaches t hidden start u))
  search_marks =
      ext_get_or 0 marks (listed t.n (λ u. bit (reaches t hidden start u)))
      (s.size ∙ sym (length-listed t.n (λ u. bit (reaches t hidden start u))))
      (λ u l. mark-bit (get_or marks u 0) (reaches t hidden start u) (s.flags u) (marked_is u)
      ∙ sym (listed_at t.n (λ u. bit (reaches t hidden start u)) u (omega (arith, l, s.size))))

  pub search_count : tail ≡ many t.n (reaches t hidden start)
  search_count = s.counted ∙ many_cong t.n (λ u. eqb (get_or marks u 0) 1) (reaches t hidden start) (λ u l. marked_is u)

-- ---- the rows of one state, from the first to the last, where a row that passes w is an edge
module _ (n m : ℕ) (source target : List ℕ) (w : ℕ → Bool) where
  -- the rows of x before i are seen; the queue is what it was, but for the cells that are appended
  pub record Visit (start x : ℕ) (queue₀ : List ℕ) (tail₀ : ℕ) (marks queue : List ℕ) (head tail i : ℕ) : Type 0 where
    pub search : Search (some_row m source target w) n start marks queue head tail
    pub ahead : head < tail₀
    pub more : tail₀ ≤ tail
    pub long : length queue ≡ length queue₀
    pub kept : (j : ℕ) → j < tail₀ → get_or queue j 0 ≡ get_or queue₀ j 0
    pub behind : (j : ℕ) → tail ≤ j → get_or queue j 0 ≡ get_or queue₀ j 0
    pub here : get_or queue₀ head 0 ≡ x
    pub passed : (j : ℕ) → j < i → get_or source j 0 ≡ x → w j ≡ true → get_or marks (get_or target j 0) 0 ≡ 1

  module _ (to : (i : ℕ) → i < m → get_or target i 0 < n) (start x : ℕ) (queue₀ : List ℕ) (tail₀ head : ℕ) where
    -- before the first row of x
    pub visit_start :
        (marks : List ℕ) (first end : ℕ) → StretchOf (λ i. get_or source i 0) m x first end
        → Search (some_row m source target w) n start marks queue₀ head tail₀ → head < tail₀ → get_or queue₀ head 0 ≡ x
        → Visit start x queue₀ tail₀ marks queue₀ head tail₀ first
    visit_start marks first end r s h q = record {
      search = s;
      ahead = h;
      more = omega arith;
      long = refl;
      kept = λ j l. refl;
      behind = λ j l. refl;
      here = q;
      passed = λ j l p. absurd (omega (arith, l, ((r.exactly j (omega (arith, l, r.low, r.most))).0 p).0));
    }

    module _ (marks queue : List ℕ) (tail i : ℕ) (c : Visit start x queue₀ tail₀ marks queue head tail i) where
      -- a row that leads to no new state
      pub visit_skip : (w i ≡ true → get_or marks (get_or target i 0) 0 ≡ 1) → Visit start x queue₀ tail₀ marks queue head tail (i + 1)
      visit_skip old = record {
        search = c.search;
        ahead = c.ahead;
        more = c.more;
        long = c.long;
        kept = c.kept;
        behind = c.behind;
        here = c.here;
        passed = λ j l p k.
            ⊎_elim (λ (e : j ≡ i). subst (λ (y : ℕ). get_or marks (get_or target y 0) 0 ≡ 1) (sym e) (old (subst (λ (y : ℕ). w y ≡ true) e k)))
            (λ (o : j < i). c.passed j o p k) (top_or-below (omega (arith, l)));
      }

      module _ (l : i < m) (q : get_or source i 0 ≡ x) (f : w i ≡ true) where
        walk_to : Walk (some_row m source target w) start (get_or target i 0)
        walk_to =
            joined (some_row m source target w)
            (subst (λ (y : ℕ). Walk (some_row m source target w) start y) (c.kept head c.ahead ∙ c.here)
            (c.search.sound (get_or queue head 0) (c.search.marked head (omega (arith, c.ahead, c.more)))))
            (along (row_edge m source target w x (get_or target i 0) i l q refl f) stop)

        module _ (new : get_or marks (get_or target i 0) 0 ≡ 0) where
          pub visit_room : tail < n
          visit_room = search_room (some_row m source target w) n start marks queue head tail c.search (get_or target i 0) (to i l) new
              walk_to

          visit_take : Visit start x queue₀ tail₀ (set marks (get_or target i 0) 1) (set queue tail (get_or target i 0)) head (tail + 1) (i + 1)
          visit_take = record {
            search = search_add (some_row m source target w) n start marks queue head tail c.search (get_or target i 0) (to i l) new
                walk_to;
            ahead = c.ahead;
            more = omega (arith, c.more);
            long = length-set queue tail (get_or target i 0) ∙ c.long;
            kept = λ j o. get_or-set_other queue tail j (get_or target i 0) 0 (λ e. omega (arith, o, e, c.more)) ∙ c.kept j o;
            behind = λ j o. get_or-set_other queue tail j (get_or target i 0) 0 (λ e. omega (arith, o, e)) ∙ c.behind j (omega (arith, o));
            here = c.here;
            passed = λ j o p k.
                ⊎_elim (λ (e : j ≡ i). mark (get_or target j 0) (ap (λ (y : ℕ). get_or target y 0) e))
                (λ (g : j < i). grow (get_or target j 0) (c.passed j g p k)) (top_or-below (omega (arith, o)));
          }
            where
              mark : (y : ℕ) → y ≡ get_or target i 0 → get_or (set marks (get_or target i 0) 1) y 0 ≡ 1
              mark y e = set_here marks (get_or target i 0) 1 y (omega (arith, to i l, c.search.size)) e

              grow : (y : ℕ) → get_or marks y 0 ≡ 1 → get_or (set marks (get_or target i 0) 1) y 0 ≡ 1
              grow y e =
                  ⊎_elim (λ (o : y ≡ get_or target i 0). mark y o)
                  (λ (o : y ≡ get_or target i 0 → ⊥). get_or-set_other marks (get_or target i 0) y 1 0 o ∙ e) (same_or_not y (get_or target i 0))

        -- a row that passes: its target is appended, if it is new
        pub visit_append :
            (r : ℕ) (ms qs : List ℕ) → (r, (ms, qs)) ≡ appended (get_or target i 0) marks queue tail →
            Visit start x queue₀ tail₀ ms qs head r (i + 1)
        unfolding appended
        visit_append r ms qs e = go (eqb (get_or marks (get_or target i 0) 0) 0) refl e
          where
            one_of : {y : ℕ} → y ≤ 1 → (y ≡ 0 → ⊥) → y ≡ 1
            one_of h z = omega (arith, h, z)

            go : (z : Bool) → eqb (get_or marks (get_or target i 0) 0) 0 ≡ z
                → ◌≡◌ {A = ℕ × (List ℕ × List ℕ)} (r, (ms, qs))
                (cond z (tail + 1, (set marks (get_or target i 0) 1, set queue tail (get_or target i 0))) (tail, (marks, queue)))
                → Visit start x queue₀ tail₀ ms qs head r (i + 1)
            go true z p =
                subst (λ (y : ℕ × (List ℕ × List ℕ)). Visit start x queue₀ tail₀ y.1.0 y.1.1 head y.0 (i + 1)) (sym p)
                (visit_take (eqb-true _ _ z))
            go false z p =
                subst (λ (y : ℕ × (List ℕ × List ℕ)). Visit start x queue₀ tail₀ y.1.0 y.1.1 head y.0 (i + 1)) (sym p)
                (visit_skip (λ _. one_of (c.search.flags (get_or target i 0)) (eqb-false _ _ z)))

      -- behind the last
      pub visit_end : (first end : ℕ) → StretchOf (λ i. get_or source i 0) m x first end → i ≡ end
          → Search (some_row m source target w) n start marks queue (head + 1) tail
      visit_end first end t e =
          search_next (some_row m source target w) n start marks queue head tail c.search (omega (arith, c.ahead, c.more))
          (λ y g.
          let r = edge_row m source target w (get_or queue head 0) y g in
          let o = r.from ∙ c.kept head c.ahead ∙ c.here in
          let a = (t.exactly r.row r.below).0 o in
          ap (λ (z : ℕ). get_or marks z 0) (sym r.to) ∙ c.passed r.row (omega (arith, e, a.1)) o r.passes)

-- ---- the call
pub record ReachReady (t : Lts) (s result work : ℕ) : Type 0 where
  pub valid : Valid t
  pub known : s < t.n
  pub long : t.n ≤ result
  pub wide : (t.n + t.m) + 1 ≤ work

pub reach_ready : (t : Lts) (s result work : ℕ) → (reach_refusal t s result work).number ≡ 0 → ReachReady t s result work
unfolding reach_refusal
reach_ready t s result work e =
    let long = leb t.n result in
    let wide = works_long t (work ∷ []) in
    let c = asked_of t s t.n (long && wide) (reach_refusal t s result work) refl e in
    record {
      valid = c.valid;
      known = c.known;
      long = leb-true t.n result (and_left long wide c.enough);
      wide = (roomy_of (t.n + t.m + 1) (work ∷ []) (and_right long wide c.enough)).0;
    }
