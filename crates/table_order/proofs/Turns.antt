-- Each turn of the search keeps `Machine` and lessens its measure; the end of a search.
use Rattle.std.specs.Prelude.{◌≡◌, ℕ, suc, ◌+◌, ◌-◌, ◌<◌, ◌≤◌, true, false, ◌⊎◌, List, [], ◌∷◌, length, get_or, set}
use mathlib.Core.Path.{refl, sym, ap, ◌∙◌, subst}
use mathlib.Core.Logic.{inl, inr, ⊎_elim}
use mathlib.Core.List.Memᴰ
use native.Mathlib.Omega.{arith}
use lib.Seq.{get_or-set_same, get_or-set_other}
use Rattle.columns.specs.Sets.{Mem}
use Rattle.table.specs.Reach.{Walk, stop, along}
use borrow.Author.Tests.{eqb-true, eq-eqb, ne_eqb}
use Rattle.columns.proofs.All.{top_or-below, same_or_not}
use Rattle.columns.proofs.Bools.{cases, contra}
use Rattle.table_order.specs.Order.{behind, ahead, visit, sweep, last_first, place_of}
use Rattle.table_order.specs.Machine.{
  push_all,
  keep,
  new_in,
  mark_for,
  left,
  rest,
  arc,
  Cycle,
  cycle,
  Ordered,
  none,
  more,
  Child,
  Stacked,
  bottom,
  waits,
  ends,
  Machine,
  Idle,
}
use Rattle.table_order.specs.Turn.{measure}
use Rattle.table.proofs.Walks.{joined}
use Rattle.table_order.proofs.Lists.{mem_is_in, not-is_in, behind_head, places_add}
use Rattle.table_order.proofs.Ordered.{mem_arc, arc_mem, length-le, length_full, no_cycle}
use Rattle.table_order.proofs.Visits.{visit_old, visit_fresh}
use Rattle.table_order.proofs.Machine.{
  mark_done,
  mark_gray,
  mark_new,
  mark_0,
  mark_1,
  mark_2,
  mark_enter,
  mark_finish,
  left_cong,
  left_less,
  rest_wait,
  rest_end,
  rest_push,
  keep_mem,
  mem_keep,
  keep-length,
  push_length,
  push_old,
  skip,
}

pub new_in_0 : (marks : List ℕ) (t : ℕ) → new_in marks t ≡ true → get_or marks t 0 ≡ 0
unfolding new_in
new_in_0 marks t e = eqb-true _ _ e

pub new_in_yes : (marks : List ℕ) (t : ℕ) → get_or marks t 0 ≡ 0 → new_in marks t ≡ true
unfolding new_in
new_in_yes marks t e = eq-eqb _ _ e

pub new_in_no : (marks : List ℕ) (t : ℕ) → (get_or marks t 0 ≡ 0 → ⊥) → new_in marks t ≡ false
unfolding new_in
new_in_no marks t e = ne_eqb _ _ e

new_in-set : (marks : List ℕ) (x y s : ℕ) → (s ≡ x → ⊥) → new_in (set marks x y) s ≡ new_in marks s
unfolding new_in
new_in-set marks x y s f = rw (get_or-set_other marks x s y 0 f)

module _ (next : ℕ → List ℕ) (n : ℕ) where
  pub record AsWaits (known gray st : List ℕ) (x : ℕ) : Type 0 where
    pub below : x < n
    pub fresh : Mem x gray → ⊥
    pub child : Child next gray x
    pub under : Stacked next n (x ∷ known) gray st

  pub record AsEnds (known gray st : List ℕ) (x : ℕ) : Type 0 where
    pub gs : List ℕ
    pub same : gray ≡ x ∷ gs
    pub below : x < n
    pub once : Mem x gs → ⊥
    pub whole : (t : ℕ) → Mem t (next x) → Mem t known
    pub under : Stacked next n (x ∷ known) gs st

  split : {known gray st : List ℕ} {x : ℕ} → Stacked next n known gray (x ∷ st) → AsWaits known gray st x ⊎ AsEnds known gray st x
  split (waits b f c u) = inl record { below = b; fresh = f; child = c; under = u }
  split (ends {gray = gs} b f c a u) = inr record { gs = gs; same = refl; below = b; once = f; whole = a; under = u }

  empty_gray : {known gray : List ℕ} → Stacked next n known gray [] → gray ≡ []
  empty_gray bottom = refl

  top_below : {known gray st : List ℕ} {x : ℕ} → Stacked next n known gray (x ∷ st) → x < n
  top_below s = ⊎_elim (λ w. w.below) (λ w. w.below) (split s)

  mono : {known known' gray st : List ℕ} → ((t : ℕ) → Mem t known → Mem t known') → Stacked next n known gray st →
      Stacked next n known' gray st
  mono f bottom = bottom
  mono {known' = k} f (waits {t = x} b g c u) = waits b g c
      (mono (λ t m. ⊎_elim (λ e. Memᴰ.head e) (λ i. Memᴰ.tail (f t i)) (Memᴰ.cases_cons m)) u)
  mono {known' = k} f (ends {g = x} b g c a u) = ends b g c (λ t m. f t (a t m))
      (mono (λ t m. ⊎_elim (λ e. Memᴰ.head e) (λ i. Memᴰ.tail (f t i)) (Memᴰ.cases_cons m)) u)

  -- each state on the way leads to what waits on top
  leads : {known gray st : List ℕ} → Stacked next n known gray st → (x : ℕ) → Child next gray x → (h : ℕ) → Mem h gray → Walk (arc next) h x
  leads bottom x c h m = absurd (Memᴰ.not-nil m)
  leads (waits b g d u) x c h m = leads u x c h m
  leads (ends {gray = gs} {g = g} b f d a u) x c h m =
      ⊎_elim (λ e. subst (λ (i : ℕ). Walk (arc next) i x) (sym e) (along (mem_arc next g x c) stop))
      (λ i. joined (arc next) (leads u g d h i) (along (mem_arc next g x c) stop)) (Memᴰ.cases_cons m)

  pushed :
      (cs known gray st : List ℕ) → ((c : ℕ) → Mem c cs → (c < n) × (Mem c gray → ⊥) × Child next gray c)
      → ((k : List ℕ) → ((t : ℕ) → Mem t known → Mem t k) → ((t : ℕ) → Mem t cs → Mem t k) → Stacked next n k gray st)
      → Stacked next n known gray (push_all cs st)
  unfolding push_all
  pushed [] known gray st f s = s known (λ t m. m) (λ t m. absurd (Memᴰ.not-nil m))
  pushed (c ∷ cs) known gray st f s =
      pushed cs known gray (c ∷ st) (λ t m. f t (Memᴰ.tail m))
      (λ k p q.
      let a = f c (Memᴰ.head refl) in
      waits a.0 a.1 a.2
      (s (c ∷ k) (λ t m. Memᴰ.tail (p t m)) (λ t m. ⊎_elim (λ e. Memᴰ.head e) (λ i. Memᴰ.tail (q t i))
      (Memᴰ.cases_cons m))))

  module _ (m bound : ℕ) (goal : List ℕ) where
    abbrev pub M : List ℕ → List ℕ → ℕ → Type 0
    M marks st k = Machine next n m bound goal marks st k

    pub top_small : {marks st : List ℕ} {x k : ℕ} → M marks (x ∷ st) k → x < n
    top_small i = top_below i.stacked

    -- ---- a finished state is dropped
    pub drop_turn : {marks st : List ℕ} {x k : ℕ} → M marks (x ∷ st) k → (get_or marks x 0 ≡ 0 → ⊥) → (get_or marks x 0 ≡ 1 → ⊥) → M marks st k
    drop_turn {marks} {st} {x} {k} i f g = go (split i.stacked)
      where
        is_done : Mem x i.done
        is_done =
            let e = i.marked x (top_small i) in
            mark_2 i.gray i.done x (λ q. f (e ∙ q)) (λ q. g (e ∙ q))

        go : AsWaits i.done i.gray st x ⊎ AsEnds i.done i.gray st x → M marks st k
        go (inr w) = absurd (i.apart x (rw w.same (Memᴰ.head refl)) is_done)
        go (inl w) = record {
          gray = i.gray;
          done = i.done;
          marked = i.marked;
          stacked = mono (λ t p. ⊎_elim (λ e. rw e is_done) (λ q. q) (Memᴰ.cases_cons p)) w.under;
          order = i.order;
          apart = i.apart;
          covers = λ s l. ⊎_elim (λ p. inl p) (λ p. ⊎_elim (λ e. inl (rw e is_done)) (λ q. inr q) (Memᴰ.cases_cons p)) (i.covers s l);
          count = i.count;
          room = omega (arith, i.room);
          spare = i.spare;
          result = λ a.
              ap (λ (d : List ℕ). rest (visit next n) i.gray st d) (sym (visit_old next n x i.done (mem_is_in x i.done is_done)))
              ∙ (sym (rest_wait (visit next n) i.gray st i.done x w.fresh) ∙ i.result a);
        }

    pub drop_less : (marks st : List ℕ) (x : ℕ) → measure next n marks st < measure next n marks (x ∷ st)
    unfolding measure
    drop_less marks st x = omega arith

    -- ---- a state on the way is finished
    ended : {marks st : List ℕ} {x k : ℕ} → (i : M marks (x ∷ st) k) → get_or marks x 0 ≡ 1 → AsEnds i.done i.gray st x
    ended {marks} {st} {x} {k} i e = go (split i.stacked)
      where
        go : AsWaits i.done i.gray st x ⊎ AsEnds i.done i.gray st x → AsEnds i.done i.gray st x
        go (inl w) = absurd (w.fresh (mark_1 i.gray i.done x (sym (i.marked x w.below) ∙ e)).1)
        go (inr w) = w

    new_to_done : {marks st : List ℕ} {x k : ℕ} → (i : M marks (x ∷ st) k) → get_or marks x 0 ≡ 1 → Mem x i.done → ⊥
    new_to_done {x = x} i e = (mark_1 i.gray i.done x (sym (i.marked x (top_small i)) ∙ e)).0

    finished : {marks st : List ℕ} {x k : ℕ} → (i : M marks (x ∷ st) k) → get_or marks x 0 ≡ 1 → Ordered next n (x ∷ i.done)
    finished i e = let w = ended i e in more (new_to_done i e) w.below w.whole i.order

    pub finish_small : {marks st : List ℕ} {x k : ℕ} → M marks (x ∷ st) k → get_or marks x 0 ≡ 1 → k < n
    finish_small i e = omega (arith, length-le next n (finished i e), i.count)

    pub finish_turn : {marks st : List ℕ} {x k : ℕ} → M marks (x ∷ st) k → get_or marks x 0 ≡ 1 → x < length marks →
        M (set marks x (k + 2)) st (k + 1)
    finish_turn {marks} {st} {x} {k} i e b = record {
      gray = w.gs;
      done = x ∷ i.done;
      marked = λ s l. ⊎_elim (same-mark s) (other_mark s l) (same_or_not s x);
      stacked = w.under;
      order = finished i e;
      apart = λ s p q. ⊎_elim (λ j. w.once (rw j at p)) (λ j. i.apart s (rw w.same (Memᴰ.tail p)) j) (Memᴰ.cases_cons q);
      covers = λ s l. ⊎_elim (λ p. inl (Memᴰ.tail p)) (λ p. ⊎_elim (λ j. inl (Memᴰ.head j)) (λ q. inr q) (Memᴰ.cases_cons p))
          (i.covers s l);
      count = omega (arith, i.count);
      room = rw (left-same (λ s. length (next s))) (omega (arith, i.room));
      spare = rw (left-same (λ s. length (next s))) i.spare;
      result = λ a. sym (rest_end (visit next n) w.gs st i.done x) ∙
          (ap (λ (g : List ℕ). rest (visit next n) g (x ∷ st) i.done) (sym w.same) ∙ i.result a);
    }
      where
        w : AsEnds i.done i.gray st x
        w = ended i e

        same-mark : (s : ℕ) → s ≡ x → get_or (set marks x (k + 2)) s 0 ≡ mark_for w.gs (x ∷ i.done) s
        same-mark s j =
            rw j (get_or-set_same marks x (k + 2) 0 b ∙ omega
            (arith, mark_done w.gs (x ∷ i.done) x (Memᴰ.head refl), behind_head x i.done, i.count))

        other_mark : (s : ℕ) → s < n → (s ≡ x → ⊥) → get_or (set marks x (k + 2)) s 0 ≡ mark_for w.gs (x ∷ i.done) s
        other_mark s l f =
            get_or-set_other marks x s (k + 2) 0 f
            ∙ (i.marked s l ∙ (ap (λ (g : List ℕ). mark_for g i.done s) w.same ∙ sym (mark_finish w.gs i.done x s f)))

        still : (s : ℕ) → new_in (set marks x (k + 2)) s ≡ new_in marks s
        still s =
            ⊎_elim
            (λ j.
            rw j
            (new_in_no (set marks x (k + 2)) x (λ q. omega (arith, get_or-set_same marks x (k + 2) 0 b, q)) ∙
            sym (new_in_no marks x (λ q. omega (arith, e, q)))))
            (λ f. new_in-set marks x (k + 2) s f) (same_or_not s x)

        left-same : (v : ℕ → ℕ) → left v (set marks x (k + 2)) n ≡ left v marks n
        left-same v = left_cong v (set marks x (k + 2)) marks n (λ s l. still s)

    pub finish_less : (marks st : List ℕ) (x y : ℕ) → x < length marks → get_or marks x 0 ≡ 1 →
        measure next n (set marks x (y + 2)) st < measure next n marks (x ∷ st)
    unfolding measure
    finish_less marks st x y b e = rw (left_cong (λ s. suc (length (next s))) (set marks x (y + 2)) marks n (λ s l. still s)) (omega arith)
      where
        still : (s : ℕ) → new_in (set marks x (y + 2)) s ≡ new_in marks s
        still s =
            ⊎_elim
            (λ j.
            rw j
            (new_in_no (set marks x (y + 2)) x (λ q. omega (arith, get_or-set_same marks x (y + 2) 0 b, q)) ∙
            sym (new_in_no marks x (λ q. omega (arith, e, q)))))
            (λ f. new_in-set marks x (y + 2) s f) (same_or_not s x)

    -- ---- a new state is entered
    module _ (within : (s t : ℕ) → Mem t (next s) → t < n) (irr : (s : ℕ) → Mem s (next s) → ⊥) where
      entered : {marks st : List ℕ} {x k : ℕ} → (i : M marks (x ∷ st) k) → get_or marks x 0 ≡ 0 → AsWaits i.done i.gray st x
      entered {marks} {st} {x} {k} i e = go (split i.stacked)
        where
          go : AsWaits i.done i.gray st x ⊎ AsEnds i.done i.gray st x → AsWaits i.done i.gray st x
          go (inl w) = w
          go (inr w) = absurd ((mark_0 i.gray i.done x (sym (i.marked x w.below) ∙ e)).1 (rw w.same (Memᴰ.head refl)))

      unfinished : {marks st : List ℕ} {x k : ℕ} → (i : M marks (x ∷ st) k) → get_or marks x 0 ≡ 0 → Mem x i.done → ⊥
      unfinished {x = x} i e = (mark_0 i.gray i.done x (sym (i.marked x (top_small i)) ∙ e)).0

      left_falls : (v : ℕ → ℕ) (marks : List ℕ) (x : ℕ) → x < n → x < length marks → get_or marks x 0 ≡ 0 →
          left v (set marks x 1) n + v x ≡ left v marks n
      left_falls v marks x l b e =
          left_less v marks (set marks x 1) x n l (new_in_yes marks x e)
          (new_in_no (set marks x 1) x (λ q. omega (arith, get_or-set_same marks x 1 0 b, q)))
          (λ s f. new_in-set marks x 1 s f)

      -- room for every successor
      pub enter_room : {marks st : List ℕ} {x k : ℕ} → M marks (x ∷ st) k → get_or marks x 0 ≡ 0 → x < length marks →
          suc (length st) + length (next x) ≤ suc m
      enter_room {marks} {st} {x} i e b = omega (arith, i.room, left_falls (λ s. length (next s)) marks x (top_small i) b e)

      -- a successor that is on the way closes a cycle
      pub enter_cycle : {marks st : List ℕ} {x k : ℕ} → M marks (x ∷ st) k → get_or marks x 0 ≡ 0 → (t : ℕ) → Mem t (next x) →
          get_or (set marks x 1) t 0 ≡ 1 → Cycle next
      enter_cycle {marks} {st} {x} {k} i e t p q = cycle (mem_arc next x t p)
          (leads w.under x w.child t (mark_1 i.gray i.done t (sym (i.marked t (within x t p)) ∙ before)).1)
        where
          w : AsWaits i.done i.gray st x
          w = entered i e

          before : get_or marks t 0 ≡ 1
          before = sym (get_or-set_other marks x t 1 0 (λ j. irr x (rw j at p))) ∙ q

      kids : List ℕ → ℕ → List ℕ
      kids marks x = keep (new_in (set marks x 1)) (next x)

      pub enter_turn :
          {marks st : List ℕ} {x k : ℕ} → M marks (x ∷ st) k → get_or marks x 0 ≡ 0 → x < length marks
          → ((t : ℕ) → Mem t (next x) → get_or (set marks x 1) t 0 ≡ 1 → ⊥) →
          M (set marks x 1) (push_all (keep (new_in (set marks x 1)) (next x)) (x ∷ st)) k
      unfolding kids
      enter_turn {marks} {st} {x} {k} i e b f = record {
        gray = x ∷ i.gray;
        done = i.done;
        marked = marked;
        stacked = pushed (kids marks x) i.done (x ∷ i.gray) (x ∷ st) fit shape;
        order = i.order;
        apart = λ s p q. ⊎_elim (λ j. unfinished i e (rw j at q)) (λ j. i.apart s j q) (Memᴰ.cases_cons p);
        covers = λ s l. ⊎_elim (λ p. inl p) (λ p. inr (push_old (kids marks x) (x ∷ st) s p)) (i.covers s l);
        count = i.count;
        room = omega (
          arith,
          i.room,
          left_falls (λ s. length (next s)) marks x w.below b e,
          push_length (kids marks x) (x ∷ st),
          keep-length (new_in (set marks x 1)) (next x),
        );
        spare = omega (arith, i.spare, left_falls (λ s. length (next s)) marks x w.below b e);
        result = result;
      }
        where
          w : AsWaits i.done i.gray st x
          w = entered i e

          marked : (s : ℕ) → s < n → get_or (set marks x 1) s 0 ≡ mark_for (x ∷ i.gray) i.done s
          marked s l =
              ⊎_elim (λ j. rw j (get_or-set_same marks x 1 0 b ∙
              sym (mark_gray (x ∷ i.gray) i.done x (unfinished i e) (Memᴰ.head refl))))
              (λ g. get_or-set_other marks x s 1 0 g ∙ (i.marked s l ∙ sym (mark_enter i.gray i.done x s g))) (same_or_not s x)

          fit : (c : ℕ) → Mem c (kids marks x) → (c < n) × (Mem c (x ∷ i.gray) → ⊥) × Mem c (next x)
          fit c p =
              let q = keep_mem (new_in (set marks x 1)) (next x) c p in
              let l : c < n = within x c q.0 in
              (l, (mark_0 (x ∷ i.gray) i.done c (sym (marked c l) ∙ new_in_0 (set marks x 1) c q.1)).1, q.0)

          old : (t : ℕ) → Mem t (next x) → new_in (set marks x 1) t ≡ false → Mem t i.done
          old t p q =
              mark_2 (x ∷ i.gray) i.done t (λ j. contra (new_in_yes (set marks x 1) t (marked t (within x t p) ∙ j)) q)
              (λ j. f t p (marked t (within x t p) ∙ j))

          known : (K : List ℕ) → ((t : ℕ) → Mem t i.done → Mem t K) → ((t : ℕ) → Mem t (kids marks x) → Mem t K) → (t : ℕ) →
              Mem t (next x) → Mem t K
          known K p q t j = ⊎_elim (λ y. q t (mem_keep (new_in (set marks x 1)) (next x) t j y)) (λ y. p t (old t j y))
              (cases (new_in (set marks x 1) t))

          shape : (K : List ℕ) → ((t : ℕ) → Mem t i.done → Mem t K) → ((t : ℕ) → Mem t (kids marks x) → Mem t K) →
              Stacked next n K (x ∷ i.gray) (x ∷ st)
          shape K p q =
              ends w.below w.fresh w.child (known K p q)
              (mono (λ t j. ⊎_elim (λ y. Memᴰ.head y) (λ y. Memᴰ.tail (p t y)) (Memᴰ.cases_cons j)) w.under)

          result : (Cycle next → ⊥) → rest (visit next n) (x ∷ i.gray) (push_all (kids marks x) (x ∷ st)) i.done ≡ goal
          result a =
              rest_push (visit next n) (kids marks x) (x ∷ i.gray) (x ∷ st) i.done (λ c p. (fit c p).1)
              ∙ (rest_end (visit next n) i.gray st (last_first (visit next n) (kids marks x) i.done) x
              ∙ (ap (λ (d : List ℕ). rest (visit next n) i.gray st (x ∷ d)) (skip next n (new_in (set marks x 1)) (next x) i.done old)
              ∙ (ap (λ (d : List ℕ). rest (visit next n) i.gray st d)
              (sym (visit_fresh next n within a x w.below i.done (not-is_in x i.done (unfinished i e))))
              ∙ (sym (rest_wait (visit next n) i.gray st i.done x w.fresh) ∙ i.result a))))

      pub enter_less :
          (marks st : List ℕ) (x : ℕ) → x < n → x < length marks → get_or marks x 0 ≡ 0
          → measure next n (set marks x 1) (push_all (keep (new_in (set marks x 1)) (next x)) (x ∷ st)) < measure next n marks (x ∷ st)
      unfolding measure
      enter_less marks st x l b e =
          omega (
            arith,
            left_falls (λ s. suc (length (next s))) marks x l b e,
            push_length (keep (new_in (set marks x 1)) (next x)) (x ∷ st),
            keep-length (new_in (set marks x 1)) (next x),
          )

-- ---- the searches from 0 upward
module _ (next : ℕ → List ℕ) (n m : ℕ) where
  pub idle_start : (marks : List ℕ) → ((s : ℕ) → s < n → get_or marks s 0 ≡ 0) → left (λ s. length (next s)) marks n ≤ m →
      Idle next n m 0 marks 0
  unfolding sweep
  idle_start marks z h = record {
    done = [];
    marked = λ s l. z s l ∙ sym (mark_new [] [] s Memᴰ.not-nil Memᴰ.not-nil);
    order = none;
    covers = λ s l. absurd (omega (arith, l));
    count = refl;
    spare = h;
    result = λ a. refl;
  }

  -- r is finished already
  pub idle_skip : {r k : ℕ} {marks : List ℕ} → Idle next n m r marks k → r < n → (get_or marks r 0 ≡ 0 → ⊥) → Idle next n m (suc r) marks k
  unfolding sweep
  idle_skip {r} {k} {marks} i l f = record {
    done = i.done;
    marked = i.marked;
    order = i.order;
    covers = λ s h. ⊎_elim (λ e. rw e there) (λ j. i.covers s j) (top_or-below h);
    count = i.count;
    spare = i.spare;
    result = λ a. i.result a ∙ sym (visit_old next n r (sweep next n r)
        (mem_is_in r _ (subst (λ (d : List ℕ). Mem r d) (i.result a) there)));
  }
    where
      there : Mem r i.done
      there =
          mark_2 [] i.done r (λ q. f (i.marked r l ∙ q))
          (λ q. Memᴰ.not-nil (mark_1 [] i.done r q).1)

  pub search_start : {r k : ℕ} {marks : List ℕ} → Idle next n m r marks k → r < n →
      Machine next n m (suc r) (sweep next n (suc r)) marks (r ∷ []) k
  unfolding sweep rest
  search_start {r} {k} {marks} i l = record {
    gray = [];
    done = i.done;
    marked = i.marked;
    stacked = waits l Memᴰ.not-nil tt bottom;
    order = i.order;
    apart = λ s p q. Memᴰ.not-nil p;
    covers = λ s h. ⊎_elim (λ e. inr (Memᴰ.head e)) (λ j. inl (i.covers s j)) (top_or-below h);
    count = i.count;
    room = omega (arith, i.spare);
    spare = i.spare;
    result = λ a. ap (λ (d : List ℕ). visit next n r d) (i.result a);
  }

  pub search_end : {r k : ℕ} {marks : List ℕ} → Machine next n m r (sweep next n r) marks [] k → Idle next n m r marks k
  unfolding rest
  search_end {r} {k} {marks} i = record {
    done = i.done;
    marked = λ s l. i.marked s l ∙ ap (λ (g : List ℕ). mark_for g i.done s) (empty_gray next n i.stacked);
    order = i.order;
    covers = λ s h. ⊎_elim (λ j. j) (λ j. absurd (Memᴰ.not-nil j)) (i.covers s h);
    count = i.count;
    spare = i.spare;
    result = λ a. i.result a;
  }

  -- all are finished: there was no cycle, and the marks have the places
  module _ (source : (s t : ℕ) → Mem t (next s) → s < n) {k : ℕ} {marks : List ℕ} (i : Idle next n m n marks k) where
    pub all_acyclic : Cycle next → ⊥
    all_acyclic = no_cycle next n i.order (λ s t e. i.covers s (source s t (arc_mem next s t e)))

    mark_place_lem : (s : ℕ) → s < n → get_or marks s 0 ≡ 2 + behind s (sweep next n n)
    mark_place_lem s l =
        i.marked s l ∙ (mark_done [] i.done s (i.covers s l) ∙ ap (λ (d : List ℕ). 2 + behind s d) (i.result all_acyclic))

    pub places_sum : (s : ℕ) → s < n → suc (behind s (sweep next n n) + ahead s (sweep next n n)) ≡ n
    places_sum s l =
        subst (λ (d : List ℕ). suc (behind s d + ahead s d) ≡ n) (i.result all_acyclic)
        (places_add s i.done (i.covers s l) ∙ length_full next n i.order i.covers)

    pub mark_low : (s : ℕ) → s < n → 2 ≤ get_or marks s 0
    mark_low s l = omega (arith, mark_place_lem s l)

    pub mark_high : (s : ℕ) → s < n → get_or marks s 0 ≤ n + 1
    mark_high s l = omega (arith, mark_place_lem s l, places_sum s l)

    pub place_reversed : (s : ℕ) → s < n → get_or marks s 0 - 2 ≡ place_of next n true s
    unfolding place_of
    place_reversed s l = omega (arith, mark_place_lem s l)

    pub place_forward : (s : ℕ) → s < n → (n + 1) - get_or marks s 0 ≡ place_of next n false s
    unfolding place_of
    place_forward s l = omega (arith, mark_place_lem s l, places_sum s l)
