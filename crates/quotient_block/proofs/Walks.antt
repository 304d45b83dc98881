-- The walk to a bottom state: it stays in the block and ends where no hidden row leads on; and the loops that find the row and the state.
use Rattle.std.specs.Prelude.{
  ◌≡◌,
  ℕ,
  zero,
  suc,
  ◌+◌,
  ◌-◌,
  ◌<◌,
  ◌≤◌,
  Bool,
  true,
  false,
  cond,
  not,
  ◌&&◌,
  eqb,
  ◌↔◌,
  Option,
  Some,
  None,
  IfSome,
  List,
  get_or,
}
use native.Mathlib.Omega.{arith}
use native.Mathlib.Numerals.{add-one}
use borrow.Author.Tests.{eqb-true, eqb-false, eq-eqb, ne_eqb, leb-true, leb-false, le-leb, lt-leb, not-true}
use mathlib.Core.Path.{refl, sym, ap, subst, ◌∙◌}
use mathlib.Core.Logic.{⊎_elim}
use denote.Param.Members.{Mut}
use denote.Ref.{Bor}
use Rattle.std.specs.Fn.{CalledAt}
use Rattle.std.specs.Iterator.{FindsItem}
use Rattle.std.specs.Option.{MatchOption}
use Rattle.std.specs.declared.ops.Range.{Range}
use Rattle.std.proofs.iter.Yields.{nat_range_steps}
use Rattle.std.proofs.lemmas.Iterator.{first_from_Range}
use Rattle.columns.specs.Blocks.{block_of}
use Rattle.columns.specs.Counting.{first}
use Rattle.columns.proofs.All.{lt-or-le, top_or-below}
use Rattle.columns.proofs.Bools.{and_left, and_right, and_both, and_no_left, contra, fails}
use Rattle.columns.proofs.Counting.{first_law}
use Rattle.columns.proofs.Firsts.{first-is, none_of}
use Rattle.columns.specs.Rows.{row_in}
use Rattle.quotient.specs.Naive.{inert_step}
use Rattle.quotient_block.specs.Bottom.{leads_on, way_on, bottom, next_on, walked, bottom_from}
use Rattle.table.specs.Lts.{Lts, Valid, Step}
use Rattle.table.proofs.Rows.{row_step, step_row}
use Rattle.table.proofs.Finds.{FoundFrom}
use Rattle.table.proofs.RowsOf.{own_row, RowsFrom}

abbrev leads : Lts → List ℕ → ℕ → ℕ → Bool
leads t home s = leads_on t.source t.label t.target home s

-- ---- the first row that leads on, found among the state's rows
module _ (t : Lts) (home : List ℕ) (s first end : ℕ) (f : RowsFrom t s first end) where
  other_row : (i : ℕ) → own_row t s i ≡ false → leads t home s i ≡ false
  unfolding leads_on
  other_row i e = and_no_left _ _ e

  -- the test of a row of s
  abbrev onward : ℕ → Bool
  onward i = inert_step (block_of home) (s, (get_or t.label i 0, get_or t.target i 0))

  own_row_lem : (i : ℕ) → first ≤ i → i < end → leads t home s i ≡ onward i
  unfolding leads_on row_in
  own_row_lem i a b =
      let own = f.own i a b in
      rw own
      (ap (λ (x : ℕ). inert_step (block_of home) (x, (get_or t.label i 0, get_or t.target i 0))) (eqb-true (get_or t.source i 0) s own))

  pub way_found : (r : ℕ) → FoundFrom first end t.m onward r → r ≡ way_on t home s
  unfolding way_on
  way_found r g =
      first-is t.m (leads t home s) r g.most
      (λ i w.
      ⊎_elim (λ (a : i < first). other_row i (f.before i a))
      (λ (a : first ≤ i).
      ⊎_elim (λ (b : i < end). own_row_lem i a b ∙ g.before i a b w) (λ (b : end ≤ i). other_row i (f.after i b (omega (arith, w, g.most))))
      (lt-or-le i end))
      (lt-or-le i first))
      (λ w. own_row_lem r (g.low w) (g.below w) ∙ g.hit w)

-- what a search of a range finds is below its end
module _ {F : Type 0} {g : Mut F (Bor ℕ × Unit {0}) Bool} (s u : Range ℕ) (f : F) (r : Option ℕ) (m : ℕ) (h : s.end ≤ m) where
  pub found_row : FindsItem nat_range_steps g s f r u → ((x : ℕ) (q : F) → CalledAt g f x false q → q ≡ f) → IfSome r (λ i. i < m)
  found_row d k = go r (first_from_Range s u f r (λ x. Unit {0}) (λ x. Unit {0}) d (λ x q c. tt) (λ x q c. (k x q c, tt)))
    where
      go :
          (r : Option ℕ)
          → MatchOption r ((k : ℕ) → s.start ≤ k → k < s.end → Unit {0})
          (λ i. (s.start ≤ i) × (i < s.end) × Unit {0} × ((k : ℕ) → s.start ≤ k → k < i → Unit {0}))
          → IfSome r (λ i. i < m)
      go None w = tt
      go (Some i) w = omega (arith, w.1)

-- ---- one step
-- u is another state of the block of s, and a hidden step leads there
pub record On (t : Lts) (home : List ℕ) (s u : ℕ) : Type 0 where
  pub step : Step t s 0 u
  pub other : u ≡ s → ⊥
  pub within : block_of home u ≡ block_of home s

module _ (t : Lts) (home : List ℕ) (s : ℕ) where
  pub way_most : way_on t home s ≤ t.m
  unfolding way_on
  way_most = (first_law t.m (leads t home s)).bound

  leads_on_lem : (i : ℕ) → i < t.m → leads t home s i ≡ true → On t home s (get_or t.target i 0)
  unfolding leads_on inert_step row_in
  leads_on_lem i h e =
      let x = get_or t.source i 0 in
      let u = get_or t.target i 0 in
      let hidden = eqb (get_or t.label i 0) 0 in
      let within = eqb (block_of home x) (block_of home u) in
      let rest = within && not (eqb x u) in
      let own : x ≡ s = eqb-true _ _ (and_left (eqb x s) (hidden && rest) e) in
      let a : (hidden && rest) ≡ true = and_right (eqb x s) (hidden && rest) e in
      let b : rest ≡ true = and_right hidden rest a in
      record {
        step =
            subst (λ (y : ℕ). Step t y 0 u) own
            (subst (λ (y : ℕ). Step t x y u) (eqb-true _ _ (and_left hidden rest a)) (row_step t i h));
        other = λ q. eqb-false x u (not-true _ (and_right within (not (eqb x u)) b)) (own ∙ sym q);
        within = sym (eqb-true _ _ (and_left within (not (eqb x u)) b)) ∙ ap (block_of home) own;
      }

  on_leads : (u : ℕ) → On t home s u → (i : ℕ) × (i < t.m) × (leads t home s i ≡ true)
  unfolding leads_on inert_step row_in
  on_leads u k =
      let r = step_row t s 0 u k.step in (
        r.row,
        r.below,
        and_both (eq-eqb _ _ (sym r.source))
            (and_both (eq-eqb _ _ (sym r.label))
            (and_both (eq-eqb _ _ (ap (block_of home) (sym r.source) ∙ sym k.within ∙ ap (block_of home) r.target))
            (ap not (ne_eqb _ _ (λ e. k.other (r.target ∙ sym e ∙ sym r.source)))))),
      )

  bottom_way : t.m ≤ way_on t home s → bottom t home s ≡ true
  unfolding bottom
  bottom_way h = le-leb _ _ h

  further_way : way_on t home s < t.m → bottom t home s ≡ false
  unfolding bottom
  further_way h = lt-leb _ _ h

  further_on : bottom t home s ≡ false → On t home s (next_on t home s)
  unfolding bottom way_on next_on
  further_on e =
      let h : first t.m (leads t home s) < t.m = leb-false _ _ e in
      rw e (leads_on_lem (first t.m (leads t home s)) h ((first_law t.m (leads t home s)).hit h))

  -- a bottom state is exactly one with no hidden row to another state of its block
  pub bottom_exactly : (bottom t home s ≡ true) ↔ ((u : ℕ) → On t home s u → ⊥)
  unfolding bottom way_on
  bottom_exactly = (
    λ e u k. let i = on_leads u k in contra i.2 (none_of t.m (leads t home s) (leb-true _ _ e) i.0 i.1),
    λ none. go (bottom t home s) refl none,
  )
    where
      go : (b : Bool) → bottom t home s ≡ b → ((u : ℕ) → On t home s u → ⊥) → b ≡ true
      go true e none = refl
      go false e none = absurd (none _ (further_on e))

  next_way : bottom t home s ≡ false → get_or t.target (way_on t home s) 0 ≡ next_on t home s
  unfolding next_on
  next_way e = rw e refl

  next-bottom : bottom t home s ≡ true → next_on t home s ≡ s
  unfolding next_on
  next-bottom e = rw e refl

  next-home : block_of home (next_on t home s) ≡ block_of home s
  next-home = go (bottom t home s) refl
    where
      go : (b : Bool) → bottom t home s ≡ b → block_of home (next_on t home s) ≡ block_of home s
      go true e = ap (block_of home) (next-bottom e)
      go false e = (further_on e).within

  next_state : Valid t → s < t.n → next_on t home s < t.n
  next_state v h = go (bottom t home s) refl
    where
      go : (b : Bool) → bottom t home s ≡ b → next_on t home s < t.n
      go true e = rw (next-bottom e) h
      go false e =
          let r = step_row t s 0 (next_on t home s) (further_on e).step in
          rw r.target (v.fields r.row r.below).target

-- ---- the walk
module _ (t : Lts) (home : List ℕ) (s : ℕ) where
  pub walked-suc : (k : ℕ) → walked t home (k + 1) s ≡ next_on t home (walked t home k s)
  unfolding walked
  walked-suc k = rw add-one refl

  -- it stays among the states and in the block
  pub walked_state : Valid t → s < t.n → (k : ℕ) → walked t home k s < t.n
  unfolding walked
  walked_state v h zero = h
  walked_state v h (suc k) = next_state t home (walked t home k s) v (walked_state v h k)

  pub walked-home : (k : ℕ) → block_of home (walked t home k s) ≡ block_of home s
  unfolding walked
  walked-home zero = refl
  walked-home (suc k) = next-home t home (walked t home k s) ∙ walked-home k

  -- each step goes along a hidden row to another state of the block, until it is in a bottom state
  pub walked_on : (k : ℕ) → bottom t home (walked t home k s) ≡ false → On t home (walked t home k s) (walked t home (k + 1) s)
  walked_on k e = subst (On t home (walked t home k s)) (sym (walked-suc k)) (further_on t home (walked t home k s) e)

  -- there it stays
  walked-stays : (k : ℕ) → bottom t home (walked t home k s) ≡ true → (j : ℕ) → walked t home (k + j) s ≡ walked t home k s
  walked-stays k e zero = ap (λ (i : ℕ). walked t home i s) (omega arith)
  walked-stays k e (suc j) =
      let same : k + suc j ≡ (k + j) + 1 = omega arith in
      ap (λ (i : ℕ). walked t home i s) same ∙ walked-suc (k + j) ∙ ap (next_on t home) (walked-stays k e j)
      ∙ next-bottom t home (walked t home k s) e

  pub walked_still : (k j : ℕ) → k ≤ j → bottom t home (walked t home k s) ≡ true → walked t home j s ≡ walked t home k s
  walked_still k j h e =
      let same : j ≡ k + (j - k) = omega arith in
      ap (λ (i : ℕ). walked t home i s) same ∙ walked-stays k e (j - k)

  -- ---- as a loop: after k steps it is at u, and has met no bottom state before
  pub record Walking (k u : ℕ) : Type 0 where
    pub here : u ≡ walked t home k s
    pub state : u < t.n
    pub few : k ≤ t.n + 1
    pub before : (j : ℕ) → j < k → bottom t home (walked t home j s) ≡ false

  pub walk_start : s < t.n → Walking 0 s
  unfolding walked
  walk_start h = record { here = refl; state = h; few = omega arith; before = λ j w. absurd (omega (arith, w)) }

  module _ (k u : ℕ) (w : Walking k u) (i : ℕ) (e : i ≡ way_on t home u) where
    pub walk_more : Valid t → k ≤ t.n → i < t.m → (x : ℕ) → x ≡ get_or t.target i 0 → Walking (k + 1) x
    walk_more v h l x q =
        let b : bottom t home u ≡ false = further_way t home u (omega arith) in
        let f : x ≡ next_on t home u = q ∙ ap (λ (j : ℕ). get_or t.target j 0) e ∙ next_way t home u b in
        let last : bottom t home (walked t home k s) ≡ false = ap (bottom t home) (sym w.here) ∙ b in
        record {
          here = f ∙ ap (next_on t home) w.here ∙ sym (walked-suc k);
          state = subst (λ (y : ℕ). y < t.n) (sym q) (v.fields i l).target;
          few = omega arith;
          before = λ j z.
              ⊎_elim (λ (y : j ≡ k). ap (λ (p : ℕ). bottom t home (walked t home p s)) y ∙ last) (λ (y : j < k). w.before j y)
              (top_or-below (omega (arith, z)));
        }

    pub walk_found : k ≤ t.n → i ≡ t.m → u ≡ bottom_from t home s
    unfolding bottom_from
    walk_found h q =
        let here : bottom t home u ≡ true = bottom_way t home u (omega arith) in
        let f : walked t home t.n s ≡ u
        = walked_still k t.n h (ap (bottom t home) (sym w.here) ∙ here) ∙ sym w.here in
        rw (f, here) refl

  pub walk_lost : (k u : ℕ) → Walking k u → t.n < k → t.n ≡ bottom_from t home s
  unfolding bottom_from
  walk_lost k u w h = rw (w.before t.n h) refl

  -- where no bottom state is found, the walk is in none after n steps
  pub bottom_lost : Valid t → s < t.n → bottom_from t home s ≡ t.n → bottom t home (walked t home t.n s) ≡ false
  unfolding bottom_from
  bottom_lost v h e =
      fails (λ q. let f : walked t home t.n s ≡ t.n = sym (rw q refl) ∙ e in omega (arith, f, walked_state v h t.n))

  -- and where one is found, it is where the walk is then, and a bottom state
  module _ (d : bottom_from t home s ≡ t.n → ⊥) where
    pub found_walked : bottom_from t home s ≡ walked t home t.n s
    unfolding bottom_from
    found_walked = go (bottom t home (walked t home t.n s)) (walked t home t.n s) d
      where
        go : (b : Bool) (u : ℕ) → (cond b u t.n ≡ t.n → ⊥) → cond b u t.n ≡ u
        go true u d = refl
        go false u d = absurd (d refl)

    pub found_bottom : bottom t home (bottom_from t home s) ≡ true
    unfolding bottom_from
    found_bottom = go (bottom t home (walked t home t.n s)) (walked t home t.n s) refl d
      where
        go : (b : Bool) (u : ℕ) → bottom t home u ≡ b → (cond b u t.n ≡ t.n → ⊥) → bottom t home (cond b u t.n) ≡ true
        go true u e d = e
        go false u e d = absurd (d refl)
