-- How the numbers are given, component by component.
use Rattle.std.specs.Prelude.{◌≡◌, ℕ, ◌+◌, ◌<◌, ◌≤◌, Bool, true, false, cond, ◌&&◌, eqb, ltb, List, length, get_or}
use mathlib.Core.Path.{refl, sym, ap, ◌∙◌}
use mathlib.Core.Logic.{⊎_elim}
use native.Mathlib.Numerals.{add-one}
use native.Mathlib.Omega.{arith}
use native.Mathlib.Nat.{le_antisymm}
use borrow.Author.Tests.{eq-eqb, ltb-true, ltb-false, lt-ltb, le-ltb}
use Rattle.columns.specs.Columns.{listed}
use Rattle.columns.specs.Counting.{many, bit}
use Rattle.columns.specs.Number.{least, leads, number}
use Rattle.columns.proofs.Bools.{cases, contra, fails}
use Rattle.columns.proofs.Counting.{many-le, many_hit, many_miss}
use Rattle.columns.proofs.Lists.{length-listed, listed_at, listed_cong}
use Rattle.columns.proofs.Numbering.{Equivalence, least_le, least_same, least_differ, least_leads, leads_least}
use Rattle.table.specs.Lts.{Lts, Valid}
use Rattle.table.specs.Marks.{marks_from, marks_into}
use Rattle.table.specs.Reach.{reaches}
use Rattle.quotient_components.specs.Components.{linked, components, component}
use Rattle.quotient_components.specs.Numbering.{numbered_below, if_both}
use Rattle.quotient_components.proofs.Components.{linked_equivalence, component-below, components_few}

-- x where both of two tests pass, by their marks
both_marks : (a b : Bool) (x y : ℕ) → if_both (bit a) (bit b) x y ≡ cond (a && b) x y
unfolding if_both
both_marks true true x y = refl
both_marks true false x y = refl
both_marks false b x y = refl

pub counts_few : (t : Lts) (s c : ℕ) → c ≡ many s (leads (linked t)) → c ≤ s
counts_few t s c e = omega (arith, e, many-le s (leads (linked t)))

pub length-numbered : (t : Lts) (k : ℕ) → length (numbered_below t k) ≡ t.n
unfolding numbered_below
length-numbered t k = length-listed t.n _

module _ (t : Lts) (v : Valid t) where
  abbrev q : Equivalence (linked t)
  q = linked_equivalence t v

  abbrev low : ℕ → ℕ
  low u = least (linked t) u

  -- what stands in the cell of u where the components with least members below k are numbered
  abbrev stand : ℕ → ℕ → ℕ
  stand k u = cond (ltb (low u) k) (component t u) t.n

  numbered_at : (k u : ℕ) → u < t.n → get_or (numbered_below t k) u 0 ≡ stand k u
  unfolding numbered_below
  numbered_at k u h = listed_at t.n (λ u. stand k u) u h

  -- ---- at the start no state has a number
  pub number_none : (l : List ℕ) → l ≡ listed t.n (λ _. t.n) → l ≡ numbered_below t 0
  unfolding numbered_below
  number_none l e = e ∙ listed_cong t.n (λ _. t.n) (λ u. stand 0 u) (λ u h. rw (le-ltb (low u) 0 (omega arith)))

  -- ---- a state without a number is the least of its component
  module _ (s : ℕ) (h : s < t.n) (l : List ℕ) (e : l ≡ numbered_below t s) (x : ℕ) (f : x ≡ get_or l s 0) where
    cell : x ≡ stand s s
    cell = f ∙ ap (λ (y : List ℕ). get_or y s 0) e ∙ numbered_at s s h

    pub fresh_leads : x ≡ t.n → leads (linked t) s ≡ true
    unfolding leads
    fresh_leads z = go (ltb (low s) s) refl (sym cell ∙ z)
      where
        go : (b : Bool) → ltb (low s) s ≡ b → cond b (component t s) t.n ≡ t.n → eqb (low s) s ≡ true
        go true k z = absurd (omega (arith, z, component-below t v s h, components_few t v))
        go false k z = eq-eqb _ _ (le_antisymm (least_le (linked t) q s) (ltb-false (low s) s k))

    pub known_follows : (x ≡ t.n → ⊥) → leads (linked t) s ≡ false
    known_follows n =
        fails
        (λ e.
        let k : ltb (low s) s ≡ false = le-ltb (low s) s (omega (arith, leads_least (linked t) q s e)) in
        n (cell ∙ ap (λ (b : Bool). cond b (component t s) t.n) k))

  -- ---- a state whose component has another least member is numbered as before
  stays : (s u : ℕ) → (low u ≡ s → ⊥) → ltb (low u) s ≡ ltb (low u) (s + 1)
  stays s u n =
      ⊎_elim (λ (k : ltb (low u) s ≡ true). k ∙ sym (lt-ltb (low u) (s + 1) (omega (arith, ltb-true (low u) s k))))
      (λ (k : ltb (low u) s ≡ false). k ∙ sym (le-ltb (low u) (s + 1) (above (ltb-false (low u) s k) n))) (cases (ltb (low u) s))
    where
      above : {x y : ℕ} → y ≤ x → (x ≡ y → ⊥) → y + 1 ≤ x
      above h n = omega (arith, h, n)

  module _ (s : ℕ) (e : leads (linked t) s ≡ false) where
    pub number_skip : (l : List ℕ) → l ≡ numbered_below t s → l ≡ numbered_below t (s + 1)
    unfolding numbered_below
    number_skip l k =
        k ∙ listed_cong t.n (λ u. stand s u) (λ u. stand (s + 1) u)
        (λ u h.
        ap (λ (b : Bool). cond b (component t u) t.n)
        (stays s u (λ w. contra (sym (ap (leads (linked t)) w) ∙ least_leads (linked t) q u) e)))

    pub count_skip : (c : ℕ) → c ≡ many s (leads (linked t)) → c ≡ many (s + 1) (leads (linked t))
    count_skip c k = rw (add-one s) (k ∙ sym (many_miss s (leads (linked t)) e))

  -- ---- the component of its least member s is numbered
  module _ (s c : ℕ) (e : leads (linked t) s ≡ true) (k : c ≡ many s (leads (linked t))) where
    pub count_more : c + 1 ≡ many (s + 1) (leads (linked t))
    count_more = rw (add-one s) (omega (arith, k, many_hit s (leads (linked t)) e))

    here : (u : ℕ) → linked t s u ≡ true → c ≡ stand (s + 1) u
    unfolding component number
    here u m =
        let w : low u ≡ s = sym (least_same (linked t) q s u m) ∙ leads_least (linked t) q s e in
        k ∙ ap (λ (x : ℕ). many x (leads (linked t))) (sym w)
        ∙ ap (λ (b : Bool). cond b (many (low u) (leads (linked t))) t.n) (sym (lt-ltb (low u) (s + 1) (omega (arith, w))))

    else_where : (u : ℕ) → linked t s u ≡ false → stand s u ≡ stand (s + 1) u
    else_where u m =
        ap (λ (b : Bool). cond b (component t u) t.n)
        (stays s u (λ w. contra (least_differ (linked t) q s u (leads_least (linked t) q s e ∙ sym w)) m))

    one : (u : ℕ) → u < t.n
        → if_both (get_or (marks_from t s) u 0) (get_or (marks_into t s) u 0) c (get_or (numbered_below t s) u 0) ≡ stand (s + 1) u
    unfolding linked
    one u l =
        rw (
          listed_at t.n (λ x. bit (reaches t true s x)) u l,
          listed_at t.n (λ x. bit (reaches t true x s)) u l,
          numbered_at s u l,
          both_marks (reaches t true s u) (reaches t true u s) c (stand s u),
        )
        (⊎_elim (λ (m : linked t s u ≡ true). ap (λ (b : Bool). cond b c (stand s u)) m ∙ here u m)
        (λ (m : linked t s u ≡ false). ap (λ (b : Bool). cond b c (stand s u)) m ∙ else_where u m) (cases (linked t s u)))

    pub number_more :
        (f b l x : List ℕ) → f ≡ marks_from t s → b ≡ marks_into t s → l ≡ numbered_below t s
        → x ≡ listed (length l) (λ u. if_both (get_or f u 0) (get_or b u 0) c (get_or l u 0)) → x ≡ numbered_below t (s + 1)
    unfolding numbered_below
    number_more f b l x ef eb el ex =
        ex ∙ ap (λ (n : ℕ). listed n (λ u. if_both (get_or f u 0) (get_or b u 0) c (get_or l u 0))) (ap length el ∙ length-numbered t s)
        ∙ listed_cong t.n (λ u. if_both (get_or f u 0) (get_or b u 0) c (get_or l u 0)) (λ u. stand (s + 1) u)
        (λ u h. rw (ef, eb, el) (one u h))

  -- ---- at the end all have
  pub number_done : (s : ℕ) (l : List ℕ) → t.n ≤ s → l ≡ numbered_below t s → l ≡ listed t.n (component t)
  unfolding numbered_below
  number_done s l h e =
      e ∙ listed_cong t.n (λ u. stand s u) (component t)
      (λ u w. ap (λ (b : Bool). cond b (component t u) t.n) (lt-ltb (low u) s (omega (arith, least_le (linked t) q u))))

  pub count_done : (s c : ℕ) → s ≡ t.n → c ≡ many s (leads (linked t)) → c ≡ components t
  unfolding components
  count_done s c h e = e ∙ ap (λ (x : ℕ). many x (leads (linked t))) h
