-- The successors of a state are the targets of its accepted rows to other states; together they are no more than the rows.
use Rattle.std.specs.Prelude.{◌≡◌, ℕ, ◌+◌, ◌<◌, ◌≤◌, Bool, true, false, cond, not, eqb, ◌⊎◌, List, [], ◌∷◌, length, get_or}
use mathlib.Core.Path.{refl, sym, ap, ◌∙◌, subst}
use mathlib.Core.Logic.{inl, inr, ⊎_elim}
use mathlib.Core.List.Memᴰ
use native.Mathlib.Omega.{arith}
use borrow.Author.Tests.{eqb-true, eq-eqb, ne_eqb, not-true}
use Rattle.columns.specs.Counting.{sum}
use Rattle.columns.specs.Rows.{rows_of}
use Rattle.columns.specs.Sets.{Mem, Row, StepIn}
use Rattle.columns.proofs.All.{lt-or-le}
use Rattle.columns.proofs.Bools.{contra, and_left, and_right, and_both}
use Rattle.columns.proofs.Lists.{length-listed}
use Rattle.columns.proofs.Sums.{sum_mono, sum-add, sum_cong, sum-zero, sum_pick}
use Rattle.table.specs.Lts.{Lts, Step, Valid, rows}
use Rattle.table.specs.Reach.{takes, edge}
use Rattle.table.proofs.Rows.{step_fields}
use Rattle.table.proofs.Walks.{edge_step}
use Rattle.table_order.specs.Order.{counts, own_counts, succs, next}
use Rattle.table_order.specs.Machine.{arc, new_in, left}
use Rattle.table_order.proofs.Machine.{weight}
use Rattle.table_order.proofs.Ordered.{arc_mem, mem_arc}

pub counts_of : (hidden : Bool) (s a u : ℕ) → counts hidden s a u ≡ true → (takes hidden a ≡ true) × (s ≡ u → ⊥)
unfolding counts
counts_of hidden s a u h = (
  and_left (takes hidden a) (not (eqb u s)) h,
  λ e. contra (eq-eqb u s (sym e)) (not-true (eqb u s) (and_right (takes hidden a) (not (eqb u s)) h)),
)

pub of_counts : (hidden : Bool) (s a u : ℕ) → takes hidden a ≡ true → (s ≡ u → ⊥) → counts hidden s a u ≡ true
unfolding counts
of_counts hidden s a u k f = and_both k (ap not (ne_eqb u s (λ e. f (sym e))))

-- an accepted row from s to another state
pub record Accepted (hidden : Bool) (rs : List Row) (s u : ℕ) : Type 0 where
  pub label : ℕ
  pub row : StepIn rs s label u
  pub taken : takes hidden label ≡ true
  pub other : s ≡ u → ⊥

own_counts_of : (hidden : Bool) (s : ℕ) (r : Row) → own_counts hidden s r ≡ true → (r.0 ≡ s) × (counts hidden s r.1.0 r.1.1 ≡ true)
unfolding own_counts
own_counts_of hidden s r h = (
  eqb-true _ _ (and_left (eqb r.0 s) (counts hidden s r.1.0 r.1.1) h),
  and_right (eqb r.0 s) (counts hidden s r.1.0 r.1.1) h,
)

of_own_counts : (hidden : Bool) (s a u : ℕ) → takes hidden a ≡ true → (s ≡ u → ⊥) → own_counts hidden s (s, (a, u)) ≡ true
unfolding own_counts
of_own_counts hidden s a u k f = and_both (eq-eqb s s refl) (of_counts hidden s a u k f)

same_row : (r : Row) (s u : ℕ) → r.0 ≡ s → u ≡ r.1.1 → ◌≡◌ {A = Row} (s, (r.1.0, u)) r
same_row r s u p q = rw (q, ← p)

pub succs_row : (hidden : Bool) (rs : List Row) (s u : ℕ) → Mem u (succs hidden rs s) → Accepted hidden rs s u
unfolding succs
succs_row hidden [] s u m = absurd (Memᴰ.not-nil m)
succs_row hidden (r ∷ rs) s u m = go (succs_row hidden rs s u) (own_counts hidden s r) refl m
  where
    later : Accepted hidden rs s u → Accepted hidden (r ∷ rs) s u
    later p = record { label = p.label; row = Memᴰ.tail p.row; taken = p.taken; other = p.other }

    go : (Mem u (succs hidden rs s) → Accepted hidden rs s u) → (b : Bool) → own_counts hidden s r ≡ b →
        Mem u (cond b (r.1.1 ∷ succs hidden rs s) (succs hidden rs s)) → Accepted hidden (r ∷ rs) s u
    go ih true e m = ⊎_elim hit (λ k. later (ih k)) (Memᴰ.cases_cons m)
      where
        hit : u ≡ r.1.1 → Accepted hidden (r ∷ rs) s u
        hit q =
            let p = own_counts_of hidden s r e in
            let c = counts_of hidden s r.1.0 r.1.1 p.1 in
            record { label = r.1.0; row = Memᴰ.head (same_row r s u p.0 q); taken = c.0; other = λ i. c.1 (i ∙ q) }
    go ih false e m = later (ih m)

pub row_succs : (hidden : Bool) (rs : List Row) (s u : ℕ) → Accepted hidden rs s u → Mem u (succs hidden rs s)
unfolding succs
row_succs hidden rs s u a = there rs a.row
  where
    there : (l : List Row) → StepIn l s a.label u → Mem u (succs hidden l s)
    there [] m = absurd (Memᴰ.not-nil m)
    there (r ∷ l) m = go (there l) (own_counts hidden s r) refl (Memᴰ.cases_cons m)
      where
        go : (StepIn l s a.label u → Mem u (succs hidden l s)) → (b : Bool) → own_counts hidden s r ≡ b →
            (◌≡◌ {A = Row} (s, (a.label, u)) r) ⊎ StepIn l s a.label u →
            Mem u (cond b (r.1.1 ∷ succs hidden l s) (succs hidden l s))
        go ih true e (inl q) = Memᴰ.head (ap (λ (x : Row). x.1.1) q)
        go ih true e (inr k) = Memᴰ.tail (ih k)
        go ih false e (inl q) =
            absurd (contra (subst (λ (x : Row). own_counts hidden s x ≡ true) q (of_own_counts hidden s a.label u a.taken a.other)) e)
        go ih false e (inr k) = ih k

-- ---- in terms of steps
module _ (t : Lts) (hidden : Bool) where
  pub step_next : (s a u : ℕ) → Step t s a u → takes hidden a ≡ true → (s ≡ u → ⊥) → Mem u (next t hidden s)
  step_next s a u p k f = row_succs hidden (rows t) s u record { label = a; row = p; taken = k; other = f }

  pub arc-edge : (s u : ℕ) → arc (next t hidden) s u ≡ true → (edge t hidden s u ≡ true) × (s ≡ u → ⊥)
  arc-edge s u e =
      let a = succs_row hidden (rows t) s u (arc_mem (next t hidden) s u e) in
      ((edge_step t hidden s u).1 (a.label, a.taken, a.row), a.other)

  pub edge-arc : (s u : ℕ) → edge t hidden s u ≡ true → (s ≡ u → ⊥) → arc (next t hidden) s u ≡ true
  edge-arc s u e f = let p = (edge_step t hidden s u).0 e in mem_arc (next t hidden) s u (step_next s p.0 u p.2 p.1 f)

  pub irreflexive : (s : ℕ) → Mem s (next t hidden s) → ⊥
  irreflexive s p = (succs_row hidden (rows t) s s p).other refl

  module _ (v : Valid t) where
    pub starts : (s u : ℕ) → Mem u (next t hidden s) → s < t.n
    starts s u p = let a = succs_row hidden (rows t) s u p in (step_fields t v s a.label u a.row).0

    pub inside : (s u : ℕ) → Mem u (next t hidden s) → u < t.n
    inside s u p = let a = succs_row hidden (rows t) s u p in (step_fields t v s a.label u a.row).1.1

-- ---- at most one successor for each row
module _ (marks : List ℕ) (n : ℕ) where
  -- a row counts for its source alone
  one_source : (hidden : Bool) (r : Row) → sum (weight (λ s. cond (own_counts hidden s r) 1 0) marks) n ≤ 1
  one_source hidden r =
      omega (
        arith,
        sum_mono (weight (λ s. cond (own_counts hidden s r) 1 0) marks) (λ s. cond (eqb r.0 s) 1 0) n
            (λ s h. go s (new_in marks s) (own_counts hidden s r) refl),
        most (lt-or-le r.0 n),
      )
    where
      go : (s : ℕ) (b c : Bool) → own_counts hidden s r ≡ c → cond b (cond c 1 0) 0 ≤ cond (eqb r.0 s) 1 0
      go s true true e = rw (eq-eqb r.0 s (own_counts_of hidden s r e).0) (omega arith)
      go s true false e = omega arith
      go s false c e = omega arith

      most : (r.0 < n) ⊎ (n ≤ r.0) → sum (λ s. cond (eqb r.0 s) 1 0) n ≤ 1
      most (inl h) = omega (arith, sum_pick r.0 n (λ _. 1) h)
      most (inr h) =
          omega (
            arith,
            sum_cong (λ s. cond (eqb r.0 s) 1 0) (λ _. 0) n (λ s l. rw (ne_eqb r.0 s (λ e. omega (arith, e, l, h)))),
            sum-zero n,
          )

  total : (hidden : Bool) (rs : List Row) → left (λ s. length (succs hidden rs s)) marks n ≤ length rs
  unfolding left succs
  total hidden [] = omega (arith, sum_cong (weight (λ s. 0) marks) (λ _. 0) n (λ s l. none (new_in marks s)), sum-zero n)
    where
      none : (b : Bool) → ◌≡◌ {A = ℕ} (cond b 0 0) 0
      none true = refl
      none false = refl
  total hidden (r ∷ rs) =
      omega (
        arith,
        total hidden rs,
        sum_cong (weight (λ s. length (succs hidden (r ∷ rs) s)) marks)
            (λ s. weight (λ s. length (succs hidden rs s)) marks s + weight (λ s. cond (own_counts hidden s r) 1 0) marks s) n
            (λ s l. split s (new_in marks s) (own_counts hidden s r)),
        sum-add (weight (λ s. length (succs hidden rs s)) marks) (weight (λ s. cond (own_counts hidden s r) 1 0) marks) n,
        one_source hidden r,
      )
    where
      split : (s : ℕ) (b c : Bool)
          → cond b (length (cond c (r.1.1 ∷ succs hidden rs s) (succs hidden rs s))) 0 ≡ cond b (length (succs hidden rs s)) 0 + cond b
          (cond c 1 0) 0
      split s true true = omega arith
      split s true false = omega arith
      split s false c = omega arith

  pub total_rows : (t : Lts) (hidden : Bool) → left (λ s. length (next t hidden s)) marks n ≤ t.m
  unfolding rows_of
  total_rows t hidden =
      omega (
        arith,
        total hidden (rows t),
        length-listed {A = Row} t.m (λ i. (get_or t.source i 0, (get_or t.label i 0, get_or t.target i 0))),
      )
