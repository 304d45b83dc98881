-- The incoming list: exactly the rows, each once, ascending by target, then source, then label.
use Rattle.std.specs.Prelude.{◌≡◌, ℕ, ◌+◌, ◌<◌, ◌≤◌, true, ◌&&◌, ltb, leb, List, [], ◌∷◌, ◌++◌, length, get_or, take, drop}
use mathlib.Core.Path.{refl, sym, ap, ap₂, ◌∙◌}
use mathlib.Core.Logic.{⊎_elim}
use native.Mathlib.Omega.{arith}
use native.Mathlib.Nat.{eq-or-lt_of_le}
use borrow.Author.Tests.{ltb-true, leb-true}
use lib.Seq.{length-take-le}
use Rattle.columns.specs.Answers.{Refusal}
use Rattle.columns.specs.Columns.{listed, over, key_of, sort_by}
use Rattle.columns.specs.Sets.{Row, row_lt, pair_lt}
use Rattle.columns.specs.Sort.{sort}
use Rattle.columns.proofs.Apart.{sorted_strictly}
use Rattle.columns.proofs.Bools.{contra, and_left, and_right}
use Rattle.columns.proofs.Chains.{passed}
use Rattle.columns.proofs.Facts.{sort_in, sort_out, at_mem, mem_at}
use Rattle.columns.proofs.Lists.{length-listed}
use Rattle.columns.proofs.Orders.{row_order, lex-split, ltb_order, pair_order}
use Rattle.columns.proofs.Risings.{listed_in, listed_out}
use Rattle.columns.proofs.Rooms.{roomy_of}
use Rattle.columns.proofs.Sorts.{length_sort}
use Rattle.columns.specs.Rows.{row_in}
use Rattle.table.specs.Lts.{Lts, row_at, Valid}
use Rattle.table.specs.Checks.{works_long, table_tests}
use Rattle.table.specs.Incoming.{incoming_order, back_row, incoming_refusal}
use Rattle.table.specs.Stretch.{listed_target, ByTarget}
use Rattle.table.proofs.Rows.{key_row}
use Rattle.table.proofs.Refusals.{checked_of}

-- what the list is
pub record Incoming (t : Lts) (l : List ℕ) : Type 0 where
  pub size : length l ≡ t.m
  pub row : (p : ℕ) → p < t.m → get_or l p 0 < t.m
  pub onto : (i : ℕ) → i < t.m → (p : ℕ) × (p < t.m) × (get_or l p 0 ≡ i)
  pub ascending : (p q : ℕ) → p < q → q < t.m → row_lt (back_row t (get_or l p 0)) (back_row t (get_or l q 0)) ≡ true

pub incoming_length : (t : Lts) → length (incoming_order t) ≡ t.m
unfolding incoming_order sort_by
incoming_length t =
    length_sort row_lt (key_of t.target t.source t.label) row_order (listed t.m (λ k. k)) ∙ length-listed t.m (λ (k : ℕ). k)

module _ (t : Lts) (v : Valid t) where
  pub key_back : (i : ℕ) → i < t.m → key_of t.target t.source t.label i ≡ back_row t i
  key_back i h = key_row t.target t.source t.label i (omega (arith, h, v.long.target)) (omega (arith, h, v.long.source))
      (omega (arith, h, v.long.label))

  -- no two rows are the same
  pub back_apart : (i j : ℕ) → i < j → j < t.m → back_row t i ≡ back_row t j → ⊥
  unfolding row_in
  back_apart i j h l e =
      let same : row_at t i ≡ row_at t j = ap (λ (r : Row). (r.1.0, (r.1.1, r.0))) e in
      contra (v.ascending i j h l) (ap (λ (r : Row). row_lt r (row_at t j)) same ∙ row_order.irrefl (row_at t j))

  pub incoming_law : Incoming t (incoming_order t)
  unfolding incoming_order sort_by
  incoming_law = record { size = incoming_length t; row = below; onto = onto; ascending = up }
    where
      k : ℕ → Row
      k = key_of t.target t.source t.label

      l : List ℕ
      l = listed t.m (λ k. k)

      below : (p : ℕ) → p < t.m → get_or (sort row_lt k l) p 0 < t.m
      below p h =
          let q = listed_out t.m (λ k. k) _ (sort_out row_lt k row_order l _
          (at_mem (sort row_lt k l) p (omega (arith, h, incoming_length t)))) in
          omega (arith, q.below, q.same)

      onto : (i : ℕ) → i < t.m → (p : ℕ) × (p < t.m) × (get_or (sort row_lt k l) p 0 ≡ i)
      onto i h =
          let q = mem_at (sort row_lt k l) i (sort_in row_lt k row_order l i (listed_in t.m (λ k. k) i h)) in
          (q.0, omega (arith, q.1, incoming_length t), q.2)

      up : (p q : ℕ) → p < q → q < t.m → row_lt (back_row t (get_or (sort row_lt k l) p 0)) (back_row t (get_or (sort row_lt k l) q 0)) ≡ true
      up p q h w =
          sym (ap₂ row_lt (key_back (get_or (sort row_lt k l) p 0) (below p (omega arith))) (key_back (get_or (sort row_lt k l) q 0) (below q w)))
          ∙ sorted_strictly row_lt k row_order t.m
          (λ i j a b e. back_apart i j a b (sym (key_back i (omega arith)) ∙ (e ∙ key_back j b))) p q h
          (omega (arith, w, incoming_length t))

  -- its rows come by target, so that those into a state are a stretch of it
  pub incoming_by_target : ByTarget t.target (incoming_order t) t.m
  unfolding row_in row_lt
  incoming_by_target = record {
    room = omega (arith, incoming_length t);
    row = λ k h. omega (arith, incoming_law.row k h, v.long.target);
    rising = λ p q h w.
        ⊎_elim (λ (e : p ≡ q). omega (arith, ap (λ (k : ℕ). listed_target t.target (incoming_order t) k) e))
        (λ (k : p < q).
        let x : Row = back_row t (get_or (incoming_order t) p 0) in
        let y : Row = back_row t (get_or (incoming_order t) q 0) in
        ⊎_elim (λ (e : ltb x.0 y.0 ≡ true). omega (arith, ltb-true x.0 y.0 e)) (λ e. omega (arith, e.0))
        (lex-split ltb pair_lt ltb_order pair_order x y (incoming_law.ascending p q k w)))
        (eq-or-lt_of_le h);
  }

-- ---- the call
pub record IncomingReady (t : Lts) (result spare : ℕ) : Type 0 where
  pub valid : Valid t
  pub long : t.m ≤ result
  pub wide : (t.n + t.m) + 1 ≤ spare

pub incoming_ready :
    (t : Lts) (result spare : ℕ) (r : Refusal) → r ≡ incoming_refusal t result spare → r.number ≡ 0 → IncomingReady t result spare
unfolding incoming_refusal
incoming_ready t result spare r e z =
    let long = leb t.m result in
    let wide = works_long t (spare ∷ []) in
    let c = checked_of t (long && wide) (passed (table_tests t (long && wide)) refl r e z) in
    record {
      valid = c.valid;
      long = leb-true t.m result (and_left long wide c.enough);
      wide = (roomy_of (t.n + t.m + 1) (spare ∷ []) (and_right long wide c.enough)).0;
    }

-- the sorted numbers come back to the front of the result
pub incoming_over : (t : Lts) (result x : List ℕ) → t.m ≤ length result
    → x ≡ sort_by t.target t.source t.label (listed (length (take t.m result)) (λ k. k)) → x ++
    drop t.m result ≡ over (incoming_order t) result
unfolding over incoming_order
incoming_over t result x h e =
    ap₂ (λ (a b : List ℕ). a ++ b) (e ∙ ap (λ (k : ℕ). sort_by t.target t.source t.label (listed k (λ k. k)))
    (length-take-le t.m result h))
    (ap (λ (k : ℕ). drop k result) (sym (incoming_length t)))
