-- Laws of the refusals: what holds once a table is checked.
use Rattle.std.specs.Prelude.{◌≡◌, ℕ, zero, suc, ◌+◌, ◌-◌, ◌<◌, ◌≤◌, Bool, true, false, not, ◌&&◌, ◌||◌, eqb, ltb, leb, List, [], ◌∷◌, ◌++◌, length, get_or}
use native.Mathlib.Omega.{arith}
use native.Mathlib.Nat.{le_antisymm}
use borrow.Author.Tests.{ltb-true, leb-true, lt-ltb, le-leb, lt-leb, eq-eqb, ne_eqb, not-false}
use mathlib.Core.Path.{refl, ap, ap₂, sym, ◌∙◌}
use mathlib.Core.Logic.{⊎_elim}
use Rattle.columns.specs.Limits.{max_labels, max_rows, max_states, not_above, wrong_field}
use Rattle.columns.specs.Answers.{Refusal}
use Rattle.columns.specs.Answers.{refusal, none}
use Rattle.columns.specs.Columns.{comes_before}
use Rattle.columns.specs.Due.{due, index_test}
use Rattle.columns.specs.Sets.{row_lt}
use Rattle.columns.proofs.Bools.{contra, and_left, and_right, and_both, and_no_left, and_no_right, or_left}
use Rattle.columns.proofs.All.{top_or-below, not-below}
use Rattle.columns.proofs.Chains.{Holds, passed_both, holds_both, none-due}
use Rattle.columns.proofs.Counting.{First, first_law}
use Rattle.columns.proofs.Orders.{row_order}
use Rattle.columns.proofs.Rooms.{range_of, of_range, roomy_of, of_roomy}
use Rattle.columns.specs.Rows.{row_in}
use Rattle.table.specs.Lts.{Lts, row_at, RowsLong, Fields, Valid}
use Rattle.table.specs.Checks.{rows_long, fieldsb, aboveb, bad_row, row_tests, table_tests, table_argument_refusal}
use Rattle.table.specs.Transitions.{next_refusal}
use Rattle.table.proofs.Rows.{key_row}

-- ---- each test and what it says
module _ (a b c : List ℕ) where
  pub above_first : (i : ℕ) → i ≡ 0 → true ≡ aboveb a b c i
  unfolding aboveb
  above_first i e = sym (or_left (eqb i 0) (row_lt (row_in a b c (i - 1)) (row_in a b c i)) (eq-eqb i 0 e))

  above_row : (i : ℕ) → (i ≡ 0 → ⊥) → aboveb a b c i ≡ row_lt (row_in a b c (i - 1)) (row_in a b c i)
  unfolding aboveb
  above_row i n = ap (λ (t : Bool). t || row_lt (row_in a b c (i - 1)) (row_in a b c i)) (ne_eqb i 0 n)

  pub above_next : (i : ℕ) → (i ≡ 0 → ⊥) → i < length a → i < length b → i < length c → comes_before a b c (i - 1) i ≡ aboveb a b c i
  unfolding comes_before
  above_next i n ha hb hc =
      ap₂ row_lt (key_row a b c (i - 1) (omega arith) (omega arith) (omega arith)) (key_row a b c i ha hb hc) ∙ sym (above_row i n)

module _ (t : Lts) where
  abbrev three : List ℕ
  three = length t.source ∷ length t.label ∷ length t.target ∷ []

  pub long_of : rows_long t ≡ true → RowsLong t
  unfolding rows_long
  long_of e = let h = roomy_of t.m three e in record { source = h.0; label = h.1.0; target = h.1.1.0 }

  pub of_long : RowsLong t → rows_long t ≡ true
  unfolding rows_long
  of_long l = of_roomy t.m three (l.source, (l.label, (l.target, tt)))

  pub fields_of : (i : ℕ) → fieldsb t i ≡ true → Fields t i
  unfolding fieldsb
  fields_of i e =
      let a = ltb (get_or t.source i 0) t.n in
      let b = ltb (get_or t.label i 0) t.labels in
      let c = ltb (get_or t.target i 0) t.n in
      let r = and_right a (b && c) e in
      record {
        source = ltb-true _ _ (and_left a (b && c) e);
        label = ltb-true _ _ (and_left b c r);
        target =
            ltb-true _ _ (and_right b c r);
      }

  pub of_fields : (i : ℕ) → Fields t i → fieldsb t i ≡ true
  unfolding fieldsb
  of_fields i f = and_both (lt-ltb _ _ f.source) (and_both (lt-ltb _ _ f.label) (lt-ltb _ _ f.target))

  above_of : (i j : ℕ) → j ≡ suc i → aboveb t.source t.label t.target j ≡ true → row_lt (row_at t i) (row_at t j) ≡ true
  above_of i j e a =
      let q : i ≡ j - 1 = omega arith in
      ap (λ (k : ℕ). row_lt (row_at t k) (row_at t j)) q ∙
      (sym (above_row t.source t.label t.target j (λ z. omega (arith, e, z))) ∙ a)

  of_above : (j : ℕ) → ((i : ℕ) → j ≡ suc i → row_lt (row_at t i) (row_at t j) ≡ true) → aboveb t.source t.label t.target j ≡ true
  of_above zero h = sym (above_first t.source t.label t.target 0 refl)
  of_above (suc i) h = above_row t.source t.label t.target (suc i) (λ z. omega (arith, z)) ∙
      (ap (λ (k : ℕ). row_lt (row_at t k) (row_at t (suc i))) (back i) ∙ h i refl)
    where
      back : (i : ℕ) → suc i - 1 ≡ i
      back i = omega arith

  -- ---- the faults of rows
  -- row i has none
  abbrev rightb : ℕ → Bool
  rightb i = fieldsb t i && aboveb t.source t.label t.target i

  right_of : (i : ℕ) → rightb i ≡ true → (fieldsb t i ≡ true) × (aboveb t.source t.label t.target i ≡ true)
  right_of i e =
      let a = aboveb t.source t.label t.target i in
      (and_left (fieldsb t i) a e, and_right (fieldsb t i) a e)

  -- the first rows have no fault
  abbrev pub Right : ℕ → Type 0
  Right k = (i : ℕ) → i < k → rightb i ≡ true

  pub right_more : (k : ℕ) → Right k → fieldsb t k ≡ true → aboveb t.source t.label t.target k ≡ true → Right (k + 1)
  right_more k r f a i h =
      ⊎_elim (λ (q : i ≡ k). ap rightb q ∙ and_both f a) (λ (l : i < k). r i l) (top_or-below (omega (arith, h)))

  bad_law : First t.m (λ i. not (rightb i)) (bad_row t)
  unfolding bad_row
  bad_law = first_law t.m (λ i. not (rightb i))

  -- the lowest row with a fault is the one that has none before it
  bad_is : (k : ℕ) → k ≤ t.m → Right k → (k < t.m → rightb k ≡ false) → bad_row t ≡ k
  bad_is k h r b =
      le_antisymm
      (not-below (λ l. contra (ap not (b (omega (arith, l, bad_law.bound)))) (bad_law.before k l)))
      (not-below (λ l. contra (bad_law.hit (omega (arith, l, h))) (ap not (r (bad_row t) l))))

  pub rows_right : (k : ℕ) → k ≡ t.m → Right k → none ≡ due (row_tests t)
  unfolding due
  rows_right k e r = rw (bad_is k (omega arith) r (λ l. absurd (omega arith)), le-leb t.m k (omega arith))

  module _ (k : ℕ) (h : k < t.m) (r : Right k) where
    pub rows_field : fieldsb t k ≡ false → refusal wrong_field k ≡ due (row_tests t)
    unfolding due
    rows_field f =
        rw (bad_is k (omega arith) r (λ l. and_no_left (fieldsb t k) (aboveb t.source t.label t.target k) f), lt-leb t.m k h, f)

    pub rows_above : fieldsb t k ≡ true → aboveb t.source t.label t.target k ≡ false → refusal not_above k ≡ due (row_tests t)
    unfolding due
    rows_above f a =
        rw (
          bad_is k (omega arith) r (λ l. and_no_right (fieldsb t k) (aboveb t.source t.label t.target k) a),
          lt-leb t.m k
              h,
          f,
        )

  bad_none : leb t.m (bad_row t) ≡ true → Right t.m
  bad_none e i h = not-false (rightb i) (bad_law.before i (omega (arith, h, leb-true t.m (bad_row t) e)))

  ascending_of : Right t.m → (i j : ℕ) → i < j → j < t.m → row_lt (row_at t i) (row_at t j) ≡ true
  ascending_of r i zero h l = absurd (omega arith)
  ascending_of r i (suc j) h l =
      ⊎_elim (λ (e : i ≡ j). above_of i (suc j) (ap suc (sym e)) (right_of (suc j) (r (suc j) l)).1)
      (λ (k : i < j). row_order.trans (row_at t i) (row_at t j) (row_at t (suc j)) (ascending_of r i j k (omega arith))
      (above_of j (suc j) refl (right_of (suc j) (r (suc j) l)).1))
      (top_or-below h)

-- ---- what a call goes by whose table is checked
pub record TableChecked (t : Lts) (room : Bool) : Type 0 where
  pub valid : Valid t
  pub enough : room ≡ true

module _ (t : Lts) (room : Bool) where
  -- every test of a table holds exactly if it is right and there is room
  pub checked_of : Holds (table_tests t room) → TableChecked t room
  checked_of h =
      let n = range_of 1 t.n max_states h.0 in
      let l = range_of 1 t.labels max_labels h.1.0 in
      let long = h.1.1.1.1.0 in
      let r = bad_none t h.1.1.1.1.1.1.0 in
      record {
        valid = record {
          some_states = n.0;
          few_states = n.1;
          some_labels = l.0;
          few_labels = l.1;
          few_rows = leb-true t.m max_rows h.1.1.0;
          initial = ltb-true t.initial t.n h.1.1.1.0;
          long = long_of t (and_left (rows_long t) room long);
          fields = λ i w. fields_of t i (right_of t i (r i w)).0;
          ascending = ascending_of t r;
        };
        enough = and_right (rows_long t) room long;
      }

  pub of_checked : Valid t → room ≡ true → Holds (table_tests t room)
  of_checked v e =
      let none-bad : leb t.m (bad_row t) ≡ true
      = le-leb t.m (bad_row t) (omega (arith, bad_is t t.m (omega arith) right (λ l. absurd (omega (arith, l))))) in (
        of_range 1 t.n max_states v.some_states v.few_states,
        (
          of_range 1 t.labels max_labels v.some_labels v.few_labels,
          (
            le-leb t.m max_rows v.few_rows,
            (
              lt-ltb t.initial t.n v.initial,
              (
                and_both (of_long t v.long) e,
                (or_left (leb t.m (bad_row t)) (fieldsb t (bad_row t)) none-bad, (none-bad, tt)),
              ),
            ),
          ),
        ),
      )
    where
      right : Right t t.m
      right i h = and_both (of_fields t i (v.fields i h)) (of_above t i (λ j q. v.ascending j i (omega arith) h))

-- and one whose argument is too
pub record Asked (t : Lts) (i bound : ℕ) (room : Bool) : Type 0 where
  pub valid : Valid t
  pub known : i < bound
  pub enough : room ≡ true

module _ (t : Lts) (i bound : ℕ) (room : Bool) where
  pub asked_of : (r : Refusal) → r ≡ table_argument_refusal t i bound room → r.number ≡ 0 → Asked t i bound room
  unfolding table_argument_refusal
  asked_of r e z =
      let h = passed_both (table_tests t room) (index_test i bound ∷ []) refl r e z in
      let c = checked_of t room h.0 in
      record { valid = c.valid; known = ltb-true i bound h.1.0; enough = c.enough }

  pub asked_valid : Valid t → i < bound → room ≡ true → table_argument_refusal t i bound room ≡ none
  unfolding table_argument_refusal
  asked_valid v h e =
      let k = index_test i bound ∷ [] in
      none-due (table_tests t room ++ k) (holds_both (table_tests t room) k (of_checked t room v e) (lt-ltb i bound h, tt))

-- and one with a state, and the row from which another one is sought
pub record NextAsked (t : Lts) (u from : ℕ) : Type 0 where
  pub valid : Valid t
  pub known : u < t.n
  pub fits : from ≤ t.m

module _ (t : Lts) (u from : ℕ) where
  pub next_asked : (r : Refusal) → r ≡ next_refusal t u from → r.number ≡ 0 → NextAsked t u from
  unfolding next_refusal
  next_asked r e z =
      let h = passed_both (table_tests t true) (index_test u t.n ∷ index_test from (t.m + 1) ∷ []) refl r e z in
      record {
        valid = (checked_of t true h.0).valid;
        known = ltb-true u t.n h.1.0;
        fits = omega (arith, ltb-true from (t.m + 1) h.1.1.0);
      }

  pub next_valid : Valid t → u < t.n → from ≤ t.m → next_refusal t u from ≡ none
  unfolding next_refusal
  next_valid v h l =
      let k = index_test u t.n ∷ index_test from (t.m + 1) ∷ [] in
      none-due (table_tests t true ++ k)
      (holds_both (table_tests t true) k (of_checked t true v refl) (lt-ltb u t.n h, (lt-ltb from (t.m + 1) (omega arith), tt)))
