-- A row can go exactly if document 01 says so; the rows that stay are all others, ascending, and no other list is.
use Rattle.std.specs.Prelude.{◌≡◌, ℕ, ◌<◌, ◌≤◌, true, not, ◌&&◌, eqb, ltb, ◌↔◌, List, map, length, get_or}
use mathlib.Core.Path.{sym, ap, subst, ◌∙◌}
use mathlib.Core.Logic.{⊎_elim}
use mathlib.Core.List.{map-map}
use native.Mathlib.Omega.{arith}
use borrow.Author.Tests.{eqb-true, eqb-false, eq-eqb, ne_eqb, not-true, ltb-true}
use lib.ListN.{length-map}
use Rattle.columns.specs.Columns.{over, cell}
use Rattle.columns.specs.Counting.{many, members}
use Rattle.columns.specs.Rows.{first_of, second_of, third_of, row_in}
use Rattle.columns.specs.Sets.{Mem, Row, row_lt, Ascending, StepIn}
use Rattle.columns.proofs.All.{lt-or-le}
use Rattle.columns.proofs.Bools.{contra, fails, and_left, and_right, and_both}
use Rattle.columns.proofs.Firsts.{some_in, some_out}
use Rattle.columns.proofs.Lists.{get_d_any}
use Rattle.columns.proofs.Maps.{map_in, map_out, map_ascending, map_alike}
use Rattle.columns.proofs.Members.{length-members, members_in, members_out, members_ascending}
use Rattle.columns.proofs.Orders.{row_order}
use Rattle.columns.proofs.Sets.{ascending_unique, same_row}
use Rattle.table.specs.Lts.{Lts, row_at, Step, Valid}
use Rattle.table.specs.Reach.{reaches}
use Rattle.table.specs.Tables.{rows_over}
use Rattle.table.proofs.Rows.{row_step, step_row}
use Rattle.table.proofs.Walks.{reaches_walk}
use Rattle.quotient_redundant.specs.Redundant.{Redundant, moves, rival, witness, redundant, remains, remaining_rows}

module _ (t : Lts) (v : Valid t) where
  -- ---- no row stands twice
  apart : (i j : ℕ) → i < j → j < t.m → row_at t i ≡ row_at t j → ⊥
  apart i j h l e = contra (v.ascending i j h l) (ap (λ (r : Row). row_lt r (row_at t j)) e ∙ row_order.irrefl (row_at t j))

  one_row : (i j : ℕ) → i < t.m → j < t.m → row_at t i ≡ row_at t j → i ≡ j
  one_row i j h l e =
      ⊎_elim (λ (a : i < j). absurd (apart i j a l e))
      (λ (a : j ≤ i). ⊎_elim (λ (b : j < i). absurd (apart j i b h (sym e))) (λ (b : i ≤ j). omega arith) (lt-or-le j i)) (lt-or-le i j)

  -- ---- one row, with its fields s, a and u, and a row j, with its fields x, b and y
  module _ (i : ℕ) (h : i < t.m) where
    abbrev s : ℕ
    s = get_or t.source i 0

    abbrev a : ℕ
    a = get_or t.label i 0

    abbrev u : ℕ
    u = get_or t.target i 0

    module _ (j : ℕ) (l : j < t.m) where
      abbrev x : ℕ
      x = get_or t.source j 0

      abbrev b : ℕ
      b = get_or t.label j 0

      abbrev y : ℕ
      y = get_or t.target j 0

      witness_of : witness t i j ≡ true → Redundant t s a u
      unfolding witness rival moves row_in
      witness_of e =
          let near = and_left (rival t.source t.label t.target i j) (reaches t true s x && reaches t true y u) e in
          let far = and_right (rival t.source t.label t.target i j) (reaches t true s x && reaches t true y u) e in
          let rest = and_right (not (eqb j i)) (eqb b a && moves t.source t.label t.target j) near in
          let alike : b ≡ a = eqb-true b a (and_left (eqb b a) (moves t.source t.label t.target j) rest) in
          record {
            from = x;
            to = y;
            before = (reaches_walk t true v s x).0 (and_left (reaches t true s x) (reaches t true y u) far);
            row = subst (λ (c : ℕ). Step t x c y) alike (row_step t j l);
            after = (reaches_walk t true v y u).0 (and_right (reaches t true s x) (reaches t true y u) far);
            other = λ p q.
                eqb-false j i
                (not-true (eqb j i) (and_left (not (eqb j i)) (eqb b a && moves t.source t.label t.target j) near))
                (one_row j i l h (same_row p alike q));
            moves = λ p q.
                contra (and_both (eq-eqb b 0 (alike ∙ p)) (eq-eqb x y q))
                (not-true (eqb b 0 && eqb x y) (and_right (eqb b a) (moves t.source t.label t.target j) rest));
          }

      of_witness : (r : Redundant t s a u) → r.from ≡ x → a ≡ b → r.to ≡ y → witness t i j ≡ true
      unfolding witness rival moves
      of_witness r p q o =
          and_both (and_both (ap not (ne_eqb j i other)) (and_both (eq-eqb b a (sym q)) (ap not (fails still))))
          (and_both (subst (λ (z : ℕ). reaches t true s z ≡ true) p ((reaches_walk t true v s r.from).1 r.before))
          (subst (λ (z : ℕ). reaches t true z u ≡ true) o ((reaches_walk t true v r.to u).1 r.after)))
        where
          other : j ≡ i → ⊥
          other e = r.other (p ∙ ap (λ (k : ℕ). get_or t.source k 0) e) (o ∙ ap (λ (k : ℕ). get_or t.target k 0) e)

          still : (eqb b 0 && eqb x y) ≡ true → ⊥
          still e =
              r.moves (q ∙ eqb-true b 0 (and_left (eqb b 0) (eqb x y) e))
              (p ∙ eqb-true x y (and_right (eqb b 0) (eqb x y) e) ∙ sym o)

    -- row i can go exactly if it is redundant in document 01's words
    pub redundant_exactly : (redundant t i ≡ true) ↔ Redundant t s a u
    unfolding redundant
    redundant_exactly = (
      λ e. let p = some_out t.m (witness t i) e in witness_of p.at p.below p.passes,
      λ r.
          let p = step_row t r.from a r.to r.row in
          some_in t.m (witness t i) p.row p.below (of_witness p.row p.below r p.source p.label p.target),
    )

  -- ---- the rows that stay
  -- a row stays exactly if it was there and is not redundant
  pub remaining_exactly :
      (s a u : ℕ) → StepIn (remaining_rows t) s a u ↔ (Step t s a u × (Redundant t s a u → ⊥))
  unfolding remaining_rows remains row_in
  remaining_exactly s a u = (
    λ k.
        let r = map_out (row_at t) (members t.m (remains t)) (s, (a, u)) k in
        let p = members_out (remains t) t.m r.0 r.1 in (
          subst (λ (x : Row). Step t x.0 x.1.0 x.1.1) (sym r.2) (row_step t r.0 p.0),
          λ q.
              contra ((redundant_exactly r.0 p.0).1 (subst (λ (x : Row). Redundant t x.0 x.1.0 x.1.1) r.2 q))
              (not-true _ p.1),
        ),
    λ k.
        let r = step_row t s a u k.0 in
        let e : (s, (a, u)) ≡ row_at t r.row = same_row r.source r.label r.target in
        let back : Redundant t (get_or t.source r.row 0) (get_or t.label r.row 0) (get_or t.target r.row 0) → ⊥
        = λ q. k.1 (subst (λ (x : Row). Redundant t x.0 x.1.0 x.1.1) (sym e) q) in
        subst (λ (x : Row). Mem x (remaining_rows t)) (sym e)
        (map_in (row_at t) (members t.m (remains t)) r.row
        (members_in (remains t) t.m r.row r.below
        (ap not (fails (λ q. back ((redundant_exactly r.row r.below).0 q)))))),
  )

  pub remaining_ascending : Ascending row_lt (remaining_rows t)
  unfolding remaining_rows
  remaining_ascending =
      map_ascending (row_at t) ltb row_lt (members t.m (remains t))
      (λ i j h k e. v.ascending i j (ltb-true i j e) (members_out (remains t) t.m j k).0) (members_ascending (remains t) t.m)

  -- no other list of rows is ascending and has just the rows that stay
  pub remaining_unique :
      (l : List Row) → Ascending row_lt l
      → ((s a u : ℕ) → StepIn l s a u ↔ (Step t s a u × (Redundant t s a u → ⊥))) → l ≡ remaining_rows t
  remaining_unique l up is =
      ascending_unique row_lt row_order l (remaining_rows t) up remaining_ascending
      (λ z k. (remaining_exactly z.0 z.1.0 z.1.1).1 ((is z.0 z.1.0 z.1.1).0 k))
      (λ z k. (is z.0 z.1.0 z.1.1).1 ((remaining_exactly z.0 z.1.0 z.1.1).0 k))

  -- ---- column by column
  cells : (c : List ℕ) → t.m ≤ length c
      → map (cell c) (members t.m (remains t)) ≡ map (λ i. get_or c i 0) (members t.m (remains t))
  unfolding cell
  cells c w =
      map_alike (λ i. get_or c i i) (λ i. get_or c i 0) (members t.m (remains t))
      (λ i k. get_d_any c i i 0 (omega (arith, (members_out (remains t) t.m i k).0)))

  first_of_lem : first_of (remaining_rows t) ≡ map (cell t.source) (members t.m (remains t))
  unfolding remaining_rows row_in
  first_of_lem = map-map (λ (r : Row). r.0) (row_at t) (members t.m (remains t)) ∙ sym (cells t.source v.long.source)

  second_of_lem : second_of (remaining_rows t) ≡ map (cell t.label) (members t.m (remains t))
  unfolding remaining_rows row_in
  second_of_lem = map-map (λ (r : Row). r.1.0) (row_at t) (members t.m (remains t)) ∙ sym (cells t.label v.long.label)

  third_of_lem : third_of (remaining_rows t) ≡ map (cell t.target) (members t.m (remains t))
  unfolding remaining_rows row_in
  third_of_lem = map-map (λ (r : Row). r.1.1) (row_at t) (members t.m (remains t)) ∙ sym (cells t.target v.long.target)

  -- the cells that the numbers of these rows name, over three columns
  pub remaining_over :
      (l x y z x' y' z' : List ℕ) → l ≡ members t.m (remains t) → x' ≡ over (map (cell t.source) l) x
      → y' ≡ over (map (cell t.label) l) y → z' ≡ over (map (cell t.target) l) z
      → (x', (y', z')) ≡ rows_over (remaining_rows t) (x, (y, z))
  unfolding rows_over
  remaining_over l x y z x' y' z' e ex ey ez = rw (first_of_lem, second_of_lem, third_of_lem, ex, ey, ez, e)

pub remaining_count : (t : Lts) → length (remaining_rows t) ≡ many t.m (remains t)
unfolding remaining_rows
remaining_count t = length-map (members t.m (remains t)) (row_at t) ∙ length-members (remains t) t.m
