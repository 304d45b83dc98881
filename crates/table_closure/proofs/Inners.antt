-- The inner rows of a block's states, sorted by target, then source, then label, are `InnerList`.
use Rattle.std.specs.Prelude.{◌≡◌, ℕ, ◌+◌, ◌-◌, ◌<◌, ◌≤◌, Bool, true, ◌&&◌, eqb, ltb, ◌⊎◌, List, ◌++◌, length, get_or, take, drop}
use native.Mathlib.Omega.{arith}
use native.Mathlib.Nat.{eq-or-lt_of_le}
use borrow.Author.Tests.{ltb-true, eqb-true, eq-eqb}
use mathlib.Core.Path.{ap, ap₂, sym, subst, ◌∙◌}
use mathlib.Core.Logic.{inl, inr, ⊎_elim}
use lib.ListN.{length-append}
use lib.Seq.{length-take-le, take_at, get_or-take, get_or-append-add, get_or-drop}
use Rattle.columns.specs.Columns.{key_of, sort_by}
use Rattle.columns.specs.Sets.{Mem, Row, row_lt, pair_lt}
use Rattle.columns.specs.Sort.{sort}
use Rattle.columns.proofs.All.{lt-or-le}
use Rattle.columns.proofs.Apart.{Apart, sort_ascending}
use Rattle.columns.proofs.ApartLists.{apart_laid, apart_members}
use Rattle.columns.proofs.Bools.{and_left, and_right, and_both, contra}
use Rattle.columns.proofs.Facts.{sort_in, sort_out, at_mem, mem_at}
use Rattle.columns.proofs.Laid.{laid_in, laid_out}
use Rattle.columns.proofs.Members.{members_in, members_out}
use Rattle.columns.proofs.Orders.{row_order, lex-split, ltb_order, pair_order, asym}
use Rattle.columns.proofs.Risings.{ascending_at}
use Rattle.columns.proofs.Sorts.{length_sort}
use Rattle.columns.specs.Rows.{row_in}
use Rattle.table.specs.Incoming.{back_row}
use Rattle.table.specs.Lts.{Lts, Valid}
use Rattle.table.proofs.Incomings.{key_back, back_apart}
use Rattle.table.proofs.Stretches.{incoming_up}
use Rattle.table_closure.specs.Closure.{silentb}
use Rattle.table_closure.specs.Inner.{innerb, inner_rows, Stands, InnerList}
use Rattle.table_closure.proofs.Listing.{inner_of}

-- ---- the rows of a table by target
module _ (t : Lts) (v : Valid t) where
  key : ℕ → Row
  key = key_of t.target t.source t.label

  -- no two rows are the same
  key_apart : (i j : ℕ) → i < j → j < t.m → key i ≡ key j → ⊥
  unfolding key
  key_apart i j h l e = back_apart t v i j h l (sym (key_back t v i (omega (arith, h, l))) ∙ e ∙ key_back t v j l)

  key_same : (i j : ℕ) → i < t.m → j < t.m → key i ≡ key j → i ≡ j
  key_same i j a b e =
      ⊎_elim (λ (w : i < j). absurd (key_apart i j w b e))
      (λ (w : j ≤ i). ⊎_elim (λ (q : j ≡ i). sym q) (λ (q : j < i). absurd (key_apart j i q a (sym e))) (eq-or-lt_of_le w)) (lt-or-le i j)

  -- by target, and among equals as the rows come
  key_up :
      (i j : ℕ) → i < t.m → j < t.m → row_lt (key i) (key j) ≡ true
      → (get_or t.target i 0 < get_or t.target j 0) ⊎ ((get_or t.target i 0 ≡ get_or t.target j 0) × (i < j))
  unfolding key row_in row_lt
  key_up i j a b e =
      let r : row_lt (back_row t i) (back_row t j) ≡ true = sym (ap₂ row_lt (key_back t v i a) (key_back t v j b)) ∙ e in
      ⊎_elim (λ (q : ltb (get_or t.target i 0) (get_or t.target j 0) ≡ true). inl (ltb-true _ _ q))
      (λ q. inr (q.0, behind q.0 q.1)) (lex-split ltb pair_lt ltb_order pair_order (back_row t i) (back_row t j) r)
    where
      behind : get_or t.target i 0 ≡ get_or t.target j 0 →
          pair_lt (get_or t.source i 0, get_or t.label i 0) (get_or t.source j 0, get_or t.label j 0) ≡ true → i < j
      behind q r =
          ⊎_elim (λ (w : i < j). w)
          (λ (w : j ≤ i).
          ⊎_elim (λ (s : j ≡ i). absurd
          (contra r (ap (λ (k : ℕ). pair_lt (get_or t.source i 0, get_or t.label i 0) (get_or t.source k 0, get_or t.label k 0)) s ∙
          pair_order.irrefl (get_or t.source i 0, get_or t.label i 0))))
          (λ (s : j < i). absurd (contra r (asym pair_order (get_or t.source j 0, get_or t.label j 0)
          (get_or t.source i 0, get_or t.label i 0) (incoming_up t v j i s a (sym q)))))
          (eq-or-lt_of_le w))
          (lt-or-le i j)

  -- ---- the inner rows of a block
  module _ (home : List ℕ) (b : ℕ) (elements : List ℕ) (x z : ℕ) (s : Stands t.n elements home b x z) where
    rows : ℕ → List ℕ
    rows j = inner_rows t home b (get_or elements (x + j) 0)

    own : ℕ → ℕ → Bool
    own j i = eqb (get_or t.source i 0) (get_or elements (x + j) 0) && innerb t home b i

    rows_out : (i j : ℕ) → Mem i (rows j) → (i < t.m) × ((get_or t.source i 0 ≡ get_or elements (x + j) 0) × (innerb t home b i ≡ true))
    unfolding rows inner_rows own
    rows_out i j m =
        let r = members_out (own j) t.m i m in (
          r.0,
          (
            eqb-true _ _ (and_left (eqb (get_or t.source i 0) (get_or elements (x + j) 0)) (innerb t home b i) r.1),
            and_right (eqb (get_or t.source i 0) (get_or elements (x + j) 0)) (innerb t home b i) r.1,
          ),
        )

    listed_out : (i : ℕ) → Mem i (inner_of t home b elements x (z - x)) → (i < t.m) × (innerb t home b i ≡ true)
    unfolding rows
    listed_out i m = let r = laid_out rows i (z - x) m in let q = rows_out i r.0 r.2 in (q.0, q.1.1)

    listed_in : (i : ℕ) → i < t.m → innerb t home b i ≡ true → Mem i (inner_of t home b elements x (z - x))
    unfolding rows inner_rows own innerb silentb
    listed_in i w e =
        let silent : silentb t home b i ≡ true = and_left (silentb t home b i) (eqb (get_or home (get_or t.target i 0) 0) b) e in
        let stays : get_or home (get_or t.source i 0) 0 ≡ b =
        eqb-true _ _ (and_right (eqb (get_or t.label i 0) 0) (eqb (get_or home (get_or t.source i 0) 0) b) silent) in
        let r = s.all (get_or t.source i 0) (v.fields i w).source stays in
        let k : ℕ = r.0 in
        let whole : x + (k - x) ≡ k = omega (arith, r.1) in
        laid_in rows i (k - x) (z - x) (omega (arith, r.1, r.2))
        (members_in (own (k - x)) t.m i w
        (and_both (eq-eqb _ _ (sym (ap (λ (j : ℕ). get_or elements j 0) whole ∙ r.3))) e))

    listed_apart : Apart key (inner_of t home b elements x (z - x))
    unfolding rows inner_rows own
    listed_apart =
        apart_laid key rows (z - x) (λ j w. apart_members key (own j) t.m key_apart)
        (λ i j a c p q m n e.
        let f = rows_out p i m in
        let g = rows_out q j n in
        let same : p ≡ q = key_same p q f.0 g.0 e in
        let at : get_or elements (x + i) 0 ≡ get_or elements (x + j) 0 = sym f.1.0 ∙ ap (λ (k : ℕ). get_or t.source k 0) same ∙ g.1.0 in
        let one : i ≡ j = s.stand.once i j (omega (arith, a, c)) c at in
        omega (arith, one, a))

    -- sorted on the first h cells of a column
    pub inner_law :
        (order : List ℕ) (h : ℕ) → h ≤ length order → h ≤ t.m
        → take h order ≡ sort_by t.target t.source t.label (inner_of t home b elements x (z - x)) → InnerList t home b order h
    unfolding sort_by key
    inner_law order h fits few e =
        record {
          room = fits;
          few = few;
          row = λ j w. (out j w).0;
          inner = λ j w. (out j w).1;
          ascending = λ j k u w.
              key_up (get_or order j 0) (get_or order k 0) (out j (omega (arith, u, w))).0 (out k w).0
              (sym (ap₂ (λ (p q : ℕ). row_lt (key p) (key q)) (cell j (omega (arith, u, w))) (cell k w))
              ∙ ascending_at (λ p q. row_lt (key p) (key q)) (sort row_lt key l) (sort_ascending row_lt key row_order l listed_apart) j k u
              (omega (arith, w, size)));
          all = λ i w y.
              let q = mem_at (sort row_lt key l) i (sort_in row_lt key row_order l i (listed_in i w y)) in
              let u : q.0 < h = omega (arith, q.1, size) in
              (q.0, u, sym (cell q.0 u) ∙ q.2);
        }
      where
        l : List ℕ
        l = inner_of t home b elements x (z - x)

        size : length (sort row_lt key l) ≡ h
        size = sym (ap length e) ∙ length-take-le h order fits

        cell : (j : ℕ) → j < h → get_or (sort row_lt key l) j 0 ≡ get_or order j 0
        cell j w = sym (ap (λ (a : List ℕ). get_or a j 0) e) ∙ get_or-take h order j 0 w

        out : (j : ℕ) → j < h → (get_or order j 0 < t.m) × (innerb t home b (get_or order j 0) ≡ true)
        out j w =
            listed_out (get_or order j 0)
            (sort_out row_lt key row_order l (get_or order j 0)
            (subst (λ (i : ℕ). Mem i (sort row_lt key l)) (cell j w) (at_mem (sort row_lt key l) j (omega (arith, w, size)))))

    -- the first h cells of a column that is zero behind them, lent and come back sorted
    pub inner_sorted :
        (order y : List ℕ) (h : ℕ) → h ≤ length order → h ≤ t.m → take h order ≡ inner_of t home b elements x (z - x)
        → y ≡ sort_by t.target t.source t.label (take h order) → ((k : ℕ) → h ≤ k → get_or order k 0 ≡ 0)
        → InnerList t home b (y ++ drop h order) h × ((k : ℕ) → h ≤ k → get_or (y ++ drop h order) k 0 ≡ 0)
    unfolding sort_by
    inner_sorted order y h fits few e g rest = (
      inner_law (y ++ drop h order) h (omega (arith, long, length-append y (drop h order))) few
          (take_at y (drop h order) h long ∙ g ∙ ap (sort_by t.target t.source t.label) e),
      λ k w.
          let q : k ≡ length y + (k - h) = omega (arith, w, long) in
          let r : h + (k - h) ≡ k = omega (arith, w) in
          ap (λ (j : ℕ). get_or (y ++ drop h order) j 0) q ∙ get_or-append-add y (drop h order) (k - h) 0 ∙ get_or-drop h order (k - h) 0
          ∙ ap (λ (j : ℕ). get_or order j 0) r ∙ rest k w,
    )
      where
        long : length y ≡ h
        long = ap length g ∙ length_sort row_lt (key_of t.target t.source t.label) row_order (take h order) ∙
            length-take-le h order fits
