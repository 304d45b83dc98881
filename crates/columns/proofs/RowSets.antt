-- Rows in three columns: the set of the rows.
use mathlib.Core.Path.{◌≡◌, refl, sym, ap, ◌∙◌}
use mathlib.Core.Bool.{Bool, true}
use mathlib.Core.List.{List, [], ◌∷◌, ◌++◌, map, map-map}
use Prim.Native.Nat.{ℕ, ◌≤◌, ◌<◌}
use native.Mathlib.Omega.{arith}
use lib.ListN.{length, get_or, take, drop, length-map, length-append}
use lib.Seq.{take-append-le, length-take-le, drop_at}
use Rattle.columns.specs.Sets.{insert, collect, row_lt, Row}
use Rattle.columns.specs.Sort.{sort}
use Rattle.columns.specs.Columns.{listed, cell, key_of, sort_by}
use Rattle.columns.specs.Rows.{firsts_by, pick_rows, picked, rows_of, row_set, first_of, second_of, third_of}
use Rattle.columns.proofs.Orders.{row_order}
use Rattle.columns.proofs.Parts.{length_fronted}
use Rattle.columns.proofs.Sorts.{firsts_sort, firsts_length, length_sort}
use Rattle.columns.proofs.Lists.{get_d_any, listed_cong, map-listed, length-listed, take-over}

-- ---- the set of the rows
pub key_row : (a b c : List ℕ) (i : ℕ) → i < length a → i < length b → i < length c → key_of a b c i ≡ (get_or a i 0, (get_or b i 0, get_or c i 0))
unfolding key_of cell
key_row a b c i ha hb hc = rw (get_d_any a i i 0 ha, get_d_any b i i 0 hb, get_d_any c i i 0 hc)

pub collect_map : {A B C : Type 0} (lt : C → C → Bool) (f : A → B) (g : B → C) (l : List A) →
    collect lt (λ r. true) (λ r. g (f r)) l ≡ collect lt (λ r. true) g (map f l)
unfolding collect
collect_map lt f g [] = refl
collect_map lt f g (x ∷ l) = ap (insert lt (g (f x))) (collect_map lt f g l)

module _ (m : ℕ) (a b c : List ℕ) (ha : m ≤ length a) (hb : m ≤ length b) (hc : m ≤ length c) where
  -- the rows that are picked are the set of the rows
  pub picked-rows : map (key_of a b c) (pick_rows m a b c) ≡ row_set m a b c
  unfolding pick_rows firsts_by sort_by row_set rows_of
  picked-rows =
      firsts_sort row_lt (key_of a b c) row_order (listed m (λ k. k))
      ∙ collect_map row_lt (key_of a b c) (λ r. r) (listed m (λ k. k))
      ∙ ap (collect row_lt (λ r. true) (λ r. r))
      (map-listed (key_of a b c) m (λ k. k)
      ∙ listed_cong m (key_of a b c) (λ i. (get_or a i 0, (get_or b i 0, get_or c i 0)))
      (λ i w. key_row a b c i (omega arith) (omega arith) (omega arith)))

  pub count_rows : length (pick_rows m a b c) ≡ length (row_set m a b c)
  count_rows = sym (length-map (pick_rows m a b c) (key_of a b c)) ∙ ap length picked-rows

  -- column by column
  pub first-column : map (cell a) (pick_rows m a b c) ≡ first_of (row_set m a b c)
  unfolding key_of
  first-column = sym (map-map (λ (r : Row). r.0) (key_of a b c) (pick_rows m a b c)) ∙ ap first_of picked-rows

  pub second_column : map (cell b) (pick_rows m a b c) ≡ second_of (row_set m a b c)
  unfolding key_of
  second_column = sym (map-map (λ (r : Row). r.1.0) (key_of a b c) (pick_rows m a b c)) ∙ ap second_of picked-rows

  pub third_column : map (cell c) (pick_rows m a b c) ≡ third_of (row_set m a b c)
  unfolding key_of
  third_column = sym (map-map (λ (r : Row). r.1.1) (key_of a b c) (pick_rows m a b c)) ∙ ap third_of picked-rows

module _ (m : ℕ) (a b c : List ℕ) where
  pub few_picked : length (pick_rows m a b c) ≤ m
  unfolding pick_rows firsts_by sort_by
  few_picked =
      omega (
        arith,
        firsts_length row_lt (key_of a b c) row_order (sort row_lt (key_of a b c) (listed m (λ k. k))),
        length_sort row_lt (key_of a b c) row_order (listed m (λ k. k)),
        length-listed m (λ k. k),
      )

  pub take-picked : take (length (pick_rows m a b c)) (picked m a b c) ≡ pick_rows m a b c
  unfolding picked
  take-picked = take-over (pick_rows m a b c) (sort_by a b c (listed m (λ k. k)))

-- the numbers picked in the first m cells of a column o, which came back as p
pub record RowsLent (m r : ℕ) (a b c o p : List ℕ) : Type 0 where
  pub count : r ≡ length (pick_rows m a b c)
  pub few : r ≤ m
  pub wide : m ≤ length (p ++ drop m o)
  pub long : length (p ++ drop m o) ≡ length o
  pub front : take r (p ++ drop m o) ≡ pick_rows m a b c
  pub rest : drop m (p ++ drop m o) ≡ drop m o

pub lent : (m r : ℕ) (a b c o p : List ℕ) → m ≤ length o → r ≡ length (pick_rows (length (take m o)) a b c) →
    p ≡ picked (length (take m o)) a b c → length p ≡ length (take m o)
    → RowsLent m r a b c o p
lent m r a b c o p w e f n =
    let k : length (take m o) ≡ m = length-take-le m o w in
    let e' : r ≡ length (pick_rows m a b c) = e ∙ ap (λ (i : ℕ). length (pick_rows i a b c)) k in
    let f' : p ≡ picked m a b c = f ∙ ap (λ (i : ℕ). picked i a b c) k in
    record {
      count = e';
      few = omega (arith, few_picked m a b c);
      wide = omega (arith, length-append p (drop m o));
      long = length_fronted m o p w n;
      front = take-append-le r p (drop m o) (omega (arith, few_picked m a b c)) ∙ ap (λ (i : ℕ). take i p) e' ∙
          ap (take (length (pick_rows m a b c))) f' ∙ take-picked m a b c;
      rest = drop_at p (drop m o) m (n ∙ k);
    }
