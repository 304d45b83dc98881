-- What the order of the rows says of single columns: the sources never fall, nor do the labels of a state's rows, and the rows into a state
-- come by source, then label. And the next of these.
use Rattle.std.specs.Prelude.{◌≡◌, ℕ, ◌+◌, ◌-◌, ◌<◌, ◌≤◌, Bool, true, eqb, ltb, List, get_or}
use native.Mathlib.Omega.{arith}
use native.Mathlib.Nat.{eq-or-lt_of_le, le_antisymm}
use borrow.Author.Tests.{ltb-true, eqb-true, eq-eqb}
use mathlib.Core.Path.{ap, ◌∙◌}
use mathlib.Core.Logic.{⊎_elim}
use Rattle.columns.specs.Sets.{Pair, row_lt, pair_lt}
use Rattle.columns.proofs.All.{not-below, lt-or-le}
use Rattle.columns.proofs.Bools.{contra}
use Rattle.columns.proofs.Counting.{first_law}
use Rattle.columns.proofs.Orders.{lex-split, lex-first, lex_second, ltb_order, pair_order}
use Rattle.columns.specs.Rows.{row_in}
use Rattle.table.specs.Lts.{Lts, row_at, Valid}
use Rattle.columns.specs.Columns.{NeverFalls}
use Rattle.table.specs.Stretch.{next_incoming}
use Rattle.table.proofs.Finds.{FoundFrom}

-- ---- along the rows
-- the sources of a checked table never fall
pub rising : (t : Lts) → Valid t → NeverFalls t.source t.m
unfolding row_in row_lt
rising t v i j h l =
    ⊎_elim (λ (e : i ≡ j). omega (arith, ap (λ (k : ℕ). get_or t.source k 0) e))
    (λ (k : i < j).
    ⊎_elim (λ (q : ltb (get_or t.source i 0) (get_or t.source j 0) ≡ true). omega
    (arith, ltb-true (get_or t.source i 0) (get_or t.source j 0) q))
    (λ q. omega (arith, q.0)) (lex-split ltb pair_lt ltb_order pair_order (row_at t i) (row_at t j) (v.ascending i j k l)))
    (eq-or-lt_of_le h)

-- ---- the next incoming row
-- r is the least row at or after `from` whose target is u, or m
pub record NextInto (target : List ℕ) (m u from r : ℕ) : Type 0 where
  pub low : from ≤ r
  pub most : r ≤ m
  pub before : (i : ℕ) → from ≤ i → i < r → get_or target i 0 ≡ u → ⊥
  pub hit : r < m → get_or target r 0 ≡ u

module _ (target : List ℕ) (m u from : ℕ) (fits : from ≤ m) where
  pub next_law : NextInto target m u from (next_incoming target m u from)
  unfolding next_incoming
  next_law =
      let f : ℕ → Bool = λ k. eqb (get_or target (from + k) 0) u in
      let q = first_law (m - from) f in
      record {
        low = omega arith;
        most = omega (arith, q.bound);
        before = λ i a b e. contra (eq-eqb _ _ (ap (λ (k : ℕ). get_or target k 0) (whole a) ∙ e))
            (q.before (i - from) (omega (arith, a, b)));
        hit = λ h. eqb-true _ _ (q.hit (omega (arith, h)));
      }
    where
      whole : {i : ℕ} → from ≤ i → from + (i - from) ≡ i
      whole h = omega arith

  -- and no other number is
  next-is : (r : ℕ) → NextInto target m u from r → r ≡ next_incoming target m u from
  next-is r n =
      let q = next_law in
      le_antisymm
      (not-below (λ l. n.before (next_incoming target m u from) q.low l (q.hit (omega (arith, l, n.most)))))
      (not-below (λ l. q.before r n.low l (n.hit (omega (arith, l, q.most)))))

  -- it is found from `from` on
  pub next_found : (r : ℕ) → FoundFrom from m m (λ i. eqb (get_or target i 0) u) r → r ≡ next_incoming target m u from
  next_found r f =
      next-is r
      record {
        low = ⊎_elim (λ (l : r < m). f.low l) (λ (l : m ≤ r). omega arith) (lt-or-le r m);
        most = f.most;
        before = λ i a b e. contra (eq-eqb _ _ e) (f.before i a (omega (arith, b, f.most)) b);
        hit = λ l. eqb-true _ _ (f.hit l);
      }

-- so the incoming rows of a state come by ascending source, then label
pub incoming_up :
    (t : Lts) → Valid t → (i j : ℕ) → i < j → j < t.m → get_or t.target i 0 ≡ get_or t.target j 0
    → pair_lt (get_or t.source i 0, get_or t.label i 0) (get_or t.source j 0, get_or t.label j 0) ≡ true
unfolding row_in row_lt pair_lt
incoming_up t v i j h l e =
    let x : Pair = (get_or t.source i 0, get_or t.label i 0) in
    let y : Pair = (get_or t.source j 0, get_or t.label j 0) in
    ⊎_elim (λ (q : ltb x.0 y.0 ≡ true). lex-first ltb ltb ltb_order ltb_order x y q)
    (λ q. lex_second ltb ltb ltb_order ltb_order x y q.0
    (⊎_elim (λ (k : ltb x.1 y.1 ≡ true). k)
    (λ k. absurd (contra k.1 (ap (λ (z : ℕ). ltb z (get_or t.target j 0)) e ∙ ltb_order.irrefl (get_or t.target j 0))))
    (lex-split ltb ltb ltb_order ltb_order (row_at t i).1 (row_at t j).1 q.1)))
    (lex-split ltb pair_lt ltb_order pair_order (row_at t i) (row_at t j) (v.ascending i j h l))

-- and the rows of a state by ascending label: the hidden ones come first
pub label_up :
    (t : Lts) → Valid t → (i j : ℕ) → i ≤ j → j < t.m → get_or t.source i 0 ≡ get_or t.source j 0 →
    get_or t.label i 0 ≤ get_or t.label j 0
unfolding row_in row_lt pair_lt
label_up t v i j h l e =
    ⊎_elim (λ (q : i ≡ j). omega (arith, ap (λ (k : ℕ). get_or t.label k 0) q))
    (λ (w : i < j).
    ⊎_elim (λ (q : ltb (get_or t.source i 0) (get_or t.source j 0) ≡ true). absurd
    (omega (arith, ltb-true (get_or t.source i 0) (get_or t.source j 0) q, e)))
    (λ q.
    ⊎_elim (λ (k : ltb (get_or t.label i 0) (get_or t.label j 0) ≡ true). omega
    (arith, ltb-true (get_or t.label i 0) (get_or t.label j 0) k))
    (λ k. let z : get_or t.label i 0 ≡ get_or t.label j 0 = k.0 in omega (arith, z))
    (lex-split ltb ltb ltb_order ltb_order (row_at t i).1 (row_at t j).1 q.1))
    (lex-split ltb pair_lt ltb_order pair_order (row_at t i) (row_at t j) (v.ascending i j w l)))
    (eq-or-lt_of_le h)
