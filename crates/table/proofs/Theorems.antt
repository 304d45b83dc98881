-- What the calls on a table say and leave once they are done, in document 01's words.
use Rattle.std.specs.Prelude.{◌≡◌, ℕ, ◌<◌, ◌≤◌, Bool, true, eqb, ltb, ◌⊎◌, List, [], ◌∷◌, length, get_or}
use mathlib.Core.Path.{refl, sym, ap, subst, ◌∙◌}
use mathlib.Core.Logic.{⊎_elim}
use native.Mathlib.Omega.{arith}
use native.Mathlib.Nat.{eq-or-lt_of_le}
use borrow.Author.Tests.{ltb-true}
use Rattle.columns.specs.Answers.{done}
use Rattle.columns.specs.Columns.{over, written, zeros}
use Rattle.columns.specs.Counting.{many, bit}
use Rattle.columns.specs.Sets.{Row, row_lt, pair_lt}
use Rattle.columns.proofs.All.{lt-or-le}
use Rattle.columns.proofs.Bools.{contra}
use Rattle.columns.proofs.Counting.{many_cong, bit_two, bit_one, bit-eqb}
use Rattle.columns.proofs.Lists.{length_over, over_front, length-written, written_at, written_after, over-after}
use Rattle.columns.proofs.Orders.{row_order, lex-split, ltb_order, pair_order}
use Rattle.columns.specs.Rows.{row_in}
use Rattle.table.specs.Incoming.{incoming_order, back_row, incoming_refusal, incoming_rows}
use Rattle.table.specs.Lts.{Lts, Valid}
use Rattle.table.specs.Promise.{Reached, IncomingList, Beyond}
use Rattle.table.specs.Reach.{reaches, reach_refusal, reachable}
use Rattle.table.specs.Stretch.{ByTarget, listed_target}
use Rattle.table.proofs.Incomings.{incoming_length, incoming_law, incoming_by_target, incoming_ready}
use Rattle.table.proofs.RowsInto.{into_stretch}
use Rattle.table.proofs.Sayings.{left-said}
use Rattle.table.proofs.Searching.{reach_ready}
use Rattle.table.proofs.Walks.{reaches_walk}
-- The rows of a state are one run of the rows, those of another one apart; the rows into a state are met one after the other.
pub use Rattle.table.proofs.Runs.{outgoing_run, outgoing_done}
pub use Rattle.table.proofs.RowsOf.{rows_apart}
pub use Rattle.table.proofs.Meetings.{met_rows, met_ascending, met_steps}
-- ---- reachability
-- An edge is a step under some label that is taken, and a state reaches another exactly if there is a way along edges.
pub use Rattle.table.proofs.Walks.{edge_step, reaches_walk}

pub record ReachableDone (t : Lts) (hidden : Bool) (s : ℕ) (reached queue : List ℕ) (k : ℕ) (cells work : List ℕ) : Type 0 where
  pub valid : Valid t
  pub known : s < t.n
  pub answer : Reached t hidden s k cells
  pub beyond : Beyond t.n reached cells
  pub cleared : work ≡ zeros (length queue)

module _ (t : Lts) (hidden : Bool) (s : ℕ) (reached queue : List ℕ) where
  marked : List ℕ
  marked = written t.n (λ u. bit (reaches t hidden s u)) reached

  mark_at : (u : ℕ) → u < t.n → get_or marked u 0 ≡ bit (reaches t hidden s u)
  unfolding marked
  mark_at u h = written_at t.n (λ u. bit (reaches t hidden s u)) reached u h

  marked_reached : Valid t → Reached t hidden s (many t.n (reaches t hidden s)) marked
  marked_reached v = record {
    flag = λ u h. subst (λ (x : ℕ). (x ≡ 1) ⊎ (x ≡ 0)) (sym (mark_at u h)) (bit_two (reaches t hidden s u));
    exactly = λ u h. (
      λ e. (reaches_walk t hidden v s u).0 (bit_one (reaches t hidden s u) (sym (mark_at u h) ∙ e)),
      λ w. mark_at u h ∙ ap bit ((reaches_walk t hidden v s u).1 w),
    );
    count = many_cong t.n (reaches t hidden s) (λ u. eqb (get_or marked u 0) 1)
        (λ u h. bit-eqb (reaches t hidden s u) ∙ ap (λ (x : ℕ). eqb x 1) (sym (mark_at u h)));
  }

  marked_beyond : t.n ≤ length reached → Beyond t.n reached marked
  unfolding marked
  marked_beyond l = record {
    size = length-written t.n (λ u. bit (reaches t hidden s u)) reached l;
    cell = written_after t.n (λ u. bit (reaches t hidden s u)) reached;
  }

  -- the count is the number of states with 1, and a state has 1 exactly if there is a way to it
  pub reachable_done :
      (k : ℕ) (cells work : List ℕ) → reachable t hidden s reached queue ≡ (done (k ∷ []), (cells, work))
      → ReachableDone t hidden s reached queue k cells work
  unfolding reachable marked
  reachable_done k cells work e =
      let r = reach_refusal t s (length reached) (length queue) in
      let d = left-said r (reached, queue) (marked, zeros (length queue)) (cells, work) (many t.n (reaches t hidden s) ∷ [])
      (k ∷ []) e in
      let q = reach_ready t s (length reached) (length queue) d.0 in
      let c : marked ≡ cells = ap (λ (x : List ℕ × List ℕ). x.0) d.1.1 in
      let p : many t.n (reaches t hidden s) ≡ k = cc d.1.0 in
      record {
        valid = q.valid;
        known = q.known;
        answer = subst (Reached t hidden s k) c (subst (λ (j : ℕ). Reached t hidden s j marked) p (marked_reached q.valid));
        beyond = subst (Beyond t.n reached) c (marked_beyond q.long);
        cleared = sym (ap (λ (x : List ℕ × List ℕ). x.1) d.1.1);
      }

-- ---- the incoming list
module _ (t : Lts) (v : Valid t) (cells : List ℕ) (room : t.m ≤ length cells)
    (same : (p : ℕ) → p < t.m → get_or cells p 0 ≡ get_or (incoming_order t) p 0) where
  target_at : (p : ℕ) → p < t.m → listed_target t.target cells p ≡ listed_target t.target (incoming_order t) p
  target_at p h = ap (λ (i : ℕ). get_or t.target i 0) (same p h)

  by_target : ByTarget t.target cells t.m
  by_target = record {
    room = room;
    row = λ p h. omega (arith, same p h, (incoming_by_target t v).row p h);
    rising = λ p q a h. omega (arith, target_at p (omega arith), target_at q h, (incoming_by_target t v).rising p q a h);
  }

  -- two places have two rows
  two : (p q : ℕ) → p < q → q < t.m → get_or cells p 0 ≡ get_or cells q 0 → ⊥
  two p q a h e =
      contra ((incoming_law t v).ascending p q a h)
      (ap (λ (i : ℕ). row_lt (back_row t i) (back_row t (get_or (incoming_order t) q 0))) (sym (same p (omega arith)) ∙ (e ∙ same q h))
      ∙ row_order.irrefl (back_row t (get_or (incoming_order t) q 0)))

  ordered : (p q : ℕ) → p < q → q < t.m → listed_target t.target cells p ≡ listed_target t.target cells q
      → pair_lt (get_or t.source (get_or cells p 0) 0, get_or t.label (get_or cells p 0) 0)
      (get_or t.source (get_or cells q 0) 0, get_or t.label (get_or cells q 0) 0) ≡ true
  unfolding row_in row_lt
  ordered p q a h e =
      let x : Row = back_row t (get_or (incoming_order t) p 0) in
      let y : Row = back_row t (get_or (incoming_order t) q 0) in
      rw (same p (omega arith), same q h)
      (⊎_elim
      (λ (l : ltb x.0 y.0 ≡ true). absurd (omega (arith, ltb-true x.0 y.0 l, e, target_at p (omega arith), target_at q h)))
      (λ l. l.1) (lex-split ltb pair_lt ltb_order pair_order x y ((incoming_law t v).ascending p q a h)))

  incoming_list : IncomingList t cells
  incoming_list = record {
    row = λ p h. omega (arith, same p h, (incoming_law t v).row p h);
    once = λ p q a b e.
        ⊎_elim (λ (l : p < q). absurd (two p q l b e))
        (λ (l : q ≤ p). ⊎_elim (λ (j : q ≡ p). sym j) (λ (j : q < p). absurd (two q p j a (sym e))) (eq-or-lt_of_le l)) (lt-or-le p q);
    all = λ i h. let o = (incoming_law t v).onto i h in (o.0, o.1, same o.0 o.1 ∙ o.2);
    into = λ u. into_stretch t.target cells t.m by_target u _ _ refl refl;
    ascending = ordered;
  }

pub record IncomingDone (t : Lts) (result spare : List ℕ) (k : ℕ) (cells work : List ℕ) : Type 0 where
  pub valid : Valid t
  pub count : k ≡ t.m
  pub answer : IncomingList t cells
  pub beyond : Beyond t.m result cells
  pub cleared : work ≡ zeros (length spare)

-- the rows into each state by ascending source, then label, each row once
pub incoming_done :
    (t : Lts) (result spare : List ℕ) (k : ℕ) (cells work : List ℕ) → incoming_rows t result spare ≡ (done (k ∷ []), (cells, work))
    → IncomingDone t result spare k cells work
unfolding incoming_rows
incoming_done t result spare k cells work e =
    let l = incoming_order t in
    let r = incoming_refusal t (length result) (length spare) in
    let d = left-said r (result, spare) (over l result, zeros (length spare)) (cells, work) (t.m ∷ [])
    (k ∷ []) e in
    let q = incoming_ready t (length result) (length spare) r refl d.0 in
    let c : over l result ≡ cells = ap (λ (x : List ℕ × List ℕ). x.0) d.1.1 in
    let p : t.m ≡ k = cc d.1.0 in
    let size : length (over l result) ≡ length result = length_over l result (omega (arith, incoming_length t, q.long)) in
    record {
      valid = q.valid;
      count = sym p;
      answer =
          subst (IncomingList t) c
          (incoming_list t q.valid (over l result) (omega (arith, size, q.long))
          (λ i h. over_front l result i (omega (arith, h, incoming_length t))));
      beyond =
          subst (Beyond t.m result) c
          (record { size = size; cell = λ i h. over-after l result i (omega (arith, h, incoming_length t)) });
      cleared = sym (ap (λ (x : List ℕ × List ℕ). x.1) d.1.1);
    }
