-- What a call that writes a signature means where it says done.
use Rattle.std.specs.Prelude.{◌≡◌, ℕ, ◌≤◌, Bool, true, false, cond, leb, ◌↔◌, List, [], ◌∷◌, length, drop}
use native.Mathlib.Omega.{arith}
use borrow.Author.Tests.{leb-true}
use mathlib.Core.Path.{refl, ap, ap₂, sym, subst, ◌∙◌}
use lib.ListN.{length-map}
use lib.Seq.{drop_at}
use Rattle.columns.specs.Answers.{Refusal}
use Rattle.columns.specs.Answers.{Said, done, refused}
use Rattle.columns.specs.Columns.{over, zeroed}
use Rattle.columns.specs.Rows.{pairs_of, first_of, last_of}
use Rattle.columns.specs.Sets.{Mem, Pair, pair_lt, Ascending}
use Rattle.columns.proofs.Bools.{and_left, and_right}
use Rattle.columns.proofs.Saying.{apart}
use Rattle.columns.proofs.TwoColumns.{pairs-over}
use Rattle.columns.specs.Limits.{no_room}
use Rattle.columns.proofs.Doing.{unless_done}
use Rattle.signatures.specs.Pairs.{Columns, room_for, fits, pairs_over}
use Rattle.signatures.specs.Signing.{Left, finishing, signing}

-- the call has answered k, for result columns `out` and work slices `works`: the first k cells of the columns are the signature, pairs
-- ascending and none twice; a pair is in it exactly if `In` says so; nothing behind them has changed, and the work slices are zero
pub record Signed (In : Pair → Type 0) (out : Columns) (works : List (List ℕ)) (k : ℕ) (left : Left) : Type 0 where
  pub room : (k ≤ length out.0) × (k ≤ length out.1)
  pub ascending : Ascending pair_lt (pairs_of k left.0.0 left.0.1)
  pub exactly : (p : Pair) → Mem p (pairs_of k left.0.0 left.0.1) ↔ In p
  pub behind : (drop k left.0.0 ≡ drop k out.0) × (drop k left.0.1 ≡ drop k out.1)
  pub work : left.1 ≡ zeroed works

module _ (r : Refusal) (pushed : ℕ) (pairs : List Pair) (out : Columns) (works : List (List ℕ)) (k : ℕ) (left : Left) where
  -- a call that says done was not refused, had room, and has written its pairs
  record Written : Type 0 where
    accepted : r.number ≡ 0
    enough : fits pushed out ≡ true
    count : k ≡ length pairs
    columns : left.0 ≡ pairs_over pairs out
    work : left.1 ≡ zeroed works

  -- what is written, by whether there is room
  abbrev wrote : Bool → Said × Columns
  wrote b = cond b (done (length pairs ∷ []), pairs_over pairs out) (refused no_room pushed, out)

  finished : (b : Bool) → fits pushed out ≡ b → r.number ≡ 0
      → ◌≡◌ {A = Said × Left} ((wrote b).0, ((wrote b).1, zeroed works)) (done (k ∷ []), left) → Written
  finished true f z e =
      let said : done (length pairs ∷ []) ≡ done (k ∷ []) = ap (λ (t : Said × Left). t.0) e in
      let count : length pairs ≡ k = cc in
      record {
        accepted = z;
        enough = f;
        count = sym count;
        columns = sym (ap (λ (t : Said × Left). t.1.0) e);
        work = sym (ap (λ (t : Said × Left). t.1.1) e);
      }
  finished false f z e = absurd (apart _ _ _ (sym (ap (λ (t : Said × Left). t.0) e)))

  written_of : signing r pushed pairs out works ≡ (done (k ∷ []), left) → Written
  unfolding signing finishing
  written_of e =
      let d = unless_done r (out, works) left (k ∷ []) (finishing pushed pairs out works) (sym e) in
      finished (fits pushed out) refl d.0 (sym d.1)

  module _ (e : signing r pushed pairs out works ≡ (done (k ∷ []), left)) where
    pub signing_accepted : r.number ≡ 0
    signing_accepted = (written_of e).accepted

    pub signing_signed :
        (In : Pair → Type 0) → length pairs ≤ pushed → Ascending pair_lt pairs → ((p : Pair) → Mem p pairs ↔ In p) →
        Signed In out works k left
    unfolding fits room_for pairs_over over
    signing_signed In few up has =
        let w = written_of e in
        let x = length out.0 in
        let y = length out.1 in
        let same : pairs_of k left.0.0 left.0.1 ≡ pairs =
        ap₂ (λ (n : ℕ) (c : Columns). pairs_of n c.0 c.1) w.count w.columns ∙ pairs-over pairs out.0 out.1 in
        let first : length (first_of pairs) ≡ k = length-map pairs (λ (q : Pair). q.0) ∙ sym w.count in
        let last : length (last_of pairs) ≡ k = length-map pairs (λ (q : Pair). q.1) ∙ sym w.count in
        record {
          room = (
            omega (arith, w.count, few, leb-true pushed x (and_left (leb pushed x) (leb pushed y) w.enough)),
            omega (arith, w.count, few, leb-true pushed y (and_right (leb pushed x) (leb pushed y) w.enough)),
          );
          ascending = subst (λ (l : List Pair). Ascending pair_lt l) (sym same) up;
          exactly = λ p. subst (λ (l : List Pair). Mem p l ↔ In p) (sym same) (has p);
          behind = (
            ap (λ (c : Columns). drop k c.0) w.columns ∙ drop_at (first_of pairs) (drop (length (first_of pairs)) out.0) k first
                ∙ ap (λ (n : ℕ). drop n out.0) first,
            ap (λ (c : Columns). drop k c.1) w.columns ∙ drop_at (last_of pairs) (drop (length (last_of pairs)) out.1) k last
                ∙ ap (λ (n : ℕ). drop n out.1) last,
          );
          work = w.work;
        }
